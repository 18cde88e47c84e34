use Rattle.trace_lines.proofs.Names.{services_none}
use Rattle.trace_lines.proofs.Repeats.{uses_none}
use Rattle.trace_lines.proofs.gathered.Gathered.new.Goals as goal

pub returns : goal.returns
returns g c = record {
  uses = uses_none c.new-uses.result c.new-uses.ensures.empty;
  services = services_none c.new-services.result c.new-services.ensures.empty;
  frame = c.no_time.ensures;
}

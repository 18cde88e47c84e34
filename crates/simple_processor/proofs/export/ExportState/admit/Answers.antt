use Rattle.std.proofs.Common.{rules}
use Rattle.retry_core.specs.Retries.{fate_view}
use Rattle.simple_processor.proofs.export.ExportState.admit.Goals as goal

pub returns-in-Some : goal.returns-in-Some
returns-in-Some g c = record {
  admits = search rules;
  is_next = search rules;
  fate = fate_view c.in-Ok.fate;
  sent = search rules;
  state = search rules;
}

pub returns-in_default : goal.returns-in_default
returns-in_default g c = record {
  admits = search rules;
  is_next = search rules;
  fate = fate_view c.in-Ok.fate;
  sent = search rules;
  state = search rules;
}

use Rattle.view_json.specs.Spans.{trace_seen}
use Rattle.view_json.proofs.Printed.{whole_read}
use Rattle.view_json.proofs.pieces.TraceJson.new.Goals as goal

pub returns : goal.returns
returns g c = record { json = whole_read (trace_seen c.args.spans.items); text = λ text h. h }

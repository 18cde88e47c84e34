use Rattle.std.proofs.Common.{◌≡◌, ◌∙◌, ap, subst}
use Rattle.std.specs.Prelude.{option_map}
use Rattle.std.specs.Io.KnownBytes.{Appends}
use Rattle.otlp_read.specs.Requests.{request_view}
use Rattle.otlp_collector.specs.Printed.{AppendsFront}
use Rattle.otlp_collector.specs.Served.{connection_line}
use Rattle.otlp_collector.proofs.Prints.{both-begun, both-printed, front-first, line-alone, on-err}
use Rattle.otlp_collector.proofs.Prints.{spans_part}
use Rattle.otlp_collector.proofs.served.print_connection.Goals as goal

pub returns-in_err-write_line-clause-err : goal.returns-in_err-write_line-clause-err
returns-in_err-write_line-clause-err g c =
    let line = connection_line c.args.number c.args.answered.now.status in
    let is : c.as_bytes.result.now ≡ line = c.as_bytes.ensures.value ∙ c.in-Ok.ensures in
    let old = g.O.FaultWrite.contents c.args.output.now in
    let now = g.O.FaultWrite.contents c.write_line.new.output in
    on-err c.from_residual.result _
    (front-first old now line (spans_part (option_map request_view c.args.answered.now.request))
    (subst (AppendsFront old now) is c.in_err-write_line.ensures.err))

pub returns-in-Some-clause-ok : goal.returns-in-Some-clause-ok
returns-in-Some-clause-ok g c =
    let line = connection_line c.args.number c.args.answered.now.status in
    let is : c.as_bytes.result.now ≡ line = c.as_bytes.ensures.value ∙ c.in-Ok.ensures in
    let old = g.O.FaultWrite.contents c.args.output.now in
    let now = g.O.FaultWrite.contents c.write_line.new.output in
    both-printed c.print_spans.result old now
    (g.O.FaultWrite.contents c.print_spans.new.writer) line
    (option_map request_view c.args.answered.now.request) _
    (ap (option_map request_view) c.in-Some.is)
    (subst (Appends old now) is c.in_ok-write_line.ensures.ok) c.print_spans.ensures.ok

pub returns-in-Some-clause-err : goal.returns-in-Some-clause-err
returns-in-Some-clause-err g c =
    let line = connection_line c.args.number c.args.answered.now.status in
    let is : c.as_bytes.result.now ≡ line = c.as_bytes.ensures.value ∙ c.in-Ok.ensures in
    let old = g.O.FaultWrite.contents c.args.output.now in
    let now = g.O.FaultWrite.contents c.write_line.new.output in
    both-begun c.print_spans.result old now (g.O.FaultWrite.contents c.print_spans.new.writer) line
    (option_map request_view c.args.answered.now.request) _
    (ap (option_map request_view) c.in-Some.is)
    (subst (Appends old now) is c.in_ok-write_line.ensures.ok) c.print_spans.ensures.err

pub returns-clause-ok : goal.returns-clause-ok
returns-clause-ok g c =
    let line = connection_line c.args.number c.args.answered.now.status in
    let is : c.as_bytes.result.now ≡ line = c.as_bytes.ensures.value ∙ c.in-Ok.ensures in
    let old = g.O.FaultWrite.contents c.args.output.now in
    let now = g.O.FaultWrite.contents c.write_line.new.output in
    line-alone old now line (option_map request_view c.args.answered.now.request)
    (ap (option_map request_view) c.in-None.is)
    (subst (Appends old now) is c.in_ok-write_line.ensures.ok)

use Rattle.std.proofs.Common.{◌≡◌, sym, subst, ◌∙◌, Err, arith}
use Rattle.model_message.specs.Reading.{Reads}
use Rattle.model_message.specs.Tables
use Rattle.otlp_wire.specs.Faults.{NamesOne}
use Rattle.otlp_read.specs.Requests.{request_view}
use Rattle.otlp_wire.proofs.Finished.{meaning-is, on-ok, on-err}
use Rattle.otlp_read.proofs.request.read_request.Goals as goal

pub returns-in_err-parts-clause-err : goal.returns-in_err-parts-clause-err
returns-in_err-parts-clause-err g c =
    let told : c.from_residual.result ≡ Err c.in_err-parts.field-0.0 = grind arith in
    rw told
    (subst (λ r. NamesOne r.faults c.in_err-parts.field-0.0)
    (sym (meaning-is Tables.request c.args.body.now)) c.in_err-parts.ensures.err)

pub returns-clause-err : goal.returns-clause-err
returns-clause-err g c =
    on-err c.finish.result
    (λ fault k. subst (λ r. NamesOne r.faults fault)
    (sym (meaning-is Tables.request c.args.body.now ∙ c.in_ok-parts.ensures.ok)) k)
    c.finish.ensures.err

pub returns-clause-ok : goal.returns-clause-ok
returns-clause-ok g c =
    on-ok c.finish.result
    (λ x k. subst (λ r. Reads r (request_view x))
    (sym (meaning-is Tables.request c.args.body.now ∙ c.in_ok-parts.ensures.ok)) k)
    c.finish.ensures.ok

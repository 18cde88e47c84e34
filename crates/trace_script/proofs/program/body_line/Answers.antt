use Rattle.std.proofs.Common.{◌≡◌, ap, ◌∙◌, arith}
use Rattle.std.specs.Prelude.{unwrap_or}
use Rattle.trace_script.specs.Recorded.{max_body_of}
use Rattle.trace_script.specs.Printed.{Explains}
use Rattle.trace_script.specs.Program.{failure_of}
use Rattle.trace_script.specs.declared.failure.Failure.TheVariants.{OutOfMemory}
use Rattle.trace_script.proofs.Read.{same-fault, untold}
use Rattle.trace_script.proofs.Steps.{same-script}
use Rattle.trace_script.proofs.program.body_line.Goals as goal

pub returns-clause-line : goal.returns-clause-line
returns-clause-line g c = λ read means.
    let spans = c.spans.ensures ∙ c.in_ok-pass.ensures ∙ same-script c.args.script read means in
    let most : c.unwrap_or-max_body.result ≡ max_body_of read =
    c.unwrap_or-max_body.ensures ∙ ap (λ o. unwrap_or o 4194304) means.max_body in
    let within = c.in_ok-body.ensures.within in
    let size = c.in_ok-body.ensures.length in
    record {
      body = c.in_ok-body.body.items;
      meaning = rw spans at c.in_ok-body.ensures.meaning;
      size = rw spans at c.in_ok-body.ensures.length;
      fits = omega (arith, size, within, most);
      digits = rw c.as_slice.ensures.value at c.in_ok-hex_line.ensures;
    }

pub returns-in_err-pass-clause-fault : goal.returns-in_err-pass-clause-fault
returns-in_err-pass-clause-fault g c =
    λ input.
    same-fault c.from_residual.result (Explains input) OutOfMemory c.from_residual.ensures.1 tt

pub returns-in_err-body-clause-fault : goal.returns-in_err-body-clause-fault
returns-in_err-body-clause-fault g c =
    λ input. same-fault c.from_residual-in_err-body.result (Explains input)
    (failure_of c.in_err-body.field-0.0) c.from_residual-in_err-body.ensures.1
    (untold input c.in_err-body.field-0.0)

pub returns-in_err-hex_line-clause-fault : goal.returns-in_err-hex_line-clause-fault
returns-in_err-hex_line-clause-fault g c =
    λ input. same-fault c.from_residual-in_err-hex_line.result
    (Explains input) OutOfMemory c.from_residual-in_err-hex_line.ensures.1 tt

use Rattle.trace_script.proofs.Contexts.{no_digits, digits_read}
use Rattle.trace_script.proofs.context.span_id.Goals as goal

pub returns-in_default : goal.returns-in_default
returns-in_default c = no_digits 8 c.args.word.now c.in_default.ensures.cases.0

pub returns : goal.returns
returns c =
    rw (← c.in-Ok.ensures.cases.0)
    (digits_read (λ id. id.0) 8 c.in-Ok.digits.now c.from_hex.result c.or.result
    c.from_hex.ensures.value c.from_hex.ensures.ok c.or.ensures)

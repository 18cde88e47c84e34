use Rattle.std.proofs.Common.{sym, ◌∙◌}
use Rattle.otel_settings.proofs.LastOf.{nothing_set, empty_set, text_is_set}
use Rattle.otel_settings.proofs.pairs.text_set.Goals as goal

pub returns-in_err-text : goal.returns-in_err-text
returns-in_err-text c =
    rw c.from_residual.ensures
    (nothing_set c.args.variable _ _ _ c.name.ensures c.last_of.ensures c.in_err-text.was)

pub returns-then-is_empty : goal.returns-then-is_empty
returns-then-is_empty c =
    empty_set c.args.variable _ _ _ _ c.name.ensures c.last_of.ensures c.in_ok-text.was
    (sym c.is_empty.ensures ∙ c.if-is_empty.true)

pub returns : goal.returns
returns c =
    text_is_set c.args.variable _ _ _ _ c.name.ensures c.last_of.ensures c.in_ok-text.was
    (sym c.is_empty.ensures ∙ c.if-is_empty.false)

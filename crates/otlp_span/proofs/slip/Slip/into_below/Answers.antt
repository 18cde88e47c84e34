use Rattle.std.proofs.Common.{◌≤◌, ◌∷◌, sym, ap, ◌∙◌, List, length, Option, None, Some, arith}
use Rattle.model_span.specs.Dropped.{Entry}
use Rattle.otlp_span.specs.Slips.{entries_of, node_entries, slip_count}
use Rattle.otlp_span.specs.Dropped.{entry_view}
use Rattle.otlp_span.proofs.slip.Slip.into_below.Goals as goal

one-more : (e : Entry) (below : Option (List Entry))
    → slip_count below ≤ length (e ∷ entries_of below)
one-more e None = omega arith
one-more e (Some es) = omega arith

pub returns-in-Named : goal.returns-in-Named
returns-in-Named g c =
    let names = ap node_entries (sym c.in-Named.is ∙ c.into_inner.ensures) ∙ c.self.view_is in
    rw (← names) (one-more (entry_view c.in-Named.field-0) c.in-Named.below)

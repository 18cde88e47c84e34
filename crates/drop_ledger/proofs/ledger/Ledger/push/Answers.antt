use Rattle.std.proofs.Common.{ap, ◌∙◌, ◌∷◌}
use Rattle.otlp_span.specs.Dropped.{entry_view}
use Rattle.otlp_span.specs.Slips.{entries_of}
use Rattle.drop_ledger.proofs.Tally.{pushed}
use Rattle.drop_ledger.proofs.ledger.Ledger.push.Goals as goal

pub invariant_of-self : goal.invariant_of-self
invariant_of-self g c =
    let l = c.self.inside in
    let e = entry_view c.args.entry in
    pushed l.newest l.len l.counts c.add.new.self e c.link.result c.self.invariant c.add.ensures
    (c.link.ensures ∙ ap (λ o. e ∷ entries_of o) c.take-below.ensures.value)

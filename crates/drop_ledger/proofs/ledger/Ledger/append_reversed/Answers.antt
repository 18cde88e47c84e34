use Rattle.std.proofs.Common.{ap, ◌∙◌, ◌++◌, reverse}
use Rattle.otlp_span.specs.Slips.{entries_of}
use Rattle.drop_ledger.specs.Counts.{drop_counts_view}
use Rattle.drop_ledger.proofs.Tally.{appended, fit-together}
use Rattle.drop_ledger.proofs.ledger.Ledger.append_reversed.Goals as goal

pub add_all-requires : goal.add_all-requires
add_all-requires g c =
    let l = c.self.inside in
    let o = c.other.inside in
    fit-together (drop_counts_view l.counts) (drop_counts_view o.counts) (entries_of l.newest)
    (entries_of o.newest) c.self.invariant.tally c.other.invariant.tally
    (rw (c.self.view_is, c.other.view_is) c.requires)

pub invariant_of-self : goal.invariant_of-self
invariant_of-self g c =
    let l = c.self.inside in
    let o = c.other.inside in
    appended l.newest o.newest c.turned_onto.result l.len o.len l.counts o.counts c.add_all.new.self
    c.self.invariant c.other.invariant
    (c.turned_onto.ensures.all
    ∙ ap (λ newest. reverse (entries_of o.newest) ++ entries_of newest) c.take-below.ensures.value)
    c.turned_onto.ensures.named c.add_all.ensures

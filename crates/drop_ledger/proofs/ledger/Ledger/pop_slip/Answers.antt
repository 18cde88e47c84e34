use Rattle.std.proofs.Common.{sym, ◌∙◌}
use Rattle.otlp_span.specs.Dropped.{entry_view}
use Rattle.otlp_span.specs.Slips.{entries_of}
use Rattle.drop_ledger.proofs.Tally.{newest_first, popped}
use Rattle.drop_ledger.proofs.ledger.Ledger.pop_slip.Goals as goal

pub invariant_of-self-2 : goal.invariant_of-self-2
invariant_of-self-2 g c =
    let l = c.self.inside in
    popped l.newest c.relink.result c.in_ok-slip.slip l.len l.counts c.remove.new.self
    (entry_view c.in_ok-entry.field-0.now) c.self.invariant
    (sym c.take.ensures.value ∙ c.in_ok-slip.was)
    (newest_first c.in_ok-slip.slip (entries_of c.relink.result)
    (entry_view c.in_ok-entry.field-0.now) c.in_ok-entry.ensures c.relink.ensures.below)
    c.relink.ensures.was_named c.remove.ensures

use Rattle.otlp_span.specs.Dropped.{entry_view}
use Rattle.drop_ledger.specs.ReasonCounts.{reason_counts_view}
use Rattle.drop_ledger.proofs.ReasonTally.{dropped-gone, dropped-kept}
use Rattle.drop_ledger.proofs.names.NewestNamesNameSink.take_dropped.Goals as goal

pub invariant_of-self : goal.invariant_of-self
invariant_of-self g c =
    let n = c.self.inside in
    rw c.push.ensures.given (
      c.self.invariant.0,
      dropped-gone entry_view n.dropped.most n.dropped.given n.lost.given c.args.entry
          (reason_counts_view n.older) c.self.invariant.1
          c.in-Some.older (reason_counts_view c.add.new.self) c.in-Some.ensures.older c.add.ensures,
    )

pub invariant_of-self-in-None : goal.invariant_of-self-in-None
invariant_of-self-in-None g c =
    let n = c.self.inside in
    rw c.push.ensures.given (
      c.self.invariant.0,
      dropped-kept entry_view n.dropped.most n.dropped.given n.lost.given c.args.entry
          (reason_counts_view n.older) c.self.invariant.1 c.in-None.ensures.older,
    )

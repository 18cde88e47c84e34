use Rattle.std.proofs.Common.{◌≡◌, ◌∷◌, ◌++◌, [], ℕ, subst}
use Rattle.otlp_span.specs.Dropped.{entry_view}
use Rattle.drop_ledger.specs.ReasonCounts.{reason_counts_view}
use Rattle.drop_ledger.specs.Newest.{older_of}
use Rattle.drop_ledger.proofs.ReasonTally.{lost-gone, lost-kept}
use Rattle.drop_ledger.proofs.names.NewestNamesNameSink.take_lost.Goals as goal

pub invariant_of-self : goal.invariant_of-self
invariant_of-self g c =
    let n = c.self.inside in let items = n.lost.given in let item = c.args.entry in
    let grown =
    subst
    (λ (most : ℕ). older_of most (items ++ item ∷ []) ≡ older_of most items ++ c.in-Some.older ∷ [])
    c.self.invariant.0 c.in-Some.ensures.older in
    rw c.push.ensures.given (
      c.self.invariant.0,
      lost-gone entry_view n.dropped.most n.dropped.given items item
          (reason_counts_view n.older) c.self.invariant.1
          c.in-Some.older (reason_counts_view c.add.new.self) grown c.add.ensures,
    )

pub invariant_of-self-in-None : goal.invariant_of-self-in-None
invariant_of-self-in-None g c =
    let n = c.self.inside in let items = n.lost.given in let item = c.args.entry in
    let grown =
    subst (λ (most : ℕ). older_of most (items ++ item ∷ []) ≡ older_of most items ++ [])
    c.self.invariant.0 c.in-None.ensures.older in
    rw c.push.ensures.given (
      c.self.invariant.0,
      lost-kept entry_view n.dropped.most n.dropped.given items item
          (reason_counts_view n.older) c.self.invariant.1 grown,
    )

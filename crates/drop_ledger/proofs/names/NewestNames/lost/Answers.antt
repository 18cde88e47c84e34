use Rattle.std.proofs.Common.{sym, ap, ◌∙◌, ℕ, map}
use Rattle.otlp_span.specs.Dropped.{entry_view}
use Rattle.drop_ledger.specs.Newest.{KeptNames, newest_of}
use Rattle.drop_ledger.proofs.ReasonTally.{newest-map}
use Rattle.drop_ledger.proofs.names.NewestNames.lost.Goals as goal

pub returns : goal.returns
returns g c =
    let kept = c.self.inside.lost in
    ap (map entry_view) c.iter.ensures ∙ sym (newest-map entry_view kept.most kept.given)
    ∙ ap (λ (most : ℕ). newest_of most (map entry_view kept.given)) c.self.invariant.0
    ∙ ap (λ (v : KeptNames). newest_of v.most v.given.lost) c.self.view_is

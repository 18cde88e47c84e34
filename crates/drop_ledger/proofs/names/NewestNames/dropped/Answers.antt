use Rattle.std.proofs.Common.{sym, ap, ◌∙◌, map}
use Rattle.otlp_span.specs.Dropped.{entry_view}
use Rattle.drop_ledger.specs.Newest.{KeptNames, newest_of}
use Rattle.drop_ledger.proofs.ReasonTally.{newest-map}
use Rattle.drop_ledger.proofs.names.NewestNames.dropped.Goals as goal

pub returns : goal.returns
returns g c =
    let kept = c.self.inside.dropped in
    ap (map entry_view) c.iter.ensures ∙ sym (newest-map entry_view kept.most kept.given)
    ∙ ap (λ (v : KeptNames). newest_of v.most v.given.dropped) c.self.view_is

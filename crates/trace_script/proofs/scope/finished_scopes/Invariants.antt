use Rattle.std.proofs.Common.{◌≡◌, ◌++◌, map, length}
use Rattle.std.specs.Vec.Iter.{into_iter_items, into_iter_len}
use Rattle.otlp_span.specs.Parts.{scope_view}
use Rattle.trace_script.specs.Drafts.{scope_draft_view, finished_scope}
use Rattle.trace_script.proofs.scope.finished_scopes.Given as goal

-- The scopes so far are finished.
abbrev pub invariant-loop-draft : goal.invariant-loop-draft
invariant-loop-draft g l =
    (map scope_view l.scopes.items
    ++ map finished_scope (map scope_draft_view (into_iter_items l.draft-iterator))
    ≡ map finished_scope (map scope_draft_view (into_iter_items l.initial.draft-iterator)))
    × (into_iter_len l.draft-iterator ≡ length (into_iter_items l.draft-iterator))

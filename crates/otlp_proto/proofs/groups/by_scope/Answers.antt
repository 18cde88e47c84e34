use Rattle.std.proofs.Common.{◌∙◌, refl, sym, ap, map, take, ◌++◌, ◌∷◌, [], ◌+◌}
use Rattle.std.proofs.lemmas.List.{map-append, take_more}
use Rattle.model_export.specs.Export.{scope_eq}
use Rattle.model_export.proofs.Equalities.{scope_eq-Decides}
use Rattle.otlp_span.specs.Parts.{scope_view}
use Rattle.otlp_proto.specs.Group.{scopes_view}
use Rattle.otlp_proto.proofs.Equal.{scope-same, value-same}
use Rattle.otlp_proto.proofs.Grouped.{equivalence, no-groups, one-more}
use Rattle.otlp_proto.proofs.groups.by_scope.Goals as goal

pub loop-span-init : goal.loop-span-init
loop-span-init g c = ap scopes_view c.new-scopes.ensures.empty ∙ sym (no-groups _ _)

pub loop-span-preserved : goal.loop-span-preserved
loop-span-preserved g c =
    one-more scope_eq (λ s. scope_view s.now) (λ x. x.now) (λ x. x.scope)
    (equivalence scope_eq scope_eq-Decides) _ _ _ c.scope.result c.span-item.result
    (map (λ s. s.now) (take c.loop-span.span-index c.args.spans.now))
    (map (λ s. s.now) (take (c.loop-span.span-index + 1) c.args.spans.now))
    c.in_ok-add.ensures (λ j k. scope-same _ _ (λ s t. refl)
    (value-same g.row.A g.A.Allocator g.A.Allocator-dict g.A.Allocator-dict) j.now k.now)
    c.loop-span.invariant c.scope.ensures
    (ap (map (λ s. s.now))
    (take_more c.args.spans.now c.loop-span.span-index c.span-item.result c.loop-span-test.true
    ∙ ap (λ x. take c.loop-span.span-index c.args.spans.now ++ x ∷ []) (sym c.span-item.is))
    ∙ map-append (λ s. s.now) (take c.loop-span.span-index c.args.spans.now)
    (c.span-item.result ∷ []))

use Rattle.std.proofs.Common.{◌∙◌, refl, sym, ap, take, ◌++◌, ◌∷◌, [], ◌+◌}
use Rattle.std.proofs.lemmas.List.{take_more}
use Rattle.model_export.specs.Export.{resource_eq}
use Rattle.model_export.proofs.Equalities.{resource_eq-Decides}
use Rattle.otlp_span.specs.Parts.{resource_view}
use Rattle.otlp_proto.specs.Group.{resources_view}
use Rattle.otlp_proto.proofs.Equal.{resource-same, value-same}
use Rattle.otlp_proto.proofs.Grouped.{equivalence, no-groups, one-more}
use Rattle.otlp_proto.proofs.groups.by_resource.Goals as goal

pub loop-span-init : goal.loop-span-init
loop-span-init g c = ap resources_view c.new-resources.ensures.empty ∙ sym (no-groups _ _)

pub loop-span-preserved : goal.loop-span-preserved
loop-span-preserved g c =
    one-more resource_eq (λ r. resource_view r.now) (λ x. x.now) (λ x. x.resource)
    (equivalence resource_eq resource_eq-Decides) _ _ _ c.resource.result _
    (take c.loop-span.span-index c.args.spans.now)
    (take (c.loop-span.span-index + 1) c.args.spans.now)
    c.in_ok-add.ensures (λ j k. resource-same _ _ (λ s t. refl)
    (value-same g.row.A g.A.Allocator g.A.Allocator-dict g.A.Allocator-dict) j.now k.now)
    c.loop-span.invariant c.resource.ensures
    (take_more c.args.spans.now c.loop-span.span-index c.span-item.result c.loop-span-test.true
    ∙ ap (λ x. take c.loop-span.span-index c.args.spans.now ++ x ∷ []) (sym c.span-item.is))

use Rattle.std.proofs.Common.{map, take}
use Rattle.otlp_proto.specs.Encode.{AddsLens}
use Rattle.otlp_proto.proofs.encoder.spans.add_scope_lens.Given as goal

-- The lengths of the spans so far are added.
abbrev pub invariant-loop-span : goal.invariant-loop-span
invariant-loop-span g l =
    AddsLens (map (λ s. s.now) (take l.span-index l.span-items)) l.fn.lens.items l.lens.items

use Rattle.std.proofs.Common.{◌≡◌, map, take}
use Rattle.trace_context.specs.Carriers.{values_of}
use Rattle.trace_context.proofs.carrier.values_of.Given as goal

-- the values of the fields so far
abbrev pub invariant-loop-index : goal.invariant-loop-index
invariant-loop-index g l =
    map (λ v. v.now) l.all.items ≡ values_of l.name (take l.index (g.C.Extractor.fields l.carrier))

use Rattle.trace_store.proofs.Digests.{IsSoFar}
use Rattle.trace_store.proofs.fold.digest_of.Given as goal

-- the digest is that of the spans so far
abbrev pub invariant-loop-span : goal.invariant-loop-span
invariant-loop-span g l = IsSoFar g.D.Digest.digest_of l.fn.spans l.span-iterator l.digest

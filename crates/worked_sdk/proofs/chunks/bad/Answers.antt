use Rattle.std.proofs.Common.{◌≡◌, ℕ, [], ◌∷◌, refl, arith, codes, inl, inr}
use Rattle.http_wire.specs.declared.limits.HeadLimits.{HeadLimits}
use Rattle.http_wire.specs.Chunks.{MayBecomeData}
use Rattle.httparse.proofs.OnLiterals.{httparse_on_literals}
use Rattle.http_wire.specs.declared.fault.HttpFault.TheVariants as faults
use Rattle.http_wire.specs.Chunks.{large, no_line, no_data, no_trailers}
use Rattle.worked_sdk.specs.Replied.{usual}
use Rattle.worked_sdk.proofs.ChunkParts.{plain, line_is, chunk_is, wiki, no_chunks, one_chunk}
use Rattle.worked_sdk.proofs.ChunkParts.{has_no_line, has_no_trailers, no_g, no_a}
use Rattle.worked_sdk.proofs.chunks.bad.Goals as goal

-- another byte than CR, and another than LF, after one byte
no_end : ¬ (MayBecomeData 1 (codes "ab"))
no_end (more, [], size, e) = omega (arith, size)
no_end (more, b ∷ [], size, e) = let bytes : ◌≡◌ {A = ℕ} 98 13 = cc in omega (arith, bytes)
no_end (more, b ∷ x ∷ rest, size, e) = omega (arith, size)

no_feed : ¬ (MayBecomeData 1 (codes "a\rb"))
no_feed (more, [], size, e) = omega (arith, size)
no_feed (more, b ∷ [], size, e) = let bytes : ◌≡◌ {A = ℕ} 98 10 = cc in omega (arith, bytes)
no_feed (more, b ∷ x ∷ rest, size, e) = omega (arith, size)

abbrev short : HeadLimits
short = record usual { head = 4 }

abbrev shorter : HeadLimits
shorter = record usual { head = 3 }

abbrev few : HeadLimits
few = record usual { fields = 0 }

abbrev small : HeadLimits
small = record usual { body = 5 }

pub returns-clause-line : goal.returns-clause-line
unfolding httparse_on_literals
returns-clause-line c = no_chunks usual (codes "g")
    (no_line faults.BadChunk (omega arith, inl no_g) refl)

pub returns-clause-long_line : goal.returns-clause-long_line
unfolding httparse_on_literals
returns-clause-long_line c = no_chunks short (codes "4;a=")
    (no_line faults.BadChunk (omega arith, inr (has_no_line (codes "4;a=") refl, refl)) refl)

pub returns-clause-end : goal.returns-clause-end
unfolding httparse_on_literals
returns-clause-end c = no_chunks usual (codes "1\r\nab")
    (no_data (plain (codes "1")) (codes "ab") faults.BadChunk
    (line_is usual.head (plain (codes "1")) refl refl) (omega arith) (omega arith) refl
    (no_end, omega arith) refl)

pub returns-clause-half_end : goal.returns-clause-half_end
unfolding httparse_on_literals
returns-clause-half_end c = no_chunks usual (codes "1\r\na\rb")
    (no_data (plain (codes "1")) (codes "a\rb") faults.BadChunk
    (line_is usual.head (plain (codes "1")) refl refl) (omega arith) (omega arith) refl
    (no_feed, omega arith) refl)

pub returns-clause-long_trailers : goal.returns-clause-long_trailers
unfolding httparse_on_literals
returns-clause-long_trailers c = no_chunks shorter (codes "0\r\nA:b")
    (no_trailers (plain (codes "0")) (codes "A:b") faults.BadChunk
    (line_is 3 (plain (codes "0")) refl refl) refl refl
    (omega arith, has_no_trailers shorter (codes "A:b") refl, inr (inl refl)) refl)

pub returns-clause-many_trailers : goal.returns-clause-many_trailers
unfolding httparse_on_literals
returns-clause-many_trailers c = no_chunks few (codes "0\r\nA:b\r\n")
    (no_trailers (plain (codes "0")) (codes "A:b\r\n") faults.BadChunk
    (line_is usual.head (plain (codes "0")) refl refl) refl refl
    (omega arith, no_a few (codes ":b\r\n") refl, inr (inr (omega arith))) refl)

pub returns-clause-sum : goal.returns-clause-sum
unfolding httparse_on_literals
returns-clause-sum c =
    one_chunk small wiki (codes "2\r\n") (chunk_is small.head wiki refl refl refl refl) refl refl
    (large (plain (codes "2")) (line_is small.head (plain (codes "2")) refl refl)
    (omega arith) refl refl)

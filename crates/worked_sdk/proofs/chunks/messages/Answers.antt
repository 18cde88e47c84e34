use Rattle.std.proofs.Common.{◌≡◌, ℕ, List, [], ◌∷◌, refl, arith, codes, Some, Err}
use Rattle.std.proofs.lemmas.List.Elements.{All-nil}
use Rattle.httparse.specs.Grammar.{ResponseHead, RequestHead}
use Rattle.otlp_http.specs.Heads.{IsInterim}
use Rattle.http_wire.specs.Chunks.{IsChunkedBody, MayBecomeData, no_data}
use Rattle.httparse.proofs.OnLiterals.{httparse_on_literals}
use Rattle.http_wire.specs.declared.fault.HttpFault.TheVariants as faults
use Rattle.worked_sdk.specs.Replied.{usual}
use Rattle.worked_sdk.proofs.Heads.{field, answered, replied}
use Rattle.worked_sdk.proofs.RequestHeads.{one_field, posted, put, without_body}
use Rattle.worked_sdk.proofs.ChunkParts.{abc, abc_body, line_is, no_chunks}
use Rattle.worked_sdk.proofs.chunks.messages.Goals as goal

abbrev ok : ResponseHead
ok = answered (codes "200") (codes "OK") (field (codes "Transfer-Encoding") (codes " chunked"))

abbrev coded : RequestHead
coded = put (field (codes "Transfer-Encoding") (codes " chunked"))

no_end : ¬ (MayBecomeData 3 (codes "abc0"))
no_end (more, [], size, e) = omega (arith, size)
no_end (more, a ∷ [], size, e) = omega (arith, size)
no_end (more, a ∷ b ∷ [], size, e) = omega (arith, size)
no_end (more, a ∷ b ∷ x ∷ [], size, e) = let bytes : ◌≡◌ {A = ℕ} 48 13 = cc in omega (arith, bytes)
no_end (more, a ∷ b ∷ x ∷ y ∷ rest, size, e) = omega (arith, size)

-- no body, where a 0 comes after a chunk
bad : (left : List ℕ) → IsChunkedBody usual (codes "3\r\nabc0") (Some left) ⊥ (Err faults.BadChunk)
unfolding httparse_on_literals
bad left = no_chunks usual (codes "3\r\nabc0")
    (no_data abc.line (codes "abc0") faults.BadChunk (line_is usual.head abc.line refl refl)
    (omega arith) (omega arith) refl (no_end, omega arith) refl)

pub returns-clause-reply : goal.returns-clause-reply
unfolding httparse_on_literals
returns-clause-reply c =
    replied [] ok (codes "3\r\nabc\r\n0\r\n\r\n")
    (All-nil (IsInterim usual)) refl refl refl refl refl refl refl refl refl
    (abc_body (codes "HTTP"))

pub returns-clause-bad_reply : goal.returns-clause-bad_reply
unfolding httparse_on_literals
returns-clause-bad_reply c =
    replied [] ok (codes "3\r\nabc0")
    (All-nil (IsInterim usual)) refl refl refl refl refl refl refl refl refl (bad (codes "\r\n"))

pub returns-clause-post : goal.returns-clause-post
unfolding httparse_on_literals
returns-clause-post c =
    posted coded (codes "3\r\nabc\r\n0\r\n\r\n") refl refl refl refl refl refl refl
    (one_field (codes "Transfer-Encoding") (codes "chunked")) (abc_body (codes "PUT"))

pub returns-clause-bad_post : goal.returns-clause-bad_post
unfolding httparse_on_literals
returns-clause-bad_post c =
    without_body usual coded (codes "3\r\nabc0") refl refl refl refl refl (bad (codes "\r\n"))

-- The texts compute.
use Rattle.std.proofs.Common.{true, false, [], ◌∷◌, codes, refl, arith}
use Rattle.std.proofs.lemmas.Bool.{false≢true, true≢false}
use Rattle.httparse.specs.Grammar.{crlf}
use Rattle.http_wire.specs.declared.place.LinePart.TheVariants as parts
use Rattle.http_wire.proofs.PlaceLemmas.{due_ended, ended_due, not_due}
use Rattle.worked_sdk.proofs.PlaceParts.{not_blank, not_empty, at_place}
use Rattle.worked_sdk.proofs.places.places.Goals as goal

pub returns-clause-front : goal.returns-clause-front
returns-clause-front c due =
    let at = at_place (13 ∷ []) [] false parts.Nothing refl (crlf ∷ [], refl) refl in
    false≢true (ended_due (codes "\r\n") (record { begun = false; line = parts.Nothing }) at due)

pub returns-clause-first : goal.returns-clause-first
returns-clause-first c =
    let at =
    at_place (13 ∷ []) (codes "HTTP/1.1 200 OK\r") false parts.Text refl (crlf ∷ [], refl)
    (not_empty _ _ _) in
    due_ended (codes "\r\nHTTP/1.1 200 OK\r") (record { begun = false; line = parts.Text }) at refl

pub returns-clause-field : goal.returns-clause-field
returns-clause-field c due =
    let at =
    at_place (codes "HTTP/1.1 200 OK\r") (codes "A: b\r") true parts.Text refl
    (not_blank _ _ (λ e. omega (arith, e)) (λ e. omega (arith, e))) (not_empty _ _ _) in
    true≢false (ended_due (codes "HTTP/1.1 200 OK\r\nA: b\r")
    (record { begun = true; line = parts.Text }) at due)

pub returns-clause-unended : goal.returns-clause-unended
returns-clause-unended c = not_due (codes "HTTP/1.1 200 OK\r\n") 13 (λ e. omega (arith, e))

pub returns-clause-end : goal.returns-clause-end
returns-clause-end c =
    let at =
    at_place (codes "HTTP/1.1 200 OK\r\nA: b\r") (codes "\r") true parts.Return refl
    (not_blank _ _ (λ e. omega (arith, e)) (λ e. omega (arith, e))) refl in
    due_ended (codes "HTTP/1.1 200 OK\r\nA: b\r\n\r")
    (record { begun = true; line = parts.Return }) at refl

pub returns-clause-feeds : goal.returns-clause-feeds
returns-clause-feeds c =
    let at =
    at_place (codes "HTTP/1.1 200 OK") [] true parts.Nothing refl
    (not_blank _ _ (λ e. omega (arith, e)) (λ e. omega (arith, e))) refl in
    due_ended (codes "HTTP/1.1 200 OK\n") (record { begun = true; line = parts.Nothing }) at refl

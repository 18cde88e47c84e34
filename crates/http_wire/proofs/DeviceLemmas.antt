-- What several reads or writes do.
use Rattle.std.proofs.Common.{◌≡◌, ℕ, ◌+◌, ◌-◌, ◌<◌, ◌≤◌, List, ◌++◌, length, take, drop, get_or}
use Rattle.std.proofs.Common.{map, refl, sym, ap, subst, ◌∙◌, Bor, length-append, Option}
use Rattle.std.proofs.lemmas.List.{length-drop, take-append-le, drop_more, drop_at, drop-drop}
use Rattle.std.proofs.Math.Seq.{take-add, take-length}
use Rattle.std.proofs.KnownBytes.{Appends-trans}
use Rattle.std.specs.Io.KnownBytes.{Appends}
use Rattle.std.specs.List.{concat}

-- The slice from an index to the end is what comes from that index on.
pub slice_to_end : {A : Type 0} (xs : List A) (i : ℕ) → take (length xs - i) (drop i xs) ≡ drop i xs
slice_to_end xs i =
    subst (λ n. take n (drop i xs) ≡ drop i xs) (length-drop i xs) (take-length (drop i xs))

-- A write of more of a piece appends a longer front of the piece.
pub Appends-take : (old mid new : Option (List ℕ)) (at n : ℕ) (piece : List ℕ)
    → Appends old mid (take at piece)
    → Appends mid new (take n (take (length piece - at) (drop at piece)))
    → Appends old new (take (at + n) piece)
Appends-take old mid new at n piece first second =
    let second' : Appends mid new (take n (drop at piece)) =
    subst (λ l. Appends mid new (take n l)) (slice_to_end piece at) second in
    subst (Appends old new) (sym (take-add at n piece))
    (Appends-trans old mid new _ _ first second')

-- A write of a front of the next piece appends that front to what was written.
pub Appends-piece : (old mid new : Option (List ℕ)) (whole piece rest : List ℕ) (sent n : ℕ)
    → drop sent whole ≡ piece ++ rest → n ≤ length piece
    → Appends old mid (take sent whole) → Appends mid new (take n piece)
    → Appends old new (take (sent + n) whole)
Appends-piece old mid new whole piece rest sent n left within first second =
    let front : take n (drop sent whole) ≡ take n piece =
    ap (take n) left ∙ take-append-le n piece rest within in
    subst (Appends old new) (sym (take-add sent n whole ∙ ap (λ l. take sent whole ++ l) front))
    (Appends-trans old mid new _ _ first second)

-- The pieces from an index on are that piece and those after it.
pub concat_from : (pieces : List (Bor (List ℕ))) (i : ℕ) (d : Bor (List ℕ)) → i < length pieces
    → concat (map (λ p. p.now) (drop i pieces))
    ≡ (get_or pieces i d).now ++ concat (map (λ p. p.now) (drop (i + 1) pieces))
concat_from pieces i d below = ap (λ l. concat (map (λ p. p.now) l)) (drop_more pieces i d below)

-- The bytes of the pieces from an index on are as many as those of that piece and those after it.
pub concat_length : (pieces : List (Bor (List ℕ))) (i : ℕ) (d : Bor (List ℕ)) → i < length pieces
    → length (concat (map (λ p. p.now) (drop i pieces)))
    ≡ length (get_or pieces i d).now + length (concat (map (λ p. p.now) (drop (i + 1) pieces)))
concat_length pieces i d below = ap length (concat_from pieces i d below) ∙ length-append _ _

-- What is left past the next piece is what comes after it.
pub drop_piece : (whole piece rest : List ℕ) (sent : ℕ) → drop sent whole ≡ piece ++ rest
    → drop (sent + length piece) whole ≡ rest
drop_piece whole piece rest sent left =
    sym (drop-drop (length piece) sent whole) ∙ ap (drop (length piece)) left
    ∙ drop_at piece rest (length piece) refl

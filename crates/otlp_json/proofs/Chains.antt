-- One thing written after another.
use Rattle.std.proofs.Common.{◌≡◌, refl, sym, ap, ◌∙◌, ℕ, ◌+◌, ◌<◌, ◌≤◌, List, [], ◌∷◌, ◌++◌, drop}
use Rattle.std.proofs.Common.{length, append_assoc, append-nil, add-one, arith, zero, suc}
use Rattle.std.specs.Prelude.{OnOk, Result, Ok, Err}
use Rattle.std.specs.List.{flat_map}
use Rattle.std.proofs.Math.ListN.{get_or}
use Rattle.std.proofs.Math.Seq.{drop-cons}
use Rattle.std.proofs.lemmas.List.{map-append}
use Rattle.json.specs.Token.{Token}
use Rattle.otlp_json.specs.Seen.{Seen, seen, seen_of}

-- Two lists that are appended one after the other are one that is appended.
pub appended : {X : Type 0} (s0 s1 s2 a b : List X) → s1 ≡ s0 ++ a → s2 ≡ s1 ++ b
    → s2 ≡ s0 ++ (a ++ b)
appended s0 s1 s2 a b first then = then ∙ ap (λ l. l ++ b) first ∙ append_assoc s0 a b

-- the same where the last one may fail
pub last : {X T E : Type 0} (r : Result T E) (s0 s1 s2 a b : List X) → s1 ≡ s0 ++ a
    → OnOk r (s2 ≡ s1 ++ b) → OnOk r (s2 ≡ s0 ++ (a ++ b))
last (Ok x) s0 s1 s2 a b first then = appended s0 s1 s2 a b first then
last (Err e) s0 s1 s2 a b first then = tt

-- what is written, under another name of its value
pub named : {X Y : Type 0} (f : Y → List X) (s0 s1 : List X) {y z : Y} → s1 ≡ s0 ++ f y → y ≡ z
    → s1 ≡ s0 ++ f z
named f s0 s1 h is = h ∙ ap (λ v. s0 ++ f v) is

-- what was written is this
pub written_is : {X T E : Type 0} (r : Result T E) (s0 s1 a b : List X) → a ≡ b
    → OnOk r (s1 ≡ s0 ++ a) → OnOk r (s1 ≡ s0 ++ b)
written_is (Ok x) s0 s1 a b same h = h ∙ ap (λ l. s0 ++ l) same
written_is (Err e) s0 s1 a b same h = tt

-- a token that was written, as it is seen
pub written_seen : {T E : Type 0} (r : Result T E) (old new : List Token) (t : Token) (x : Seen)
    → seen_of t ≡ x → OnOk r (new ≡ old ++ t ∷ []) → OnOk r (seen new ≡ seen old ++ x ∷ [])
written_seen (Ok u) old new t x is h =
    ap seen h ∙ map-append seen_of old (t ∷ []) ∙ ap (λ y. seen old ++ y ∷ []) is
written_seen (Err e) old new t x is h = tt

-- one more of a list, where what is left is at the end
pub next_written : {X : Type 0} (f : X → List Seen) (xs : List X) (i : ℕ) (x : X)
    (old new all : List Seen)
    → i < length xs → x ≡ get_or xs i x
    → old ++ flat_map f (drop i xs) ≡ all → new ≡ old ++ f x
    → new ++ flat_map f (drop (i + 1) xs) ≡ all
next_written f xs i x old new all within is h more =
    let left : drop i xs ≡ x ∷ drop (i + 1) xs =
    drop-cons xs i x within ∙ ap (λ y. y ∷ drop (suc i) xs) (sym is)
    ∙ ap (λ n. x ∷ drop n xs) (sym (add-one i)) in
    ap (λ l. l ++ flat_map f (drop (i + 1) xs)) more
    ∙ append_assoc old (f x) (flat_map f (drop (i + 1) xs))
    ∙ ap (λ l. old ++ flat_map f l) (sym left) ∙ h

none_left : {X : Type 0} (xs : List X) (i : ℕ) → length xs ≤ i → drop i xs ≡ []
none_left [] zero h = refl
none_left [] (suc i) h = refl
none_left (x ∷ xs) zero h = absurd (omega arith)
none_left (x ∷ xs) (suc i) h = none_left xs i (omega arith)

-- all of a list, between what comes before and after
pub list_written : {X T E : Type 0} (r : Result T E) (f : X → List Seen) (xs : List X) (i : ℕ)
    (s0 s1 s2 s3 front back : List Seen)
    → s1 ≡ s0 ++ front
    → s2 ++ flat_map f (drop i xs) ≡ s1 ++ flat_map f xs → length xs ≤ i → OnOk r (s3 ≡ s2 ++ back)
    → OnOk r (s3 ≡ s0 ++ (front ++ (flat_map f xs ++ back)))
list_written (Ok x) f xs i s0 s1 s2 s3 front back begun h ends done =
    let all : s2 ≡ s1 ++ flat_map f xs =
    sym (append-nil s2) ∙ ap (λ l. s2 ++ flat_map f l) (sym (none_left xs i ends)) ∙ h in
    appended s0 s1 s3 front (flat_map f xs ++ back) begun
    (appended s1 s2 s3 (flat_map f xs) back all done)
list_written (Err e) f xs i s0 s1 s2 s3 front back begun h ends done = tt

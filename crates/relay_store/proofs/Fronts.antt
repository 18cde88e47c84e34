-- The first bodies that wait in a spool, after some of them ended, after others were put, and after
-- the end of some was noted.
use Rattle.std.proofs.Common.{◌≡◌, ◌⊎◌, ◌≢◌, inl, inr, refl, sym, ap, ◌∙◌, subst, ℕ, zero, suc}
use Rattle.std.proofs.Common.{◌+◌, ◌≤◌, List, [], ◌∷◌, ◌++◌, length, take, drop, arith, true, false}
use Rattle.std.proofs.Common.{cond, append_assoc, length-drop}
use Rattle.std.specs.Prelude.{nat_le, Option, Some, None}
use Rattle.std.specs.List.{enumerate_from}
use Rattle.std.proofs.lemmas.Bool.{cases_lt, le-leb, lt-leb, cond-true, cond-false}
use Rattle.std.proofs.lemmas.List.{length-take}
use Rattle.std.proofs.lemmas.List.Elements.{filter-append}
use Rattle.model_desk.specs.Retries.{Fate, Next, fate_of}
use Rattle.model_body.specs.Histories.{Turn, idle, is_out, again, ended_count}
use Rattle.model_body.specs.Desks.{BodyDesk}
use Rattle.relay_queue.specs.Steps.{Notes, NotesFate}
use Rattle.spool.specs.Spools.{numbered_from}
use Rattle.relay_store.specs.Fronts.{AreFirst, BeginWith}
use Rattle.relay_store.specs.Kept.{AdmitsFirst}

-- ---- numbers

-- Of those with a number from one on, those with a number from a later one on.
pub numbered-again : (n m : ℕ) (bs : List (ℕ × List ℕ)) → m ≤ n
    → numbered_from n (numbered_from m bs) ≡ numbered_from n bs
numbered-again n m [] le = refl
numbered-again n m (b ∷ bs) le = elim (cases_lt b.0 m) [
  | inl lt ↦
      let out : nat_le m b.0 ≡ false = lt-leb m b.0 lt in
      let also : nat_le n b.0 ≡ false = lt-leb n b.0 (omega arith) in
      ap (numbered_from n)
      (cond-false (nat_le m b.0) (b ∷ numbered_from m bs) (numbered_from m bs) out)
      ∙ (numbered-again n m bs le
      ∙ sym (cond-false (nat_le n b.0) (b ∷ numbered_from n bs) (numbered_from n bs) also))
  | inr ge ↦
      let within : nat_le m b.0 ≡ true = le-leb m b.0 ge in
      ap (numbered_from n)
      (cond-true (nat_le m b.0) (b ∷ numbered_from m bs) (numbered_from m bs) within)
      ∙ ap (λ (l : List (ℕ × List ℕ)). cond (nat_le n b.0) (b ∷ l) l) (numbered-again n m bs le)
]

-- All are numbered from the first one's number on.
pub all-numbered : (n first : ℕ) (xs : List (List ℕ)) → n ≤ first
    → numbered_from n (enumerate_from first xs) ≡ enumerate_from first xs
all-numbered n first [] le = refl
all-numbered n first (x ∷ xs) le =
    cond-true (nat_le n first) ((first, x) ∷ numbered_from n (enumerate_from (first + 1) xs))
    (numbered_from n (enumerate_from (first + 1) xs)) (le-leb n first le)
    ∙ ap (λ (l : List (ℕ × List ℕ)). (first, x) ∷ l)
    (all-numbered n (first + 1) xs (omega arith))

-- Those from a later number on are the others.
numbered-drop : (first k : ℕ) (xs : List (List ℕ)) → k ≤ length xs
    → numbered_from (first + k) (enumerate_from first xs) ≡ enumerate_from (first + k) (drop k xs)
numbered-drop first zero xs le =
    let same : first ≡ first + 0 = omega arith in
    all-numbered (first + 0) first xs (omega arith)
    ∙ ap (λ (n : ℕ). enumerate_from n xs) same
numbered-drop first (suc k) [] le = refl
numbered-drop first (suc k) (x ∷ xs) le =
    let out : nat_le (first + suc k) first ≡ false =
    lt-leb (first + suc k) first (omega arith) in
    let shift : first + suc k ≡ (first + 1) + k = omega arith in
    cond-false (nat_le (first + suc k) first)
    ((first, x) ∷ numbered_from (first + suc k) (enumerate_from (first + 1) xs))
    (numbered_from (first + suc k) (enumerate_from (first + 1) xs)) out
    ∙ (ap (λ (n : ℕ). numbered_from n (enumerate_from (first + 1) xs)) shift
    ∙ (numbered-drop (first + 1) k xs (omega arith)
    ∙ ap (λ (n : ℕ). enumerate_from n (drop k xs)) (sym shift)))

-- Two lists, numbered one after the other.
pub enumerate-append : (first : ℕ) (xs ys : List (List ℕ))
    → enumerate_from first (xs ++ ys)
    ≡ enumerate_from first xs ++ enumerate_from (first + length xs) ys
enumerate-append first [] ys =
    let same : first ≡ first + 0 = omega arith in
    ap (λ (n : ℕ). enumerate_from n ys) same
enumerate-append first (x ∷ xs) ys =
    let shift : (first + 1) + length xs ≡ first + suc (length xs) = omega arith in
    ap (λ (l : List (ℕ × List ℕ)). (first, x) ∷ l)
    (enumerate-append (first + 1) xs ys
    ∙ ap (λ (n : ℕ). enumerate_from (first + 1) xs ++ enumerate_from n ys) shift)

drop-taken : (n : ℕ) (xs : List (List ℕ)) → drop (length (take n xs)) xs ≡ drop n xs
drop-taken zero xs = refl
drop-taken (suc n) [] = refl
drop-taken (suc n) (x ∷ xs) = drop-taken n xs

taken-le : (n : ℕ) (xs : List (List ℕ)) → length (take n xs) ≤ length xs
taken-le n xs = omega (arith, length-take n xs)

-- ---- the first bodies

-- No bodies are the first ones.
pub front-none : (number : ℕ) (waits : List (ℕ × List ℕ)) → AreFirst number [] waits
front-none number waits = record { others = numbered_from number waits; are = refl }

-- After some of them ended, the others are the first ones.
pub front-after : (number n : ℕ) (bodies : List (List ℕ)) (waits : List (ℕ × List ℕ))
    → AreFirst number bodies waits
    → AreFirst (number + length (take n bodies)) (drop n bodies) waits
front-after number n bodies waits f =
    let k = length (take n bodies) in
    let le : k ≤ length bodies = taken-le n bodies in
    record {
      others = numbered_from (number + k) f.others;
      are =
          sym (numbered-again (number + k) number waits (omega arith))
          ∙ (ap (numbered_from (number + k)) f.are
          ∙ (filter-append (λ b. nat_le (number + k) b.0) (enumerate_from number bodies) f.others
          ∙ ap (λ (l : List (ℕ × List ℕ)). l ++ numbered_from (number + k) f.others)
          (numbered-drop number k bodies le
          ∙ ap (enumerate_from (number + k)) (drop-taken n bodies))));
    }

-- They are the first ones where others wait after them.
pub front-more : (number : ℕ) (bodies : List (List ℕ)) (waits more : List (ℕ × List ℕ))
    → AreFirst number bodies waits → AreFirst number bodies (waits ++ more)
front-more number bodies waits more f = record {
  others = f.others ++ numbered_from number more;
  are =
      filter-append (λ b. nat_le number b.0) waits more
      ∙ (ap (λ (l : List (ℕ × List ℕ)). l ++ numbered_from number more) f.are
      ∙ append_assoc (enumerate_from number bodies) f.others (numbered_from number more));
}

-- And where those before them wait no longer.
pub front-noted : (number : ℕ) (bodies : List (List ℕ)) (waits : List (ℕ × List ℕ))
    → AreFirst number bodies waits → AreFirst number bodies (numbered_from number waits)
front-noted number bodies waits f = record {
  others = f.others;
  are = numbered-again number number waits (omega arith) ∙ f.are;
}

-- Some of those with which all begin, the first ones.
pub begin-some : (number : ℕ) (bodies : List (List ℕ)) (waits : List (ℕ × List ℕ))
    (old new : BodyDesk) → BeginWith number bodies waits → AdmitsFirst bodies old new
    → old.kept ≡ [] → BeginWith number new.kept waits
begin-some number bodies waits old new b a none =
    let kept : new.kept ≡ a.admitted =
    ap (λ (d : BodyDesk). d.kept) a.desk ∙ ap (λ (l : List (List ℕ)). l ++ a.admitted) none in
    record {
      others = enumerate_from (number + length a.admitted) a.others ++ b.others;
      are =
          b.are
          ∙ (ap (λ (l : List (ℕ × List ℕ)). l ++ b.others)
          (ap (enumerate_from number) a.all ∙ enumerate-append number a.admitted a.others)
          ∙ (append_assoc (enumerate_from number a.admitted)
          (enumerate_from (number + length a.admitted) a.others) b.others
          ∙ ap (λ (l : List (List ℕ)). enumerate_from number l
          ++ (enumerate_from (number + length a.admitted) a.others ++ b.others)) (sym kept)));
    }

-- ---- an outcome

-- The batch is out, or it isn't.
pub out-or-not : (turn : Turn) → (turn ≡ is_out) ⊎ (turn ≢ is_out)
out-or-not idle = inr (λ e. cc)
out-or-not is_out = inl refl
out-or-not again = inr (λ e. cc)

-- What a batch's end makes of the bodies of a desk: those that ended were the first ones.
pub record Ends (ended old new : List (List ℕ)) : Type 0 where
  pub count : ℕ
  pub ended_are : ended ≡ take count old
  pub kept : new ≡ drop count old

by-fate : (fate : Option Fate) (ended : List (List ℕ)) (old new : BodyDesk)
    → NotesFate fate ended old new → Ends ended old.kept new.kept
by-fate None ended old new n =
    record { count = 0; ended_are = n.0; kept = ap (λ (d : BodyDesk). d.kept) n.1 }
by-fate (Some fate) ended old new n = record {
  count = ended_count fate old.size;
  ended_are = n.0;
  kept = ap (λ (d : BodyDesk). d.kept) n.1;
}

-- What follows from an outcome ends some of the first bodies of a desk, or none.
pub notes-end : (next : Next) (ended : List (List ℕ)) (old new : BodyDesk)
    → Notes next ended old new → Ends ended old.kept new.kept
notes-end next ended old new notes = elim (out-or-not old.turn) [
  | inl out ↦ by-fate (fate_of next) ended old new (notes.out out)
  | inr other ↦
      let none = notes.none other in
      record { count = 0; ended_are = none.0; kept = ap (λ (d : BodyDesk). d.kept) none.1 }
]

-- The others are the first ones then.
pub front-ended : (number : ℕ) (ended old new : List (List ℕ)) (waits : List (ℕ × List ℕ))
    → Ends ended old new → AreFirst number old waits
    → AreFirst (number + length ended) new waits
front-ended number ended old new waits e f =
    subst (λ (l : List (List ℕ)). AreFirst (number + length l) new waits) (sym e.ended_are)
    (subst (λ (l : List (List ℕ)). AreFirst (number + length (take e.count old)) l waits)
    (sym e.kept) (front-after number e.count old waits f))

-- As many are kept or ended as were kept.
pub ended-count : (ended old new : List (List ℕ)) → Ends ended old new
    → length ended + length new ≡ length old
ended-count ended old new e =
    omega (
      arith,
      ap length e.ended_are,
      ap length e.kept,
      length-take e.count old,
      length-drop e.count old,
    )

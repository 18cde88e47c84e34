-- The place after one more step.
use Rattle.std.proofs.Common.{◌≡◌, refl, sym, ap, ◌∙◌, ◌+◌, ◌≤◌, arith, List, [], ◌∷◌, ◌++◌}
use Rattle.std.proofs.Common.{length, length-append, append-nil, Bool, true, false, cond, Option}
use Rattle.std.proofs.Common.{Some, None, is_some}
use Rattle.std.specs.Prelude.{filter_map}
use Rattle.std.specs.List.{cons_option}
use Rattle.std.proofs.lemmas.List.Elements.{filter_map-append}
use Rattle.std.proofs.lemmas.List.Sums.{count_by-le-length}
use Rattle.model_desk.proofs.Lists.{count-more}
use Rattle.model_run.specs.Runs.{Answered}
use Rattle.model_run.specs.Headline.{attempts, attempt_by}
use Rattle.trace_run.specs.Lines.{is_start, starts}
use Rattle.trace_run.specs.Places.{IsAfter}
use Rattle.trace_run.specs.declared.text.place.Place.{Place}
use mir.Val.{bool_byte}

-- A test as a number is 1 where it is true, and else 0.
pub one-if : (b : Bool) → bool_byte b ≡ cond b 1 0
one-if true = refl
one-if false = refl

length-some : {A : Type 0} (o : Option A) (xs : List A)
    → length (xs ++ cons_option o []) ≡ length xs + cond (is_some o) 1 0
length-some None xs = omega (arith, ap length (append-nil xs))
length-some (Some x) xs = length-append xs (x ∷ [])

sent-more : (before : List Answered) (x : Answered)
    → length (attempts (before ++ x ∷ []))
    ≡ length (attempts before) + cond (is_some (attempt_by x.answer)) 1 0
sent-more before x =
    let attempted : Answered → Option _ = λ (y : Answered). attempt_by y.answer in
    ap length (filter_map-append attempted before (x ∷ []))
    ∙ length-some (attempt_by x.answer) (attempts before)

-- A place after some steps becomes the place after one more, once it counts this step.
pub after-more : (before : List Answered) (x : Answered) (old new : Place) → IsAfter before old
    → new.starts ≡ old.starts + cond (is_start x.step) 1 0
    → new.sent ≡ old.sent + cond (is_some (attempt_by x.answer)) 1 0
    → IsAfter (before ++ x ∷ []) new
after-more before x old new is starts-is sent-is = record {
  starts =
      starts-is ∙ ap (λ n. n + cond (is_start x.step) 1 0) is.starts
      ∙ sym (count-more (λ (y : Answered). is_start y.step) before x);
  sent =
      sent-is ∙ ap (λ n. n + cond (is_some (attempt_by x.answer)) 1 0) is.sent
      ∙ sym (sent-more before x);
}

-- ---- there are no more starts and attempts than steps

-- A history has no more starts than steps.
pub starts-few : (before : List Answered) → starts before ≤ length before
starts-few before = count_by-le-length (λ (x : Answered). is_start x.step) before

few-some : {A B : Type 0} (f : A → Option B) (xs : List A) → length (filter_map f xs) ≤ length xs
few-some f [] = omega arith
few-some f (x ∷ xs) = go (f x) (few-some f xs)
  where
    go : (o : Option _) → length (filter_map f xs) ≤ length xs
        → length (cons_option o (filter_map f xs)) ≤ length (x ∷ xs)
    go None h = omega arith
    go (Some y) h = omega arith

-- A history has no more attempts than steps.
pub sent-few : (before : List Answered) → length (attempts before) ≤ length before
sent-few before = few-some (λ (x : Answered). attempt_by x.answer) before

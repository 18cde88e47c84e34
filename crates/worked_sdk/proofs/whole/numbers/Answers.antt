use Rattle.std.proofs.Common.{◌≡◌, refl, ap, arith, map, List, [], ◌∷◌, length, Bool, true, false}
use Rattle.std.proofs.Common.{cond, ◌==◌, get_or}
use Rattle.std.specs.List.{range_with_len}
use Rattle.model_desk.specs.Retries.{Outcome}
use Rattle.model_run.specs.Headline.{Attempt}
use Rattle.worked_sdk.proofs.whole.numbers.Goals as goal

abbrev one : List Attempt
one = record { number = 1; attempt = 1; outcome = Outcome.delivered } ∷ []

numbered-by : (b : Bool)
    → map (λ (a : Attempt). a.attempt) (cond b one []) ≡ range_with_len 1 (length (cond b one []))
numbered-by true = refl
numbered-by false = refl

pub returns : goal.returns
returns c = record {
  of_worked = refl;
  distinct = refl;
  numbered = λ n. numbered-by (1 == n);
  skips = λ n. let e : 3 ≡ 2 = ap (λ l. get_or l 1 9) (n 1) in omega (arith, e);
  begins_at_two = λ n. let e : 2 ≡ 1 = ap (λ l. get_or l 0 9) (n 1) in omega (arith, e);
  backwards = λ n. let e : 2 ≡ 1 = ap (λ l. get_or l 0 9) (n 1) in omega (arith, e);
}

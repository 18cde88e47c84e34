use Rattle.std.proofs.Common.{◌≡◌, arith, ℕ, ◌==◌, cond, List}
use Rattle.std.specs.Prelude.{IsPermutation}
use Rattle.std.proofs.lemmas.List.Sorted.{sum_by-IsPermutation}
use Rattle.model_span.specs.Identifiers.{first_valid}
use Rattle.model_span.specs.Starts.{started_span, ids_of, ids_words}
use Rattle.model_run.specs.History.{start_results_after}
use Rattle.model_run.specs.Queues.{times}
use Rattle.model_run.specs.Runs.{ended_by, desk_events}
use Rattle.worked_sdk.proofs.wrong.accounts.Goals as goal

-- each number is as often in both
as-often : {xs ys : List ℕ} → IsPermutation xs ys → (n : ℕ) → times n ys ≡ times n xs
as-often {xs = xs} {ys = ys} same n = sum_by-IsPermutation (λ (t : ℕ). cond (t == n) 1 0) xs ys same

pub returns : goal.returns
unfolding desk_events ended_by start_results_after started_span ids_of ids_words first_valid
returns c = record {
  nowhere = λ once. let e : 1 ≡ 0 = as-often once 2 in omega (arith, e);
  twice = λ once. let e : 1 ≡ 2 = as-often once 2 in omega (arith, e);
  named_twice = λ once. let e : 1 ≡ 2 = as-often once 2 in omega (arith, e);
  handed_and_named = λ once. let e : 1 ≡ 2 = as-often once 0 in omega (arith, e);
  late_queued = λ once. let e : 1 ≡ 2 = as-often once 4 in omega (arith, e);
}

-- An attempt, from what its parts came to.
use Rattle.std.proofs.Common.{◌≡◌, ◌∙◌, ap, sym, subst, ℕ, Bool, List}
use Rattle.std.specs.Prelude.{Option}
use Rattle.model_desk.specs.Retries.{Outcome}
use Rattle.http_exporter.specs.declared.failure.Failure.{Failure}
use Rattle.relay_exporter.specs.declared.judge.Judge.{Judge}
use Rattle.relay_exporter.specs.Attempts.{Guarding, IsGuardedAttempt, TakesOthers}
use Rattle.relay_exporter.specs.Outages.{in_seconds, judge_after, judged}

module _ {Exporter : Type 0} (attempts : Exporter → List ℕ → Outcome → Exporter → Type 0)
    (reported : Exporter → Option Failure) (body : List ℕ) where
  -- The exporter below attempted the body; then it was known whether the collector takes others;
  -- and then that was judged.
  pub guarded : (old after inside : Guarding Exporter) (spent : Exporter) (failure : Option Failure)
      (judge : Judge) (met found outcome : Outcome) (takes : Bool) (now : ℕ)
      → attempts old.exporter body met spent → failure ≡ reported spent
      → TakesOthers attempts old.judge met spent after.exporter takes
      → after ≡ record {
        exporter = after.exporter;
        judge = old.judge;
        failure = failure;
      }
      → inside ≡ after
      → judge ≡ judge_after inside.judge met takes
      → found ≡ judged inside.judge met takes
      → outcome ≡ in_seconds now found
      → IsGuardedAttempt attempts reported body old
      (record { exporter = inside.exporter; judge = judge; failure = inside.failure }) outcome
  guarded old after inside spent failure judge met found outcome takes now
      attempted failed others only same judge-is found-is seconds =
      let same-judge : inside.judge ≡ old.judge =
      ap (λ (g : Guarding Exporter). g.judge) same
      ∙ ap (λ (g : Guarding Exporter). g.judge) only in
      record {
        met = met;
        spent = spent;
        attempted = attempted;
        takes = takes;
        takes_others = subst (λ e. TakesOthers attempts old.judge met spent e takes)
            (sym (ap (λ (g : Guarding Exporter). g.exporter) same)) others;
        judge_is = judge-is ∙ ap (λ j. judge_after j met takes) same-judge;
        failure_is = ap (λ (g : Guarding Exporter). g.failure) same
            ∙ ap (λ (g : Guarding Exporter). g.failure) only ∙ failed;
        now = now;
        outcome_is = seconds
            ∙ ap (in_seconds now) (found-is ∙ ap (λ j. judged j met takes) same-judge);
      }

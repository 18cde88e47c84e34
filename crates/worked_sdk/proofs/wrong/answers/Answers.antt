use Rattle.std.proofs.Common.{◌≡◌, ap, ℕ, ◌+◌, ◌∷◌, ◌++◌, take, drop, Bool, true, false}
use Rattle.std.proofs.Common.{if◌then◌else◌, arith}
use Rattle.model_message.specs.Canon.{canon, septets_of}
use Rattle.model_span.specs.Dropped.{encode_memory, too_large}
use Rattle.model_span.specs.Identifiers.{first_valid}
use Rattle.model_span.specs.Spans.{span}
use Rattle.model_span.specs.Starts.{started_span, ids_of, ids_words}
use Rattle.model_export.specs.Export.{groups, body_length}
use Rattle.model_desk.specs.Retries.{Outcome}
use Rattle.model_desk.specs.Desks.{desk_of}
use Rattle.model_run.specs.Steps.{Step}
use Rattle.model_run.specs.History.{start_results_after}
use Rattle.model_run.specs.Runs.{Answer, taken, not_taken, encoded, sent, nothing, ended_by}
use Rattle.model_run.specs.Runs.{desk_events}
use Rattle.model_run.specs.Answers.{progress, desk_after, IsAnswer, AreAnswers}
use Rattle.worked_sdk.specs.Worked.{queue_of, worked, told, ends, queued, full, late}
use Rattle.model_run.proofs.More.{answer-at}
use Rattle.worked_sdk.proofs.wrong.answers.Goals as goal

-- the wrong answer at a place is right after the steps before it
told-at : (place : ℕ) (step : Step) (answer : Answer)
    → AreAnswers (queue_of 2) (take place worked ++ told step answer ∷ drop (place + 1) worked)
    → IsAnswer (queue_of 2) (take place worked) (told step answer)
told-at place step answer w =
    answer-at (queue_of 2) (take place worked) (drop (place + 1) worked) (told step answer) w

abbrev size-of : Answer → ℕ
size-of (encoded number size) = size
size-of _ = 0

is-encoded : (refused : Bool)
    → encoded 1 140 ≡ (if refused then Answer.dropped 1 encode_memory else encoded 1 141) → ⊥
is-encoded true e = cc
is-encoded false e = let s : 140 ≡ 141 = ap size-of e in omega (arith, s)

is-dropped : (refused : Bool)
    → Answer.dropped 1 too_large
    ≡ (if refused then Answer.dropped 1 encode_memory else encoded 1 141)
    → ⊥
is-dropped true e = cc
is-dropped false e = cc

pub returns : goal.returns
unfolding desk_after desk_of desk_events ended_by progress start_results_after started_span ids_of
    ids_words first_valid span groups body_length canon septets_of
returns c = record {
  late_before = λ w. let e : late ≡ full 2 = (told-at 8 (ends 2) late w).is in cc;
  full_while_room = λ w. let e : full 3 ≡ queued 3 = (told-at 13 (ends 3) (full 3) w).is in cc;
  queued_while_full = λ w. let e : queued 2 ≡ full 2 = (told-at 8 (ends 2) (queued 2) w).is in cc;
  late_has_ticket = λ w. let e : queued 5 ≡ late = (told-at 18 (ends 5) (queued 5) w).is in cc;
  take_refused =
      λ w. let e : not_taken ≡ taken 2 1 = (told-at 15 (Step.take 7) not_taken w).is in cc;
  too_few = λ w. let e : taken 2 0 ≡ taken 2 1 = (told-at 15 (Step.take 7) (taken 2 0) w).is in cc;
  same_number =
      λ w. let e : taken 1 1 ≡ taken 2 1 = (told-at 15 (Step.take 7) (taken 1 1) w).is in cc;
  other_length =
      λ w. let i = told-at 10 Step.encode (encoded 1 140) w in is-encoded i.given.refused i.is;
  too_large_though_it_fits =
      λ w. let i = told-at 10 Step.encode (Answer.dropped 1 too_large) w in
      is-dropped i.given.refused i.is;
  second_attempt =
      λ w. let i = told-at 11 (Step.attempt 0) (sent 1 2 Outcome.delivered) w in
      let e : sent 1 2 Outcome.delivered ≡ sent 1 1 i.given.outcome = i.is in
      cc;
  not_sent =
      λ w. let i = told-at 11 (Step.attempt 0) nothing w in
      let e : nothing ≡ sent 1 1 i.given.outcome = i.is in
      cc;
}

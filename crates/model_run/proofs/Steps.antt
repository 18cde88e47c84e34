-- Each right answer keeps the account.
use Rattle.std.proofs.Common.{◌≡◌, refl, sym, ap, subst, ◌∙◌, ℕ, ◌+◌, ◌-◌, ◌*◌, ◌^◌, ◌<◌, ◌≤◌, ◌==◌}
use Rattle.std.proofs.Common.{nat_lt, nat_le, min, arith, map, List, [], ◌∷◌, ◌++◌, length, Bool}
use Rattle.std.proofs.Common.{true, false, true≢false, cond, not, ◌&&◌, ◌||◌, ◌⊎◌, inl, inr, Option}
use Rattle.std.proofs.Common.{Some, None, option_map}
use Rattle.std.specs.Prelude.{is_none, if◌then◌else◌}
use Rattle.std.specs.List.{list_any}
use Rattle.std.proofs.lemmas.Bool.{eqb-true, eq-eqb, false_from_ne_true, cases_order}
use Rattle.std.proofs.lemmas.List.Sorted.{sum_by-IsPermutation}
use Rattle.model_span.specs.Dropped.{Reason, queue_full, encode_memory, too_large, can_drop_batch}
use Rattle.model_span.specs.Sampling.{is_sampled}
use Rattle.model_span.specs.Spans.{SpanData, Kind, Call, is_end}
use Rattle.model_span.specs.Starts.{StartedSpan}
use Rattle.model_desk.specs.Retries.{Outcome, Cause, Next, again, give_up, Fate, fate_of}
use Rattle.model_desk.specs.Waits.{next_after}
use Rattle.model_desk.specs.Queue.{DeskEvent, tickets, waiting_spans, in_hand_spans, handed_spans}
use Rattle.model_desk.specs.Queue.{drops, last_batch, last_size, in_hand, with_exporter, stage}
use Rattle.model_desk.specs.Queue.{is_closed}
use Rattle.model_desk.specs.Queue as desk
use Rattle.model_desk.specs.Desks.{Desk, out_as, is_due, is_in_hand, is_with_exporter, desk_of}
use Rattle.model_desk.specs.Desks.{AreAllowed}
use Rattle.model_desk.proofs.Lists.{get-at}
use Rattle.model_desk.proofs.Steps.{stage-kept, stage-told}
use Rattle.model_run.specs.Queues.{times, places}
use Rattle.model_run.proofs.Counts.{queue-bounded}
use Rattle.model_run.proofs.Tickets.{in-places, each-once, times-below}
use Rattle.model_run.specs.Steps.{Step, Parent, is_shutdown}
use Rattle.model_run.specs.History.{Setup}
use Rattle.model_run.specs.Runs.{Ended, queued, late, not_sampled, already_ended, Answer, started}
use Rattle.model_run.specs.Runs.{no_randomness, no_span, out_of_memory, done, ended, taken}
use Rattle.model_run.specs.Runs.{not_taken, encoded, sent, early, replied, nothing, Answered}
use Rattle.model_run.specs.Runs.{span_at, calls_so_far, ended_by, event_by, desk_events}
use Rattle.model_run.specs.Answers.{RunConfig, Given, Progress, not_out, to_encode, to_send}
use Rattle.model_run.specs.Answers.{to_judge, to_retry, last_attempt, progress_by, progress}
use Rattle.model_run.specs.Answers.{takes_memory, call_takes_memory, start_answer, end_answer}
use Rattle.model_run.specs.Answers.{call_answer, take_answer, last_length, encode_answer}
use Rattle.model_run.specs.Answers.{attempt_answer, reply_answer, desk_after, answer_to, IsAnswer}
use Rattle.model_run.specs.Answers.{AreAnswers}
use Rattle.model_run.proofs.More.{is_shut, ended-shut, ended-none, span-of-end, progress-none}
use Rattle.model_run.proofs.More.{progress-some}
use Rattle.model_run.specs.Headline.{numbers_below, EachOnce}
use Rattle.model_run.specs.Laws.{OfHistories, OfRuns, HandedAreNotDropped, TakenAfterShutdown}
use Rattle.model_run.specs.Laws.{was_shut, may_take, EventsAreAllowed, NoneUnaccountedFor}
use Rattle.model_run.specs.Laws.{WaitingAreEnded, BatchesAreEnded, DropsNameEnded, LossesNameEnded}
use Rattle.model_run.proofs.RightHistories.{by-steps, front}
use Rattle.model_run.proofs.Answered.{taken-where-due}
use Rattle.model_run.proofs.Ends.{told, start-ends-none, missing-ends-none, later-ends-none}
use Rattle.model_run.proofs.Ends.{unsampled-ends-none, exported_next, first-end-ends}
use Rattle.model_run.proofs.Attempts.{Tried, tried-step, tried-none, was-tried}
use Rattle.model_run.proofs.Accounts.{Account, stage_of, quiet, tells, ends}
use Rattle.model_run.proofs.Values as values
use Rattle.model_run.proofs.Elements.{same-elements}

and-left : (a b : Bool) → (a && b) ≡ true → a ≡ true
and-left true b e = refl
and-left false b e = e

and-right : (a b : Bool) → (a && b) ≡ true → b ≡ true
and-right true b e = e
and-right false b e = absurd (true≢false (sym e))

none-is : {A : Type 0} (o : Option A) → is_none o ≡ true → o ≡ None
none-is None e = refl
none-is (Some x) e = absurd (true≢false (sym e))

module _ (run : RunConfig) (h : List Answered) (a : Account run h)
    (tried : (moment : ℕ) → progress h ≡ to_retry moment → 0 < last_attempt h) where
  abbrev events : List DeskEvent
  events = desk_events run.setup h

  abbrev After : Step → Answer → Type 0
  After step answer = Account run (h ++ told step answer ∷ [])

  -- ---- flush and shutdown

  after-flush : After Step.flush Answer.flush
  after-flush =
      tells run h (told Step.flush Answer.flush) desk.flush
      (ended-none run.setup h (told Step.flush Answer.flush) refl) refl refl
      (stage-kept events desk.flush refl ∙ a.stands
      ∙ ap stage_of (sym (progress-none h (told Step.flush Answer.flush) refl)))
      refl tt a

  after-shutdown : After Step.shutdown Answer.shutdown
  after-shutdown =
      tells run h (told Step.shutdown Answer.shutdown) desk.shutdown
      (ended-none run.setup h (told Step.shutdown Answer.shutdown) refl) refl refl
      (stage-kept events desk.shutdown refl ∙ a.stands
      ∙ ap stage_of (sym (progress-none h (told Step.shutdown Answer.shutdown) refl)))
      refl tt a

  -- ---- batches

  abbrev size : ℕ
  size = min run.desk.batch (length (waiting_spans events))

  after-take : (now : ℕ) → After (Step.take now) (take_answer (desk_of run.desk 0 events) now)
  unfolding desk_of
  after-take now =
      by (is_due (desk_of run.desk 0 events) now && is_none (desk_of run.desk 0 events).out) refl
    where
      by : (b : Bool)
          → (is_due (desk_of run.desk 0 events) now && is_none (desk_of run.desk 0 events).out) ≡ b
          → After (Step.take now) (if b then taken (last_batch events + 1) size else not_taken)
      by true e =
          tells run h (told (Step.take now) (taken (last_batch events + 1) size))
          (desk.taken now size)
          (ended-none run.setup h (told (Step.take now) (taken (last_batch events + 1) size)) refl)
          refl refl
          (stage-told events (desk.taken now size) in_hand refl
          ∙ ap stage_of
          (sym (progress-some h
          (told (Step.take now) (taken (last_batch events + 1) size)) to_encode refl)))
          refl (
            and-left (is_due (desk_of run.desk 0 events) now) _ e,
            none-is (desk_of run.desk 0 events).out
                (and-right (is_due (desk_of run.desk 0 events) now) _ e),
            refl,
          )
          a
      by false e =
          quiet run h (told (Step.take now) not_taken)
          (ended-none run.setup h (told (Step.take now) not_taken) refl) refl
          (ap stage_of (progress-none h (told (Step.take now) not_taken) refl)) refl a

  after-nothing : (step : Step)
      → ended_by run.setup (h ++ told step nothing ∷ []) ≡ ended_by run.setup h
      → is_shutdown step ≡ false → After step nothing
  after-nothing step e s =
      quiet run h (told step nothing) e refl
      (ap stage_of (progress-none h (told step nothing) refl)) s a

  in-hand : stage events ≡ in_hand → is_in_hand (desk_of run.desk 0 events).out ≡ true
  unfolding desk_of
  in-hand e = ap (λ s. is_in_hand (out_as s (last_batch events) (last_size events))) e

  after-dropped : (number : ℕ) (reason : Reason) → can_drop_batch reason ≡ true
      → progress h ≡ to_encode → After Step.encode (Answer.dropped number reason)
  after-dropped number reason r e =
      tells run h (told Step.encode (Answer.dropped number reason)) (desk.dropped reason)
      (ended-none run.setup h (told Step.encode (Answer.dropped number reason)) refl) refl refl
      (stage-told events (desk.dropped reason) desk.not_out refl
      ∙ ap stage_of
      (sym (progress-some h (told Step.encode (Answer.dropped number reason)) not_out refl)))
      refl
      (in-hand (a.stands ∙ ap stage_of e), r) a

  after-encoded : (number many : ℕ) → progress h ≡ to_encode
      → After Step.encode (encoded number many)
  after-encoded number many e =
      quiet run h (told Step.encode (encoded number many))
      (ended-none run.setup h (told Step.encode (encoded number many)) refl) refl
      (ap stage_of (progress-some h (told Step.encode (encoded number many)) to_send refl)
      ∙ ap stage_of (sym e))
      refl a

  after-encode : (desk_now : Desk) (refused : Bool) (p : Progress) → progress h ≡ p
      → After Step.encode (encode_answer run h desk_now refused p)
  after-encode d true to_encode e = after-dropped d.batches encode_memory refl e
  after-encode d false to_encode e = by (nat_le (last_length run.setup h) run.max_body)
    where
      by : (b : Bool)
          → After Step.encode
          (if b then encoded d.batches (last_length run.setup h)
          else Answer.dropped d.batches too_large)
      by true = after-encoded d.batches (last_length run.setup h) e
      by false = after-dropped d.batches too_large refl e
  after-encode d refused not_out e =
      after-nothing Step.encode (ended-none run.setup h (told Step.encode nothing) refl) refl
  after-encode d refused to_send e =
      after-nothing Step.encode (ended-none run.setup h (told Step.encode nothing) refl) refl
  after-encode d refused (to_judge outcome) e =
      after-nothing Step.encode (ended-none run.setup h (told Step.encode nothing) refl) refl
  after-encode d refused (to_retry moment) e =
      after-nothing Step.encode (ended-none run.setup h (told Step.encode nothing) refl) refl

  with-exporter : stage events ≡ with_exporter
      → is_with_exporter (desk_of run.desk 0 events).out ≡ true
  unfolding desk_of
  with-exporter e = ap (λ s. is_with_exporter (out_as s (last_batch events) (last_size events))) e

  after-nothing-sent : (now : ℕ) → After (Step.attempt now) nothing
  after-nothing-sent now =
      after-nothing (Step.attempt now)
      (ended-none run.setup h (told (Step.attempt now) nothing) refl) refl

  -- A later attempt does nothing at the queue, since the batch is with the exporter already.
  after-retry : (number attempt now : ℕ) (outcome : Outcome) → 1 < attempt
      → stage events ≡ with_exporter → After (Step.attempt now) (sent number attempt outcome)
  after-retry number attempt now outcome l e =
      quiet run h (told (Step.attempt now) (sent number attempt outcome))
      (ended-none run.setup h (told (Step.attempt now) (sent number attempt outcome)) refl)
      (ap (λ b. if b then Some desk.handed else None)
      (false_from_ne_true (attempt == 1)
      (λ k. let n = eqb-true attempt 1 k in absurd (omega (arith, l, n)))))
      (ap stage_of
      (progress-some h (told (Step.attempt now) (sent number attempt outcome))
      (to_judge outcome) refl)
      ∙ sym e ∙ a.stands)
      refl a

  after-attempt : (desk_now : Desk) (outcome : Outcome) (now : ℕ) (p : Progress) → progress h ≡ p
      → After (Step.attempt now) (attempt_answer h desk_now outcome now p)
  after-attempt d outcome now to_send e =
      tells run h (told (Step.attempt now) (sent d.batches 1 outcome)) desk.handed
      (ended-none run.setup h (told (Step.attempt now) (sent d.batches 1 outcome)) refl) refl refl
      (stage-told events desk.handed with_exporter refl
      ∙ ap stage_of
      (sym (progress-some h (told (Step.attempt now) (sent d.batches 1 outcome))
      (to_judge outcome) refl)))
      refl
      (in-hand (a.stands ∙ ap stage_of e)) a
  after-attempt d outcome now (to_retry moment) e = by (nat_lt now moment)
    where
      by : (b : Bool)
          → After (Step.attempt now)
          (if b then early else sent d.batches (last_attempt h + 1) outcome)
      by true =
          quiet run h (told (Step.attempt now) early)
          (ended-none run.setup h (told (Step.attempt now) early) refl) refl
          (ap stage_of (progress-none h (told (Step.attempt now) early) refl)) refl a
      by false =
          let some = tried moment e in
          after-retry d.batches (last_attempt h + 1) now outcome (omega (arith, some))
          (a.stands ∙ ap stage_of e)
  after-attempt d outcome now not_out e = after-nothing-sent now
  after-attempt d outcome now to_encode e = after-nothing-sent now
  after-attempt d outcome now (to_judge o) e = after-nothing-sent now

  -- ---- replies

  after-nothing-replied : (now word : ℕ) → After (Step.reply now word) nothing
  after-nothing-replied now word =
      after-nothing (Step.reply now word)
      (ended-none run.setup h (told (Step.reply now word) nothing) refl) refl

  after-settled : (number now word : ℕ) (next : Next) (fate : Fate) → fate_of next ≡ Some fate
      → progress_by (replied number next) ≡ Some not_out → stage events ≡ with_exporter
      → After (Step.reply now word) (replied number next)
  after-settled number now word next fate f p e =
      tells run h (told (Step.reply now word) (replied number next)) (desk.settled fate)
      (ended-none run.setup h (told (Step.reply now word) (replied number next)) refl)
      (ap (option_map desk.settled) f) refl
      (stage-told events (desk.settled fate) desk.not_out refl
      ∙ ap stage_of
      (sym (progress-some h (told (Step.reply now word) (replied number next)) not_out p)))
      refl
      (with-exporter e) a

  after-replied : (number now word : ℕ) (next : Next) → stage events ≡ with_exporter
      → After (Step.reply now word) (replied number next)
  after-replied number now word Next.done e =
      after-settled number now word Next.done Fate.delivered refl refl e
  after-replied number now word (Next.partial rejected) e =
      after-settled number now word (Next.partial rejected) (Fate.partial rejected) refl refl e
  after-replied number now word (give_up (Cause.refused status)) e =
      after-settled number now word (give_up (Cause.refused status))
      (Fate.refused status) refl refl e
  after-replied number now word (give_up Cause.bad_reply) e =
      after-settled number now word (give_up Cause.bad_reply) Fate.bad_reply refl refl e
  after-replied number now word (give_up Cause.attempts) e =
      after-settled number now word (give_up Cause.attempts) Fate.given_up refl refl e
  after-replied number now word (again moment) e =
      quiet run h (told (Step.reply now word) (replied number (again moment)))
      (ended-none run.setup h (told (Step.reply now word) (replied number (again moment))) refl)
      refl
      (ap stage_of
      (progress-some h (told (Step.reply now word) (replied number (again moment)))
      (to_retry moment) refl)
      ∙ sym e ∙ a.stands)
      refl a

  after-reply : (desk_now : Desk) (now word : ℕ) (p : Progress) → progress h ≡ p
      → After (Step.reply now word) (reply_answer run h desk_now now word p)
  after-reply d now word (to_judge outcome) e =
      after-replied d.batches now word (next_after run.retry (last_attempt h) outcome now word)
      (a.stands ∙ ap stage_of e)
  after-reply d now word not_out e = after-nothing-replied now word
  after-reply d now word to_encode e = after-nothing-replied now word
  after-reply d now word to_send e = after-nothing-replied now word
  after-reply d now word (to_retry moment) e = after-nothing-replied now word

  -- ---- starts

  module _ (scope : ℕ) (parent : Parent) (kind : Kind) (at : ℕ) (name : List ℕ) where
    abbrev step : Step
    step = Step.start scope parent kind at name

    after-one : (answer : Answer) → event_by run.setup h answer step ≡ None
        → progress_by answer ≡ None → After step answer
    after-one answer e p =
        quiet run h (told step answer)
        (start-ends-none run.setup h scope parent kind at name answer) e
        (ap stage_of (progress-none h (told step answer) p)) refl a

    refused-or-not : (s : StartedSpan) (b : Bool)
        → After step
        (if b then out_of_memory
        else started (record { trace = s.start.context.trace; span = s.start.context.span }))
    refused-or-not s true = after-one out_of_memory refl refl
    refused-or-not s false =
        after-one
        (started (record { trace = s.start.context.trace; span = s.start.context.span })) refl refl

    after-start : (there refused : Bool) (s : Option StartedSpan)
        → After step (start_answer there refused s)
    after-start true refused None = after-one no_randomness refl refl
    after-start false refused None = after-one no_span refl refl
    after-start there refused (Some s) = refused-or-not s (refused && takes_memory s)

  -- ---- ends

  -- Before a shutdown, and with tickets left, spans are admitted.
  open-now : is_shut h ≡ false → length (ended_by run.setup h) + 1 < 2 ^ 64 - 1
      → is_closed events ≡ false
  open-now e l = rw (a.shut, e) (by (length (tickets events) == 2 ^ 64 - 1) refl)
    where
      by : (b : Bool) → (length (tickets events) == 2 ^ 64 - 1) ≡ b → b ≡ false
      by false f = refl
      by true f =
          let n : length (tickets events) ≡ 2 ^ 64 - 1 =
          eqb-true (length (tickets events)) (2 ^ 64 - 1) f in
          let m = a.given in
          absurd (omega (arith, n, m, l))

  -- After a shutdown no span is admitted.
  closed-now : is_shut h ≡ true → is_closed events ≡ true
  closed-now e = rw (a.shut, e) refl

  module _ (n : ℕ) (c : Call) (s : StartedSpan) (started_at : span_at run.setup h n ≡ Some s)
      (is_one : is_end c ≡ true) where
    abbrev ticket : ℕ
    ticket = length (ended_by run.setup h)

    abbrev next : SpanData
    next = exported_next run.setup h n c s

    abbrev still : (answer : Answer) → Type 0
    still answer = ended_by run.setup (h ++ told (Step.call n c) answer ∷ []) ≡ ended_by run.setup h

    after-full : is_shut h ≡ false → list_any is_end (calls_so_far h n) ≡ false
        → is_sampled s.decision ≡ true → length (waiting_spans events) ≡ run.desk.queue
        → After (Step.call n c) (ended (Ended.dropped ticket queue_full))
    unfolding desk_of
    after-full shut over sampled full =
        let e =
        first-end-ends run.setup h n c
        (ended (Ended.dropped ticket queue_full)) s refl shut is_one over started_at sampled in
        ends run h (told (Step.call n c) (ended (Ended.dropped ticket queue_full))) next
        (desk.full next) e
        (ap (option_map desk.full) (span-of-end run.setup h n c ticket s started_at sampled))
        (get-at (ended_by run.setup h) next ticket refl) refl refl refl refl refl
        (λ l. (open-now shut l, full, sym a.given)) a

    after-queued : is_shut h ≡ false → list_any is_end (calls_so_far h n) ≡ false
        → is_sampled s.decision ≡ true → (length (waiting_spans events) ≡ run.desk.queue → ⊥)
        → After (Step.call n c) (ended (queued ticket))
    unfolding desk_of
    after-queued shut over sampled room =
        let e =
        first-end-ends run.setup h n c
        (ended (queued ticket)) s refl shut is_one over started_at sampled in
        ends run h (told (Step.call n c) (ended (queued ticket))) next (desk.queued next) e
        (ap (option_map desk.queued) (span-of-end run.setup h n c ticket s started_at sampled))
        (get-at (ended_by run.setup h) next ticket refl) refl refl refl refl refl
        (λ l. (
          open-now shut l,
          has-room (queue-bounded run.desk 0 events (a.allowed (omega (arith, l)))),
          sym a.given,
        ))
        a
      where
        has-room : length (waiting_spans events) ≤ run.desk.queue
            → length (waiting_spans events) < run.desk.queue
        has-room l = by (cases_order (length (waiting_spans events)) run.desk.queue)
          where
            by : (length (waiting_spans events) ≡ run.desk.queue)
                ⊎ ((length (waiting_spans events) < run.desk.queue)
                ⊎ (run.desk.queue < length (waiting_spans events)))
                → length (waiting_spans events) < run.desk.queue
            by (inl e) = absurd (room e)
            by (inr (inl e)) = e
            by (inr (inr e)) = absurd (omega (arith, l, e))

    after-end : After (Step.call n c) (ended (end_answer run h (desk_of run.desk 0 events) n s))
    unfolding desk_of
    after-end =
        by (list_any is_end (calls_so_far h n)) refl (is_sampled s.decision) refl (is_shut h) refl
        (length (waiting_spans events) == run.desk.queue) refl
      where
        silent : (answer : Answer) → still answer
            → event_by run.setup h answer (Step.call n c) ≡ None → progress_by answer ≡ None
            → After (Step.call n c) answer
        silent answer e f p =
            quiet run h (told (Step.call n c) answer) e f
            (ap stage_of (progress-none h (told (Step.call n c) answer) p)) refl a

        by : (over : Bool) → list_any is_end (calls_so_far h n) ≡ over → (sampled : Bool)
            → is_sampled s.decision ≡ sampled → (shut : Bool) → is_shut h ≡ shut → (full : Bool)
            → (length (waiting_spans events) == run.desk.queue) ≡ full
            → After (Step.call n c)
            (ended (if over then already_ended else if not sampled then not_sampled else if shut
            then late else if full then Ended.dropped ticket queue_full else queued ticket))
        by true o sampled d shut u full f =
            silent (ended already_ended)
            (later-ends-none run.setup h n c (ended already_ended) refl (rw (is_one, o) refl)) refl
            refl
        by false o false d shut u full f =
            silent (ended not_sampled)
            (unsampled-ends-none run.setup h n c (ended not_sampled) s refl started_at d) refl refl
        by false o true d true u full f =
            tells run h (told (Step.call n c) (ended late)) desk.late
            (ended-shut run.setup h (told (Step.call n c) (ended late)) u) refl refl
            (stage-kept events desk.late refl ∙ a.stands
            ∙ ap stage_of (sym (progress-none h (told (Step.call n c) (ended late)) refl)))
            refl
            (closed-now u) a
        by false o true d false u true f =
            after-full u o d (eqb-true (length (waiting_spans events)) run.desk.queue f)
        by false o true d false u false f =
            after-queued u o d
            (λ e. true≢false (sym (eq-eqb (length (waiting_spans events)) run.desk.queue e) ∙ f))

  after-call : (n : ℕ) (c : Call) (refused : Bool) (o : Option StartedSpan)
      → span_at run.setup h n ≡ o
      → After (Step.call n c) (call_answer run h (desk_of run.desk 0 events) refused n c o)
  after-call n c refused None e =
      quiet run h (told (Step.call n c) no_span)
      (missing-ends-none run.setup h n c no_span refl e) refl
      (ap stage_of (progress-none h (told (Step.call n c) no_span) refl)) refl a
  after-call n c refused (Some s) e =
      by (is_end c) refl (refused && call_takes_memory s (calls_so_far h n) c)
    where
      by : (b : Bool) → is_end c ≡ b → (r : Bool)
          → After (Step.call n c)
          (if b then ended (end_answer run h (desk_of run.desk 0 events) n s) else if r
          then out_of_memory else done)
      by true f r = after-end n c s e f
      by false f true =
          quiet run h (told (Step.call n c) out_of_memory)
          (ended-none run.setup h (told (Step.call n c) out_of_memory) refl) refl
          (ap stage_of (progress-none h (told (Step.call n c) out_of_memory) refl)) refl a
      by false f false =
          quiet run h (told (Step.call n c) done)
          (later-ends-none run.setup h n c done refl (rw f refl)) refl
          (ap stage_of (progress-none h (told (Step.call n c) done) refl)) refl a

  -- ---- all

  after-step : (given : Given) (step : Step) → After step (answer_to run h given step)
  unfolding desk_after
  after-step given (Step.start scope parent kind at name) =
      after-start scope parent kind at name _ given.refused _
  after-step given (Step.call n c) = after-call n c given.refused (span_at run.setup h n) refl
  after-step given Step.flush = after-flush
  after-step given Step.shutdown = after-shutdown
  after-step given (Step.take now) = after-take now
  after-step given Step.encode =
      after-encode (desk_of run.desk 0 events) given.refused (progress h) refl
  after-step given (Step.attempt now) =
      after-attempt (desk_of run.desk 0 events) given.outcome now (progress h) refl
  after-step given (Step.reply now word) =
      after-reply (desk_of run.desk 0 events) now word (progress h) refl

-- the account, and how often the last batch was sent
abbrev pub Accounts : RunConfig → List Answered → Type 0
Accounts run h = Account run h × Tried run h

-- Each right answer keeps the account and what is kept of attempts.
pub accounts-step : (run : RunConfig) (h : List Answered) (x : Answered) → Accounts run h
    → IsAnswer run h x → Accounts run (h ++ x ∷ [])
accounts-step run h x a i = (
  subst (λ answer. Account run (h ++ told x.step answer ∷ [])) (sym i.is)
      (after-step run h a.0 (was-tried run h a.1) i.given x.step),
  tried-step run h x a.1 i,
)

account-none : (run : RunConfig) → Account run []
unfolding ended_by desk_events progress AreAllowed
account-none run = record { are = tt; given = refl; stands = refl; shut = refl; allowed = λ l. tt }

-- The account and what is kept of attempts hold before the first step.
pub accounts-none : (run : RunConfig) → Accounts run []
accounts-none run = (account-none run, tried-none run)

accounts : (run : RunConfig) (h : List Answered) → AreAnswers run h → Accounts run h
accounts run h w = by-steps run (Accounts run) (accounts-step run) h (accounts-none run) w

-- The account holds after right answers.
pub account : (run : RunConfig) (h : List Answered) → AreAnswers run h → Account run h
account run h w = (accounts run h w).0

-- ---- what waits, is in batches, or was dropped

-- The spans that wait are spans that ended, each with its ticket and value.
pub waiting-are-ended : OfRuns (λ run. WaitingAreEnded run.setup)
waiting-are-ended run h w = values.waiting-are-ended run.setup h (account run h w).are

-- The spans of each batch are spans that ended, each with its ticket and value.
pub batches-are-ended : OfRuns (λ run. BatchesAreEnded run.setup)
batches-are-ended run h w = values.batches-are-ended run.setup h (account run h w).are

-- The names of lost spans are those of spans that ended, each with its ticket.
pub losses-name-ended : OfRuns (λ run. LossesNameEnded run.setup)
losses-name-ended run h w = values.losses-name-ended run.setup h (account run h w).are

-- The names of dropped spans are those of spans that ended, each with its ticket.
pub drops-name-ended : OfRuns (λ run. DropsNameEnded run.setup)
drops-name-ended run h w = values.drops-name-ended run.setup h (account run h w).are

-- ---- no span is unaccounted for

-- What is done at the queue is allowed where there are tickets for all spans that end.
pub events-are-allowed : OfRuns EventsAreAllowed
events-are-allowed run h w l = (account run h w).allowed l

-- Each span that ended before the shutdown is handed, still queued, or dropped, once.
pub none-unaccounted-for : OfRuns NoneUnaccountedFor
none-unaccounted-for run h w l =
    let a : Account run h = account run h w in
    let many : (ticket : ℕ)
    → times ticket (places (desk_events run.setup h))
    ≡ times ticket (numbers_below (length (ended_by run.setup h))) =
    λ ticket.
    each-once run.desk 0 (desk_events run.setup h) l ticket
    ∙ ap (λ (n : ℕ). if nat_lt ticket n then 1 else 0) a.given
    ∙ sym (times-below ticket (length (ended_by run.setup h))) in
    same-elements (places (desk_events run.setup h))
    (numbers_below (length (ended_by run.setup h))) many

-- A ticket is in the places once if a span ended with it, else not at all.
often : (setup : Setup) (h : List Answered) → EachOnce setup h → (ticket : ℕ)
    → times ticket (places (desk_events setup h))
    ≡ (if nat_lt ticket (length (ended_by setup h)) then 1 else 0)
often setup h once ticket =
    sym (sum_by-IsPermutation (λ (t : ℕ). cond (t == ticket) 1 0) (places (desk_events setup h))
    (numbers_below (length (ended_by setup h))) once)
    ∙ times-below ticket (length (ended_by setup h))

-- No handed span is named as dropped, and neither is done twice.
pub handed-are-not-dropped : OfHistories (λ setup h. EachOnce setup h → HandedAreNotDropped setup h)
handed-are-not-dropped setup h once ticket =
    let sum = in-places (λ t. t == ticket) (desk_events setup h) in
    by (nat_lt ticket (length (ended_by setup h))) (sym sum ∙ often setup h once ticket)
  where
    by : (b : Bool)
        → times ticket (map (λ s. s.ticket) (waiting_spans (desk_events setup h)))
        + times ticket (map (λ s. s.ticket) (in_hand_spans (desk_events setup h)))
        + times ticket (map (λ s. s.ticket) (handed_spans (desk_events setup h)))
        + times ticket (map (λ e. e.ticket) (drops (desk_events setup h)))
        ≡ (if b then 1 else 0)
        → times ticket (map (λ s. s.ticket) (handed_spans (desk_events setup h)))
        + times ticket (map (λ e. e.ticket) (drops (desk_events setup h)))
        ≤ 1
    by true e = omega (arith, e)
    by false e = omega (arith, e)

-- ---- after a shutdown

closed-after : (run : RunConfig) (h : List Answered) → AreAnswers run h → was_shut h ≡ true
    → (desk_after run h).closed ≡ true
unfolding desk_after desk_of
closed-after run h w e =
    let a : Accounts run h = accounts run h w in closed-now run h a.0 (was-tried run h a.1) e

due-closed : (a b c d e : Bool) → c ≡ true → (a && (b || e || c || d)) ≡ a
due-closed true true c d e k = refl
due-closed true false c d true k = refl
due-closed true false c d false k = rw k refl
due-closed false b c d e k = refl

-- After a shutdown each take with no batch out gives a batch where spans wait.
pub taken-after-shutdown : OfRuns TakenAfterShutdown
taken-after-shutdown run h w before later x e now shut k =
    taken-where-due run h w before later x e ∙ ap (may_take run before) k
    ∙ ap (λ b. b && is_none (desk_after run before).out)
    (due-closed (nat_lt 0 (length (desk_after run before).waiting))
    (nat_le (desk_after run before).config.batch (length (desk_after run before).waiting))
    (desk_after run before).closed
    (nat_le
    ((desk_after run before).last_moment + (desk_after run before).config.delay_ms * 10 ^ 6) now)
    (nat_lt (desk_after run before).taken (desk_after run before).asked)
    (closed-after run before
    (front run before (x ∷ later) (subst (AreAnswers run) (sym e) w)) shut))

-- One more step of a run that is an end: its state after the end.
use Rattle.std.proofs.Common.{◌≡◌, refl, sym, ap, subst, ◌∙◌, ℕ, ◌+◌, ◌-◌, ◌^◌, ◌<◌, ◌==◌, nat_lt}
use Rattle.std.proofs.Common.{arith, List, [], ◌∷◌, ◌++◌, length, Bool, true, false, cond, ◌&&◌}
use Rattle.std.proofs.Common.{not, Option, Some, None, slice_get, option_map, inl, inr, ◌⊎◌}
use Rattle.std.specs.List.{list_any}
use Rattle.std.specs.Option.{option_to_list, option_and_then}
use Rattle.std.proofs.lemmas.List.{append-nil, length_push}
use Rattle.std.proofs.lemmas.Bool.{ltb-true, eqb-true}
use Rattle.std.proofs.lemmas.Option.{slice_get_within}
use Rattle.rand_core.specs.Stream.{Stream}
use Rattle.model_span.specs.Sampling.{SamplerMeaning, is_sampled}
use Rattle.model_span.specs.Spans.{Call, SpanData, end, is_end, with_ticket}
use Rattle.model_span.specs.Starts.{StartedSpan, exported_span}
use Rattle.model_span.specs.Dropped.{queue_full}
use Rattle.model_desk.specs.Retries.{delivered}
use Rattle.model_desk.specs.Queue as queue
use Rattle.model_desk.specs.Queue.{DeskEvent, last_spans, size_of_take}
use Rattle.model_desk.specs.Desks.{Desk, IsDesk}
use Rattle.model_desk.proofs.Steps.{IsWithin, last-kept, last-queued, sizes-kept, allowed-within}
use Rattle.model_run.specs.Steps.{Step}
use Rattle.model_run.specs.History.{SpanStep, StartResult, calls_on, start_count, start_results}
use Rattle.model_run.specs.History.{exported_of, exported_if_sampled, ended_spans, with_tickets}
use Rattle.model_run.proofs.Histories.{ended-no-more, ended-more, outcomes-many}
use Rattle.model_run.specs.Runs as runs
use Rattle.model_run.specs.Runs.{Answer, Answered, is_refused, span_steps, ended_by, span_of_end}
use Rattle.model_run.specs.Runs.{event_by, desk_events}
use Rattle.model_run.specs.Answers.{RunConfig, call_answer, end_answer, progress_by, desk_after}
use Rattle.model_run.specs.Answers.{IsAnswer}
use Rattle.model_run.proofs.More.{is_shut, shut-more, ended-open, ended-shut, ended-some}
use Rattle.model_run.proofs.More.{events-more, span-of-end, answers-more}
use Rattle.batch_desk.specs.Desk.{admission, admission_event, after_admission}
use Rattle.batch_desk.specs.declared.admitted.Admitted.{Admitted}
use Rattle.batch_desk.specs.declared.admitted.Admitted.TheVariants as admitted
use Rattle.trace_api.specs.declared.pass.Ended.{Ended}
use Rattle.trace_api.specs.declared.pass.Ended.TheVariants as ends
use Rattle.trace_run.specs.Answers.{answer_view}
use Rattle.trace_run.specs.declared.answer.Answer.{Answer as CodeAnswer}
use Rattle.trace_run.specs.declared.answer.Answer.TheVariants as answers
use Rattle.trace_run.specs.Table.{TableWith, TakesStep, span_numbered}
use Rattle.trace_run.specs.Ends.{EndsAs, EndsBy, AnswersAlone}
use Rattle.trace_run.specs.Queue.{Admits, ended_as}
use Rattle.trace_run.specs.Out.{Out}
use Rattle.trace_run.specs.State.{Stands}
use Rattle.trace_run.proofs.Standing.{IsQuiet, or-false, tied-kept, desk-is, stands-on, out-stays}
use Rattle.trace_run.proofs.Standing.{quiet-on, spans-on}

admission-late : (d : Desk) → d.closed ≡ true → admission d ≡ admitted.Late
admission-late d e = rw e refl

admission-full : (d : Desk) → d.closed ≡ false → (length d.waiting == d.config.queue) ≡ true
    → admission d ≡ admitted.Full d.next_ticket
admission-full d e f = rw (e, f) refl

admission-queued : (d : Desk) → d.closed ≡ false → (length d.waiting == d.config.queue) ≡ false
    → admission d ≡ admitted.Queued d.next_ticket
admission-queued d e f = rw (e, f) refl

exported-by : (calls : List Call) (r : Option StartResult)
    → exported_of calls r
    ≡ option_and_then (exported_if_sampled calls) (option_and_then (λ o. o.span) r)
exported-by calls None = refl
exported-by calls (Some o) = refl

module _ {S R : Type 0} (meaning : S → SamplerMeaning) (stream : R → Stream) (run : RunConfig)
    (h : List Answered) (table : TableWith S R) (desk : Desk) (out : Option Out)
    (at : Stands meaning stream run h table desk out) (n now : ℕ) where
  abbrev pub steps : List SpanStep
  steps = span_steps h

  abbrev pub calls : List Call
  calls = calls_on n steps

  abbrev pub step : Step
  step = Step.call n (end now)

  abbrev pub answered : Answer → Answered
  answered answer = record { step = step; answer = answer }

  abbrev later-calls : List Call
  later-calls = calls ++ end now ∷ []

  -- ---- ends that give no ticket

  no-more : (s : Option StartedSpan) → span_numbered run.setup steps n ≡ s
      → (list_any is_end calls ≡ true)
      ⊎ (option_and_then (exported_if_sampled later-calls) s ≡ None)
      → ended_spans run.setup (steps ++ SpanStep.call n (end now) ∷ [])
      ≡ ended_spans run.setup steps
  no-more s e (inl had) =
      ended-no-more run.setup steps n (end now) (by (nat_lt n (start_count steps)))
    where
      by : (b : Bool) → (b && not (list_any is_end calls)) ≡ false
      by true = rw had refl
      by false = refl
  no-more s e (inr none) = by (nat_lt n (start_count steps)) refl (list_any is_end calls) refl
    where
      exported : exported_of later-calls (slice_get (start_results run.setup steps) n) ≡ None
      exported =
          exported-by later-calls (slice_get (start_results run.setup steps) n)
          ∙ ap (option_and_then (exported_if_sampled later-calls)) e ∙ none

      by : (l : Bool) → nat_lt n (start_count steps) ≡ l → (b : Bool) → list_any is_end calls ≡ b
          → ended_spans run.setup (steps ++ SpanStep.call n (end now) ∷ [])
          ≡ ended_spans run.setup steps
      by false f b g = ended-no-more run.setup steps n (end now) (rw f refl)
      by true f true g = ended-no-more run.setup steps n (end now) (rw (f, g) refl)
      by true f false g =
          (ended-more run.setup steps n (end now) refl (ltb-true n (start_count steps) f) g).0
          ∙ rw exported (append-nil (ended_spans run.setup steps))

  same-by : (answer : Answer) (s : Option StartedSpan) → is_refused answer ≡ false
      → span_numbered run.setup steps n ≡ s
      → (list_any is_end calls ≡ true)
      ⊎ (option_and_then (exported_if_sampled later-calls) s ≡ None)
      → ended_by run.setup (h ++ answered answer ∷ []) ≡ ended_by run.setup h
  same-by answer s r e why = by (is_shut h) refl
    where
      by : (b : Bool) → is_shut h ≡ b
          → ended_by run.setup (h ++ answered answer ∷ []) ≡ ended_by run.setup h
      by true f = ended-shut run.setup h (answered answer) f
      by false f =
          ended-some run.setup h (answered answer) (SpanStep.call n (end now)) f refl (rw r refl)
          ∙ no-more s e why ∙ sym (ended-open run.setup h f)

  -- An answer to an end that is the model's for its span is right.
  right-by : (answer : Answer) (s : Option StartedSpan) → span_numbered run.setup steps n ≡ s
      → answer ≡ call_answer run h (desk_after run h) false n (end now) s
      → IsAnswer run h (answered answer)
  right-by answer s e f = record {
    given = record { refused = false; outcome = delivered };
    is = f ∙ ap (call_answer run h (desk_after run h) false n (end now)) (sym e);
  }

  -- A run's state is still what its steps mean after an end that the queue doesn't see.
  alone-on : (answer : Answer) (s : Option StartedSpan) (table2 : TableWith S R)
      → IsQuiet answer step → is_refused answer ≡ false → span_numbered run.setup steps n ≡ s
      → (list_any is_end calls ≡ true)
      ⊎ (option_and_then (exported_if_sampled later-calls) s ≡ None)
      → answer ≡ call_answer run h (desk_after run h) false n (end now) s
      → TakesStep meaning stream step answer table table2 → length table2.spans ≡ length table.spans
      → Stands meaning stream run (h ++ answered answer ∷ []) table2 desk out
  alone-on answer s table2 quiet r e why right takes many =
      quiet-on meaning stream run h table desk out at (answered answer) table2 quiet
      (spans-on meaning stream run h table desk out at (answered answer) table2 takes)
      (same-by answer s r e why) refl (omega (arith, many)) (right-by answer s e right)

  -- ---- the first end of a sampled span

  module _ (s : StartedSpan) (there : span_numbered run.setup steps n ≡ Some s)
      (first : list_any is_end calls ≡ false) (sampled : is_sampled s.decision ≡ true) where
    abbrev span : SpanData
    span = exported_span s later-calls

    abbrev k : ℕ
    k = length (ended_by run.setup h)

    within : n < start_count steps
    within = by (slice_get (start_results run.setup steps) n) refl
      where
        by : (r : Option StartResult) → slice_get (start_results run.setup steps) n ≡ r
            → n < start_count steps
        by None e =
            let no : None ≡ Some s = sym (ap (option_and_then (λ o. o.span)) e) ∙ there in cc
        by (Some o) e =
            rw (outcomes-many run.setup steps) at
            (slice_get_within (start_results run.setup steps) n o e)

    some-span : 0 < length table.spans
    some-span =
        let w = within in
        let m = at.spans.many ∙ outcomes-many run.setup steps in
        omega (arith, w, m)

    end-is : (b : Bool) → desk.closed ≡ b → (f : Bool)
        → (length desk.waiting == desk.config.queue) ≡ f →
        end_answer run h (desk_after run h) n s
        ≡ cond b runs.late (cond f (runs.Ended.dropped k queue_full) (runs.queued k))
    end-is b e f g =
        rw (first, sampled, sym at.closed ∙ e)
        (rw (← desk-is meaning stream run h table desk out at)
        (rw (ap (λ c. length desk.waiting == c.queue) (sym at.config) ∙ g) refl))

    -- late: there was a shutdown
    late-on : (table2 : TableWith S R) (desk2 : Desk) → desk.closed ≡ true
        → desk2 ≡ after_admission admitted.Late span desk
        → IsDesk 0 (desk_events run.setup h ++ queue.late ∷ []) desk2
        → TakesStep meaning stream step (runs.ended runs.late) table table2
        → length table2.spans ≡ length table.spans
        → Stands meaning stream run (h ++ answered (runs.ended runs.late) ∷ []) table2 desk2 out
    late-on table2 desk2 shut is does takes many =
        let x : Answered = answered (runs.ended runs.late) in
        let events : List DeskEvent = desk_events run.setup h in
        let same : ended_by run.setup (h ++ x ∷ []) ≡ ended_by run.setup h =
        ended-shut run.setup h x (sym at.closed ∙ shut) in
        stands-on meaning stream run h table desk out at x table2 desk2 out (Some queue.late)
        (spans-on meaning stream run h table desk out at x table2 takes) same refl does
        (ap (λ d. d.config) is) (ap (λ d. d.next_ticket) is)
        (ap (λ d. d.closed) is ∙ at.closed ∙ sym (or-false (is_shut h))) (omega (arith, many))
        (tied-kept desk desk2 out (ap (λ d. d.out) is) (ap (λ d. d.config) is) at.tied) at.prepared
        (out-stays meaning stream run h table desk out at x (events ++ queue.late ∷ []) refl
        (events-more run.setup h x (Some queue.late) refl) (last-kept events queue.late refl refl)
        (ap length (sizes-kept events queue.late refl)))
        (right-by x.answer (Some s) there
        (ap runs.ended (sym (by (length desk.waiting == desk.config.queue) refl))))
      where
        by : (f : Bool) → (length desk.waiting == desk.config.queue) ≡ f
            → end_answer run h (desk_after run h) n s ≡ runs.late
        by f g = end-is true shut f g

    -- one more span has a ticket
    module _ (admits_more : desk.closed ≡ false) where
      unshut : is_shut h ≡ false
      unshut = sym at.closed ∙ admits_more

      ended-is : (answer : Answer) → is_refused answer ≡ false
          → ended_by run.setup (h ++ answered answer ∷ [])
          ≡ ended_by run.setup h ++ with_ticket k span ∷ []
      ended-is answer r =
          let before : ended_by run.setup h ≡ ended_spans run.setup steps =
          ended-open run.setup h unshut in
          let exported : exported_of later-calls (slice_get (start_results run.setup steps) n)
          ≡ Some span =
          exported-by later-calls (slice_get (start_results run.setup steps) n)
          ∙ ap (option_and_then (exported_if_sampled later-calls)) there ∙ rw sampled refl in
          ended-some run.setup h (answered answer) (SpanStep.call n (end now)) unshut refl
          (rw r refl)
          ∙ (ended-more run.setup steps n (end now) refl within first).0
          ∙ ap (λ o. ended_spans run.setup steps
          ++ with_tickets (length (ended_spans run.setup steps)) (option_to_list o))
          exported
          ∙ ap (λ es. es ++ with_ticket (length es) span ∷ []) (sym before)

      -- with an event at the queue
      ticket-on : (answer : Answer) (event : DeskEvent) (table2 : TableWith S R) (desk2 : Desk)
          → is_refused answer ≡ false → event_by run.setup h answer step ≡ Some event
          → progress_by answer ≡ None → IsDesk 0 (desk_events run.setup h ++ event ∷ []) desk2
          → desk2.config ≡ desk.config → desk2.out ≡ desk.out
          → desk2.next_ticket ≡ desk.next_ticket + 1
          → desk2.closed ≡ (desk.next_ticket + 1 == 2 ^ 64 - 1)
          → last_spans (desk_events run.setup h ++ event ∷ [])
          ≡ last_spans (desk_events run.setup h)
          → size_of_take event ≡ None
          → TakesStep meaning stream step answer table table2
          → length table2.spans ≡ length table.spans → length h < 2 ^ 64 - 1
          → IsAnswer run h (answered answer)
          → Stands meaning stream run (h ++ answered answer ∷ []) table2 desk2 out
      ticket-on answer event table2 desk2 r is stage does config same-out next closed last size
          takes many small right =
          let x : Answered = answered answer in
          let spans2 : List SpanData = ended_by run.setup h ++ with_ticket k span ∷ [] in
          let grown : ended_by run.setup (h ++ x ∷ []) ≡ spans2 = ended-is answer r in
          let one : length spans2 ≡ k + 1 =
          length_push (ended_by run.setup h) (with_ticket k span) in
          let events : desk_events run.setup (h ++ x ∷ []) ≡ desk_events run.setup h ++ event ∷ [] =
          events-more run.setup h x (Some event) is in
          let room : 0 < length table.spans = some-span in
          let few : desk.next_ticket + 1 < 2 ^ 64 - 1 = omega (arith, room, at.bound, small) in
          record {
            spans = spans-on meaning stream run h table desk out at x table2 takes;
            history = subst (λ es. IsDesk 0 es desk2) (sym events) does;
            config = config ∙ at.config;
            tickets = next ∙ ap (λ t. t + 1) at.tickets ∙ sym one ∙ ap length (sym grown);
            bound = omega (arith, next, many, at.bound, length_push h x);
            closed =
                closed ∙ by (desk.next_ticket + 1 == 2 ^ 64 - 1) refl few
                ∙ sym (shut-more h x ∙ rw unshut refl);
            tied = tied-kept desk desk2 out same-out config at.tied;
            prepared = at.prepared;
            out_is =
                out-stays meaning stream run h table desk out at x
                (desk_events run.setup h ++ event ∷ []) stage events last
                (ap length (sizes-kept (desk_events run.setup h) event size));
            answers = answers-more run h x at.answers right;
          }
        where
          by : (b : Bool) → (desk.next_ticket + 1 == 2 ^ 64 - 1) ≡ b
              → desk.next_ticket + 1 < 2 ^ 64 - 1 → b ≡ false
          by true e f =
              absurd (let g : desk.next_ticket + 1 ≡ 2 ^ 64 - 1 =
              eqb-true (desk.next_ticket + 1) (2 ^ 64 - 1) e in
              omega (arith, f, g))
          by false e f = refl

      within-events : IsWithin (desk_events run.setup h)
      within-events = allowed-within desk.config 0 (desk_events run.setup h) at.history.allowed

      got : span_of_end run.setup h step k ≡ Some (with_ticket k span)
      got = span-of-end run.setup h n (end now) k s there sampled

      queued-on : (table2 : TableWith S R) (desk2 : Desk)
          → (length desk.waiting == desk.config.queue) ≡ false
          → desk2 ≡ after_admission (admitted.Queued k) span desk
          → IsDesk 0 (desk_events run.setup h ++ queue.queued (with_ticket k span) ∷ []) desk2
          → TakesStep meaning stream step (runs.ended (runs.queued k)) table table2
          → length table2.spans ≡ length table.spans → length h < 2 ^ 64 - 1
          → Stands meaning stream run
          (h ++ answered (runs.ended (runs.queued k)) ∷ []) table2 desk2 out
      queued-on table2 desk2 room is does takes many small =
          ticket-on (runs.ended (runs.queued k))
          (queue.queued (with_ticket k span)) table2 desk2 refl
          (ap (option_map queue.queued) got) refl does
          (ap (λ d. d.config) is) (ap (λ d. d.out) is) (ap (λ d. d.next_ticket) is)
          (ap (λ d. d.closed) is)
          (last-queued (desk_events run.setup h) (with_ticket k span) within-events) refl takes many
          small
          (right-by (runs.ended (runs.queued k)) (Some s) there
          (ap runs.ended (sym (end-is false admits_more false room))))

      full-on : (table2 : TableWith S R) (desk2 : Desk)
          → (length desk.waiting == desk.config.queue) ≡ true
          → desk2 ≡ after_admission (admitted.Full k) span desk
          → IsDesk 0 (desk_events run.setup h ++ queue.full (with_ticket k span) ∷ []) desk2
          → TakesStep meaning stream step
          (runs.ended (runs.Ended.dropped k queue_full)) table table2
          → length table2.spans ≡ length table.spans → length h < 2 ^ 64 - 1
          → Stands meaning stream run
          (h ++ answered (runs.ended (runs.Ended.dropped k queue_full)) ∷ []) table2 desk2 out
      full-on table2 desk2 full is does takes many small =
          ticket-on (runs.ended (runs.Ended.dropped k queue_full))
          (queue.full (with_ticket k span)) table2 desk2 refl
          (ap (option_map queue.full) got) refl does
          (ap (λ d. d.config) is) (ap (λ d. d.out) is) (ap (λ d. d.next_ticket) is)
          (ap (λ d. d.closed) is)
          (last-kept (desk_events run.setup h) (queue.full (with_ticket k span)) refl refl) refl
          takes many small
          (right-by (runs.ended (runs.Ended.dropped k queue_full)) (Some s) there
          (ap runs.ended (sym (end-is false admits_more true full))))

    -- A run's state is still what its steps mean, however the queue admits the span.
    admitted-on : (table2 : TableWith S R) (desk2 : Desk) (said : Ended)
        → Admits desk span said desk2
        → TakesStep meaning stream step (answer_view (answers.Ended said)) table table2
        → length table2.spans ≡ length table.spans → length h < 2 ^ 64 - 1
        → Stands meaning stream run
        (h ++ answered (answer_view (answers.Ended said)) ∷ []) table2 desk2 out
    admitted-on table2 desk2 said admits takes many small =
        by desk.closed refl (length desk.waiting == desk.config.queue) refl
      where
        Goal : Ended → Type 0
        Goal e =
            TakesStep meaning stream step (answer_view (answers.Ended e)) table table2
            → Stands meaning stream run
            (h ++ answered (answer_view (answers.Ended e)) ∷ []) table2 desk2 out

        for : (a : Admitted) → admission desk ≡ a → Goal (ended_as a)
            → Stands meaning stream run
            (h ++ answered (answer_view (answers.Ended said)) ∷ []) table2 desk2 out
        for a e g = (subst Goal (sym (admits.answered ∙ ap ended_as e)) g) takes

        desk-as : (a : Admitted) → admission desk ≡ a → desk2 ≡ after_admission a span desk
        desk-as a e = admits.desk ∙ ap (λ b. after_admission b span desk) e

        does-as : (a : Admitted) → admission desk ≡ a
            → IsDesk 0 (desk_events run.setup h ++ admission_event a span ∷ []) desk2
        does-as a e =
            subst (λ b. IsDesk 0 (desk_events run.setup h ++ admission_event b span ∷ []) desk2) e
            (admits.does 0 (desk_events run.setup h) at.history)

        by : (b : Bool) → desk.closed ≡ b → (f : Bool)
            → (length desk.waiting == desk.config.queue) ≡ f
            → Stands meaning stream run
            (h ++ answered (answer_view (answers.Ended said)) ∷ []) table2 desk2 out
        by true e f g =
            let a : admission desk ≡ admitted.Late = admission-late desk e in
            for admitted.Late a
            (λ t. late-on table2 desk2 e (desk-as admitted.Late a) (does-as admitted.Late a) t many)
        by false e true g =
            let a : admission desk ≡ admitted.Full k =
            admission-full desk e g ∙ ap admitted.Full at.tickets in
            for (admitted.Full k) a
            (λ t. full-on e table2 desk2 g (desk-as (admitted.Full k) a)
            (does-as (admitted.Full k) a) t many small)
        by false e false g =
            let a : admission desk ≡ admitted.Queued k =
            admission-queued desk e g ∙ ap admitted.Queued at.tickets in
            for (admitted.Queued k) a
            (λ t. queued-on e table2 desk2 g (desk-as (admitted.Queued k) a)
            (does-as (admitted.Queued k) a) t many small)

  -- ---- any end

  -- A run's state is still what its steps mean after an end, whatever becomes of the span.
  pub end-on : (table2 : TableWith S R) (desk2 : Desk) (answer : CodeAnswer)
      → EndsAs Admits (span_numbered run.setup steps n) calls now desk answer desk2
      → TakesStep meaning stream step (answer_view answer) table table2
      → length table2.spans ≡ length table.spans → length h < 2 ^ 64 - 1
      → Stands meaning stream run (h ++ answered (answer_view answer) ∷ []) table2 desk2 out
  end-on table2 desk2 answer ends-as takes many small =
      by (span_numbered run.setup steps n) refl ends-as
    where
      Goal : CodeAnswer → Desk → Type 0
      Goal a d =
          TakesStep meaning stream step (answer_view a) table table2
          → Stands meaning stream run (h ++ answered (answer_view a) ∷ []) table2 d out

      alone : (said : CodeAnswer) → AnswersAlone said desk answer desk2 → Goal said desk
          → Stands meaning stream run (h ++ answered (answer_view answer) ∷ []) table2 desk2 out
      alone said a g =
          (subst (λ d. Goal answer d) (sym a.untouched)
          (subst (λ b. Goal b desk) (sym a.answered) g))
          takes

      some : (s : StartedSpan) → span_numbered run.setup steps n ≡ Some s → (b : Bool)
          → list_any is_end calls ≡ b → (c : Bool) → is_sampled s.decision ≡ c
          → EndsBy Admits b c (exported_span s later-calls) desk answer desk2
          → Stands meaning stream run (h ++ answered (answer_view answer) ∷ []) table2 desk2 out
      some s e true f c g a =
          alone (answers.Ended ends.AlreadyEnded) a
          (λ t. alone-on (runs.ended runs.already_ended) (Some s) table2
          (record { event = λ setup h. refl; stage = refl; attempt = refl }) refl e (inl f)
          (rw f refl) t many)
      some s e false f false g a =
          alone (answers.Ended ends.NotSampled) a
          (λ t. alone-on (runs.ended runs.not_sampled) (Some s) table2
          (record { event = λ setup h. refl; stage = refl; attempt = refl }) refl e
          (inr (rw g refl)) (rw (f, g) refl) t many)
      some s e false f true g a =
          (subst (λ b. TakesStep meaning stream step (answer_view b) table table2
          → Stands meaning stream run (h ++ answered (answer_view b) ∷ []) table2 desk2 out)
          (sym a.answered)
          (λ t. admitted-on s e f g table2 desk2 a.said a.asked t many small)) takes

      by : (o : Option StartedSpan) → span_numbered run.setup steps n ≡ o
          → EndsAs Admits o calls now desk answer desk2
          → Stands meaning stream run (h ++ answered (answer_view answer) ∷ []) table2 desk2 out
      by None e a =
          alone answers.NoSpan a
          (λ t. alone-on runs.no_span None table2
          (record { event = λ setup h. refl; stage = refl; attempt = refl }) refl e
          (inr refl) refl t many)
      by (Some s) e a = some s e (list_any is_end calls) refl (is_sampled s.decision) refl a

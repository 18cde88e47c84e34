-- One more step of a run: its state after the step.
use Rattle.std.proofs.Common.{◌≡◌, refl, sym, ap, subst, ◌∙◌, ℕ, ◌+◌, ◌≤◌, arith, List, [], ◌∷◌}
use Rattle.std.proofs.Common.{◌++◌, length, Bool, true, false, cond, ◌||◌, ◌&&◌, Option, Some, None}
use Rattle.std.specs.Option.{option_to_list}
use Rattle.std.proofs.lemmas.List.{append-nil, length_push}
use Rattle.std.proofs.lemmas.List.Elements.{filter_map-append}
use Rattle.rand_core.specs.Stream.{Stream}
use Rattle.model_span.specs.Sampling.{SamplerMeaning}
use Rattle.model_span.specs.Spans.{Kind, Call, is_end}
use Rattle.model_span.specs.Starts.{StartedSpan}
use Rattle.model_desk.specs.Queue.{DeskEvent, last_spans, last_batch}
use Rattle.model_desk.specs.Desks.{Desk, IsDesk, desk_of}
use Rattle.model_run.specs.Steps.{Parent, Step, is_shutdown}
use Rattle.model_run.specs.History.{SpanStep, Setup, calls_on}
use Rattle.model_run.proofs.Histories.{ended-start, ended-no-more}
use Rattle.model_run.specs.Runs.{Answer, started, out_of_memory, done, Answered, is_refused}
use Rattle.model_run.specs.Runs.{span_steps, ended_by, event_by, desk_events}
use Rattle.model_run.specs.Answers.{RunConfig, start_answer, call_answer, takes_memory}
use Rattle.model_run.specs.Answers.{call_takes_memory, progress_by, desk_after, IsAnswer}
use Rattle.model_run.specs.Headline.{pending_as, pending_after, attempt_by}
use Rattle.model_run.proofs.More.{is_shut, shut-more, ended-open, ended-shut, ended-none}
use Rattle.model_run.proofs.More.{ended-some, events-more, progress-none, quiet-attempts}
use Rattle.model_run.proofs.More.{last_attempt-none, answers-more}
use Rattle.model_desk.specs.Retries.{delivered}
use Rattle.trace_run.specs.Table.{IsTable, TableWith, TakesStep, answer_to_start, answer_to_call}
use Rattle.trace_run.specs.Table.{span_numbered}
use Rattle.trace_run.specs.Out.{Out, shown, IsTied, IsPrepared}
use Rattle.trace_run.specs.State.{Stands}

-- A disjunction with `false` is its first part.
pub or-false : (b : Bool) → (b || false) ≡ b
or-false true = refl
or-false false = refl

-- ---- answers that the queue and the batch that is out don't see

pub record IsQuiet (answer : Answer) (step : Step) : Type 0 where
  pub event : (setup : Setup) (h : List Answered) → event_by setup h answer step ≡ None
  pub stage : progress_by answer ≡ None
  pub attempt : attempt_by answer ≡ None

-- The queue and the batch that is out don't see the answer to a start.
pub quiet-start : (there refused : Bool) (s : Option StartedSpan) (step : Step)
    → IsQuiet (start_answer there refused s) step
quiet-start true refused None step =
    record { event = λ setup h. refl; stage = refl; attempt = refl }
quiet-start false refused None step =
    record { event = λ setup h. refl; stage = refl; attempt = refl }
quiet-start there refused (Some s) step = by (refused && takes_memory s)
  where
    by : (b : Bool)
        → IsQuiet (cond b out_of_memory
        (started (record { trace = s.start.context.trace; span = s.start.context.span })))
        step
    by true = record { event = λ setup h. refl; stage = refl; attempt = refl }
    by false = record { event = λ setup h. refl; stage = refl; attempt = refl }

-- The queue and the batch that is out don't see the answer to a call that is no end.
pub quiet-call : (refused : Bool) (calls : List Call) (c : Call) (s : Option StartedSpan)
    (step : Step)
    → IsQuiet (answer_to_call refused calls c s) step
quiet-call refused calls c None step =
    record { event = λ setup h. refl; stage = refl; attempt = refl }
quiet-call refused calls c (Some s) step = by (refused && call_takes_memory s calls c)
  where
    by : (b : Bool) → IsQuiet (cond b out_of_memory done) step
    by true = record { event = λ setup h. refl; stage = refl; attempt = refl }
    by false = record { event = λ setup h. refl; stage = refl; attempt = refl }

-- A desk with the same batch out and the same settings still knows the batch that is out.
pub tied-kept : (old new : Desk) (out : Option Out) → new.out ≡ old.out → new.config ≡ old.config
    → IsTied old out → IsTied new out
tied-kept old new None o c t = o ∙ t
tied-kept old new (Some b) o c t =
    record { out = o ∙ t.out; room = t.room ∙ ap (λ k. k.batch) (sym c) }

module _ {S R : Type 0} (meaning : S → SamplerMeaning) (stream : R → Stream) (run : RunConfig)
    (h : List Answered) (table : TableWith S R) (desk : Desk) (out : Option Out)
    (at : Stands meaning stream run h table desk out) where
  -- The desk of a run is the one that its steps mean.
  pub desk-is : desk ≡ desk_after run h
  unfolding desk_after
  desk-is = at.history.is ∙ ap (λ c. desk_of c 0 (desk_events run.setup h)) at.config

  -- A run's state is still what its steps mean after a step that ends no admitted span.
  pub stands-on : (x : Answered) (table2 : TableWith S R) (desk2 : Desk) (out2 : Option Out)
      (o : Option DeskEvent)
      → IsTable meaning stream run.setup (span_steps (h ++ x ∷ [])) table2
      → ended_by run.setup (h ++ x ∷ []) ≡ ended_by run.setup h
      → event_by run.setup h x.answer x.step ≡ o
      → IsDesk 0 (desk_events run.setup h ++ option_to_list o) desk2 → desk2.config ≡ desk.config
      → desk2.next_ticket ≡ desk.next_ticket → desk2.closed ≡ (is_shut h || is_shutdown x.step)
      → length table2.spans ≤ length table.spans + 1 → IsTied desk2 out2
      → IsPrepared run.retry out2 → shown out2 ≡ pending_after run.setup (h ++ x ∷ [])
      → IsAnswer run h x → Stands meaning stream run (h ++ x ∷ []) table2 desk2 out2
  stands-on x table2 desk2 out2 o spans same event history config tickets closed few tied prepared
      is right =
      record {
        spans = spans;
        history = subst (λ es. IsDesk 0 es desk2) (sym (events-more run.setup h x o event)) history;
        config = config ∙ at.config;
        tickets = tickets ∙ at.tickets ∙ ap length (sym same);
        bound = omega (arith, tickets, few, at.bound, length_push h x);
        closed = closed ∙ sym (shut-more h x);
        tied = tied;
        prepared = prepared;
        out_is = is;
        answers = answers-more run h x at.answers right;
      }

  -- A step that the batch that is out doesn't see leaves it as shown.
  pub out-stays : (x : Answered) (events : List DeskEvent) → progress_by x.answer ≡ None
      → desk_events run.setup (h ++ x ∷ []) ≡ events
      → last_spans events ≡ last_spans (desk_events run.setup h)
      → last_batch events ≡ last_batch (desk_events run.setup h)
      → shown out ≡ pending_after run.setup (h ++ x ∷ [])
  out-stays x events p e s b =
      at.out_is
      ∙ (λ i. pending_as (sym (progress-none h x p) i) (sym (ap last_spans e ∙ s) i)
      (sym (ap last_batch e ∙ b) i) (sym (last_attempt-none h x (quiet-attempts x.answer p)) i))

  -- A run's state is still what its steps mean after a step that only the spans see.
  pub quiet-on : (x : Answered) (table2 : TableWith S R) → IsQuiet x.answer x.step
      → IsTable meaning stream run.setup (span_steps (h ++ x ∷ [])) table2
      → ended_by run.setup (h ++ x ∷ []) ≡ ended_by run.setup h
      → is_shutdown x.step ≡ false → length table2.spans ≤ length table.spans + 1 → IsAnswer run h x
      → Stands meaning stream run (h ++ x ∷ []) table2 desk out
  quiet-on x table2 q spans same unshut few right =
      let events : desk_events run.setup (h ++ x ∷ []) ≡ desk_events run.setup h =
      events-more run.setup h x None (q.event run.setup h) ∙ append-nil (desk_events run.setup h) in
      stands-on x table2 desk out None spans same (q.event run.setup h)
      (subst (λ es. IsDesk 0 es desk) (sym (append-nil (desk_events run.setup h))) at.history)
      refl refl
      (at.closed ∙ sym (ap (λ b. is_shut h || b) unshut ∙ or-false (is_shut h))) few at.tied
      at.prepared
      (out-stays x (desk_events run.setup h) q.stage events refl refl) right

  -- The spans after a step that the table has taken are what the steps mean.
  pub spans-on : (x : Answered) (table2 : TableWith S R)
      → TakesStep meaning stream x.step x.answer table table2
      → IsTable meaning stream run.setup (span_steps (h ++ x ∷ [])) table2
  spans-on x table2 takes =
      subst (λ steps. IsTable meaning stream run.setup steps table2)
      (sym (filter_map-append
      (λ y. Rattle.model_run.specs.History.span_step (is_refused y.answer) y.step) h (x ∷ [])))
      (takes run.setup (span_steps h) at.spans)

  -- ---- starts and calls

  start-same : (x : Answered) (r : Bool) (sc : ℕ) (p : Parent) (k : Kind) (now : ℕ) (name : List ℕ)
      → x.step ≡ Step.start sc p k now name → is_refused x.answer ≡ r
      → ended_by run.setup (h ++ x ∷ []) ≡ ended_by run.setup h
  start-same x r sc p k now name e f = by (is_shut h) refl
    where
      by : (b : Bool) → is_shut h ≡ b → ended_by run.setup (h ++ x ∷ []) ≡ ended_by run.setup h
      by true s = ended-shut run.setup h x s
      by false s =
          ended-some run.setup h x (SpanStep.start r sc p k now name) s (ap is_shutdown e)
          (rw (e, f) refl)
          ∙ ended-start run.setup (span_steps h) r sc p k now name ∙ sym (ended-open run.setup h s)

  -- A run's state is still what its steps mean after a start.
  pub start-on : (sc : ℕ) (p : Parent) (k : Kind) (now : ℕ) (name : List ℕ) (answer : Answer)
      (table2 : TableWith S R)
      → answer ≡ answer_to_start run.setup (span_steps h) (is_refused answer) sc p k now name
      → TakesStep meaning stream (Step.start sc p k now name) answer table table2
      → length table2.spans ≡ length table.spans + 1
      → Stands meaning stream run
      (h ++ record { step = Step.start sc p k now name; answer = answer } ∷ []) table2 desk out
  start-on sc p k now name answer table2 right takes many =
      let x : Answered = record { step = Step.start sc p k now name; answer = answer } in
      quiet-on x table2
      (subst (λ a. IsQuiet a x.step) (sym right) (quiet-start _ (is_refused answer) _ x.step))
      (spans-on x table2 takes) (start-same x (is_refused answer) sc p k now name refl refl) refl
      (omega (arith, many))
      (record { given = record { refused = is_refused answer; outcome = delivered }; is = right })

  call-same : (n : ℕ) (c : Call) (answer : Answer) → is_end c ≡ false
      → ended_by run.setup (h ++ record { step = Step.call n c; answer = answer } ∷ [])
      ≡ ended_by run.setup h
  call-same n c answer e = by (is_refused answer) refl (is_shut h) refl
    where
      x : Answered
      x = record { step = Step.call n c; answer = answer }

      by : (r : Bool) → is_refused answer ≡ r → (b : Bool) → is_shut h ≡ b
          → ended_by run.setup (h ++ x ∷ []) ≡ ended_by run.setup h
      by true f b s = ended-none run.setup h x (rw f refl)
      by false f true s = ended-shut run.setup h x s
      by false f false s =
          ended-some run.setup h x (SpanStep.call n c) s refl (rw f refl)
          ∙ ended-no-more run.setup (span_steps h) n c (rw e refl) ∙ sym (ended-open run.setup h s)

  -- A run's state is still what its steps mean after a call that is no end.
  pub call-on : (n : ℕ) (c : Call) (answer : Answer) (table2 : TableWith S R) → is_end c ≡ false
      → answer
      ≡ answer_to_call (is_refused answer) (calls_on n (span_steps h)) c
      (span_numbered run.setup (span_steps h) n)
      → TakesStep meaning stream (Step.call n c) answer table table2
      → length table2.spans ≡ length table.spans
      → Stands meaning stream run
      (h ++ record { step = Step.call n c; answer = answer } ∷ []) table2 desk out
  call-on n c answer table2 e right takes many =
      let x : Answered = record { step = Step.call n c; answer = answer } in
      quiet-on x table2
      (subst (λ a. IsQuiet a x.step) (sym right)
      (quiet-call (is_refused answer) (calls_on n (span_steps h)) c
      (span_numbered run.setup (span_steps h) n) x.step))
      (spans-on x table2 takes) (call-same n c answer e) refl (omega (arith, many))
      (record {
        given = record { refused = is_refused answer; outcome = delivered };
        is = right ∙ by (span_numbered run.setup (span_steps h) n);
      })
    where
      by : (s : Option StartedSpan)
          → answer_to_call (is_refused answer) (calls_on n (span_steps h)) c s
          ≡ call_answer run h (desk_after run h) (is_refused answer) n c s
      by None = refl
      by (Some s) = rw e refl

-- The answer to a start speaks of no attempt.
pub start-tells : (there refused : Bool) (s : Option StartedSpan) (answer : Answer)
    → answer ≡ start_answer there refused s → attempt_by answer ≡ None
start-tells there refused s answer e =
    ap attempt_by e ∙ (quiet-start there refused s Step.flush).attempt

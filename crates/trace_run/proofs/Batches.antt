-- One more step of a run at its queue: its state after the step.
use Rattle.std.proofs.Common.{◌≡◌, refl, sym, ap, subst, ◌∙◌, ℕ, ◌+◌, ◌<◌, ◌≤◌, arith, List, []}
use Rattle.std.proofs.Common.{◌∷◌, ◌++◌, length, Bool, true, false, true≢false, ◌||◌, Option, Some}
use Rattle.std.proofs.Common.{None, inl, inr, option_map}
use Rattle.std.specs.Prelude.{if◌then◌else◌, ◌==◌}
use Rattle.std.specs.Option.{option_to_list}
use Rattle.std.proofs.lemmas.Bool.{ne_eqb, lt-ltb, le-ltb, le-leb, lt-leb}
use Rattle.std.proofs.lemmas.List.{append-nil}
use Rattle.rand_core.specs.Stream.{Stream}
use Rattle.model_span.specs.Sampling.{SamplerMeaning}
use Rattle.model_span.specs.Dropped.{too_large as model-too_large}
use Rattle.model_span.specs.Spans.{SpanData}
use Rattle.model_export.specs.Export.{LacksBody, groups, body_length}
use Rattle.model_desk.specs.Retries as retries
use Rattle.model_desk.specs.Retries.{delivered, Next, Fate, fate_of}
use Rattle.model_desk.specs.Waits.{RetryConfig, next_after}
use Rattle.model_desk.specs.Queue as queue
use Rattle.model_desk.specs.Queue.{DeskEvent, size_of_take, queued_span, last_spans, last_batch}
use Rattle.model_desk.specs.Desks.{Desk, IsDesk, Does, desk_of, accepted_count}
use Rattle.model_desk.proofs.Steps.{last-kept, sizes-kept}
use Rattle.model_run.specs.Steps.{Step, is_shutdown, flush, shutdown, take, encode, attempt, reply}
use Rattle.model_run.specs.History.{span_step}
use Rattle.model_run.specs.Runs as runs
use Rattle.model_run.specs.Runs.{Answer, Answered, is_refused, span_steps, event_by, desk_events}
use Rattle.model_run.specs.Answers as model
use Rattle.model_run.specs.Answers.{RunConfig, Progress, progress, progress_by, last_attempt}
use Rattle.model_run.specs.Answers.{last_length, desk_after, IsAnswer, take_answer, encode_answer}
use Rattle.model_run.specs.Answers.{attempt_answer, reply_answer}
use Rattle.model_run.specs.Headline.{PendingBatch, pending_as, pending_after}
use Rattle.model_run.proofs.More.{is_shut, steps-none, ended-none, events-more, progress-some}
use Rattle.model_run.proofs.More.{last_attempt-none, last_attempt-some}
use Rattle.otlp_span.specs.Dropped.{reason_view}
use Rattle.otlp_span.specs.declared.reason.Reason.{Reason}
use Rattle.otlp_span.specs.declared.reason.Reason.TheVariants.{QueueFull, EncodeMemory, TooLarge}
use Rattle.otlp_span.specs.declared.reason.Reason.TheVariants.{Abandoned, Refused, BadReply}
use Rattle.otlp_span.specs.declared.reason.Reason.TheVariants.{GivenUp, LeftHanded}
use Rattle.batch_desk.specs.Batch.{BatchView}
use Rattle.batch_desk.specs.Desk.{IsOut}
use Rattle.retry_core.specs.Retries.{fate_view, outcome_view, next_view}
use Rattle.retry_core.specs.declared.outcome.Outcome.{Outcome}
use Rattle.batch_sending.specs.Sendings.{Stage, to_send, to_judge, to_retry, Sending, attempts_at}
use Rattle.batch_sending.specs.Sendings.{is_sent_at}
use Rattle.batch_sending.specs.Answers.{MayBeSentAt, Attempts}
use Rattle.batch_sending.specs.declared.answers.Attempted.{Attempted}
use Rattle.batch_sending.specs.declared.answers.Attempted.TheVariants as attempted
use Rattle.trace_run.specs.Answers.{answer_view}
use Rattle.trace_run.specs.declared.answer.Answer.{Answer as CodeAnswer}
use Rattle.span_exporter.specs.Handed.{Handed}
use Rattle.trace_run.specs.Table.{IsTable, TableWith}
use Rattle.trace_run.specs.Out.{Out, progress_at, progress_of, progress_in, attempts_of, is_sent}
use Rattle.trace_run.specs.Out.{shown_as, shown, IsTied, IsSendingOf, IsPreparedAt, IsPrepared}
use Rattle.trace_run.specs.Out.{Keeps, IsIdle, is_to_encode, is_to_send, is_to_judge, Takes}
use Rattle.trace_run.specs.Out.{HasBody, DropsBatch, Encodes, HandsAt, attempt_said, Sends}
use Rattle.trace_run.specs.Out.{Settles, PutsOff, Replies}
use Rattle.trace_run.specs.State.{Stands}
use Rattle.trace_run.proofs.Standing.{IsQuiet, or-false, tied-kept, desk-is, stands-on, out-stays}
use Rattle.trace_run.proofs.Standing.{quiet-on}

-- ---- what is shown of the batch that is out

abbrev pending : Progress → List SpanData → ℕ → ℕ → PendingBatch
pending p spans number attempts =
    record { number = number; spans = spans; progress = p; attempts = attempts }

-- A batch that the model shows as out has the progress, spans, number and attempts of the history.
pub shows : (b : PendingBatch) (p : Progress) (spans : List SpanData) (number attempts : ℕ)
    → Some b ≡ pending_as p spans number attempts → b ≡ pending p spans number attempts
shows b model.not_out spans number attempts e = cc
shows b model.to_encode spans number attempts e = cc
shows b model.to_send spans number attempts e = cc
shows b (model.to_judge outcome) spans number attempts e = cc
shows b (model.to_retry moment) spans number attempts e = cc

-- What is shown has the progress of the history.
shows-progress : (o : Option Out) (p : Progress) (spans : List SpanData) (number attempts : ℕ)
    → shown o ≡ pending_as p spans number attempts → progress_in o ≡ p
shows-progress (Some o) p spans number attempts e =
    ap (λ b. b.progress) (shows (shown_as o) p spans number attempts e)
shows-progress None model.not_out spans number attempts e = refl
shows-progress None model.to_encode spans number attempts e = cc
shows-progress None model.to_send spans number attempts e = cc
shows-progress None (model.to_judge outcome) spans number attempts e = cc
shows-progress None (model.to_retry moment) spans number attempts e = cc

-- A batch that is on its way is shown as out.
pending-at : (s : Stage) (spans : List SpanData) (number attempts : ℕ)
    → Some (pending (progress_at s) spans number attempts)
    ≡ pending_as (progress_at s) spans number attempts
pending-at to_send spans number attempts = refl
pending-at (to_judge k outcome) spans number attempts = refl
pending-at (to_retry k moment) spans number attempts = refl

-- A reply that ends a batch leaves none out.
ends-batch : (number : ℕ) (next : Next) (fate : Fate) → fate_of next ≡ Some fate
    → progress_by (runs.replied number next) ≡ Some model.not_out
ends-batch number retries.done fate e = refl
ends-batch number (retries.Next.partial rejected) fate e = refl
ends-batch number (retries.again moment) fate e = cc
ends-batch number (retries.give_up cause) fate e = refl

-- A desk has as many batches as the last one's number.
number-is : (events : List DeskEvent) (desk : Desk) → IsDesk 0 events desk
    → desk.batches ≡ last_batch events
unfolding desk_of
number-is events desk d = ap (λ k. k.batches) d.is

module _ {S R : Type 0} (meaning : S → SamplerMeaning) (stream : R → Stream) (run : RunConfig)
    (h : List Answered) (table : TableWith S R) (desk : Desk) (out : Option Out)
    (at : Stands meaning stream run h table desk out) where
  abbrev events : List DeskEvent
  events = desk_events run.setup h

  -- the run's state after a step with this answer
  abbrev pub After : Step → Answer → Desk → Option Out → Type 0
  After step answer desk2 out2 =
      Stands meaning stream run (h ++ record { step = step; answer = answer } ∷ []) table desk2 out2

  same-spans : (x : Answered) → span_step (is_refused x.answer) x.step ≡ None
      → IsTable meaning stream run.setup (span_steps (h ++ x ∷ [])) table
  same-spans x e =
      subst (λ steps. IsTable meaning stream run.setup steps table)
      (sym (steps-none h x e)) at.spans

  no-more : length table.spans ≤ length table.spans + 1
  no-more = omega arith

  -- it is a step for a batch: none for a span, and no shutdown
  abbrev IsOfBatch : Answered → Type 0
  IsOfBatch x =
      (span_step (is_refused x.answer) x.step ≡ None) × (is_shutdown x.step ≡ false)

  -- A step for a batch leaves a run's state as its steps mean.
  on : (x : Answered) (event : Option DeskEvent) (desk2 : Desk) (out2 : Option Out)
      → IsOfBatch x → event_by run.setup h x.answer x.step ≡ event
      → IsDesk 0 (events ++ option_to_list event) desk2 → Keeps desk desk2 → IsTied desk2 out2
      → IsPrepared run.retry out2 → shown out2 ≡ pending_after run.setup (h ++ x ∷ [])
      → IsAnswer run h x → After x.step x.answer desk2 out2
  on x event desk2 out2 b is does keeps tied prepared pending right =
      stands-on meaning stream run h table desk out at x table desk2 out2 event
      (same-spans x b.0) (ended-none run.setup h x b.0) is does keeps.config keeps.next_ticket
      (keeps.closed ∙ at.closed ∙ sym (ap (λ s. is_shut h || s) b.1 ∙ or-false (is_shut h)))
      no-more tied prepared pending right

  -- So does one that changes nothing.
  idle-on : (x : Answered) → IsQuiet x.answer x.step → IsOfBatch x → IsAnswer run h x
      → After x.step x.answer desk out
  idle-on x q b right =
      quiet-on meaning stream run h table desk out at x table q (same-spans x b.0)
      (ended-none run.setup h x b.0) b.1 no-more right

  -- The batch that is out is as far as the history says.
  progress-is : progress_in out ≡ progress h
  progress-is =
      shows-progress out (progress h) (last_spans events) (last_batch events) (last_attempt h)
      at.out_is

  -- ---- the last batch

  record KeepsLast (x : Answered) : Type 0 where
    spans : last_spans (desk_events run.setup (h ++ x ∷ [])) ≡ last_spans events
    number : last_batch (desk_events run.setup (h ++ x ∷ [])) ≡ last_batch events

  -- A step that does nothing at the queue leaves the last batch as it was.
  keeps-last : (x : Answered) → event_by run.setup h x.answer x.step ≡ None → KeepsLast x
  keeps-last x e =
      let grown : desk_events run.setup (h ++ x ∷ []) ≡ events =
      events-more run.setup h x None e ∙ append-nil events in
      record { spans = ap last_spans grown; number = ap last_batch grown }

  -- An event that takes no batch and queues no span leaves the last batch as it was.
  keeps-last-by : (x : Answered) (event : DeskEvent)
      → event_by run.setup h x.answer x.step ≡ Some event → size_of_take event ≡ None
      → queued_span event ≡ None → KeepsLast x
  keeps-last-by x event e size queued =
      let grown : desk_events run.setup (h ++ x ∷ []) ≡ events ++ event ∷ [] =
      events-more run.setup h x (Some event) e in
      record {
        spans = ap last_spans grown ∙ last-kept events event size queued;
        number = ap last_batch grown ∙ ap length (sizes-kept events event size);
      }

  -- A step after which no batch is out leaves none.
  none-left : (x : Answered) → progress_by x.answer ≡ Some model.not_out
      → None ≡ pending_after run.setup (h ++ x ∷ [])
  none-left x e =
      ap (λ p. pending_as p (last_spans (desk_events run.setup (h ++ x ∷ [])))
      (last_batch (desk_events run.setup (h ++ x ∷ []))) (last_attempt (h ++ x ∷ [])))
      (sym (progress-some h x model.not_out e))

  -- the batch that is out is the last one, as far as the history says
  record IsLast (batch : BatchView) (sending : Option Sending) : Type 0 where
    was : out ≡ Some (record { batch = batch; sending = sending })
    progress : progress_of sending ≡ progress h
    spans : batch.spans ≡ last_spans events
    number : batch.number ≡ last_batch events
    attempts : attempts_of sending ≡ last_attempt h
    batches : batch.number ≡ (desk_after run h).batches
    tied : IsOut (is_sent sending) desk batch
    numbered : 0 < batch.number
    prepared : IsPreparedAt run.retry batch sending

  is-last : (batch : BatchView) (sending : Option Sending)
      → out ≡ Some (record { batch = batch; sending = sending }) → IsLast batch sending
  is-last batch sending e =
      let sh =
      shows (shown_as (record { batch = batch; sending = sending })) (progress h)
      (last_spans events) (last_batch events) (last_attempt h) (sym (ap shown e) ∙ at.out_is) in
      let prepared = subst (IsPrepared run.retry) e at.prepared in
      record {
        was = e;
        progress = ap (λ b. b.progress) sh;
        spans = ap (λ b. b.spans) sh;
        number = ap (λ b. b.number) sh;
        attempts = ap (λ b. b.attempts) sh;
        batches =
            ap (λ b. b.number) sh ∙ sym (number-is events desk at.history)
            ∙ ap (λ k. k.batches) (desk-is meaning stream run h table desk out at);
        tied = subst (IsTied desk) e at.tied;
        numbered = prepared.0;
        prepared = prepared.1;
      }

  -- What is on its way after a step is still of the last batch, and how far it is the step's answer
  -- says.
  record GoesTo (batch : BatchView) (x : Answered) (s : Sending) : Type 0 where
    prepared : IsSendingOf run.retry batch s
    progress : progress_by x.answer ≡ Some (progress_at s.stage)
    attempts : attempts_at s.stage ≡ last_attempt (h ++ x ∷ [])
    right : IsAnswer run h x

  -- The batch that is out goes on.
  goes-on : (batch : BatchView) (sending : Option Sending) → IsLast batch sending
      → (x : Answered) → IsOfBatch x → (s : Sending) → GoesTo batch x s
      → (event : Option DeskEvent) (desk2 : Desk) → event_by run.setup h x.answer x.step ≡ event
      → KeepsLast x → IsDesk 0 (events ++ option_to_list event) desk2 → Keeps desk desk2
      → IsOut (is_sent_at s.stage) desk2 batch
      → After x.step x.answer desk2 (Some (record { batch = batch; sending = Some s }))
  goes-on batch sending l x b s to event desk2 is last does keeps tied =
      on x event desk2 (Some (record { batch = batch; sending = Some s })) b is does keeps
      tied (l.numbered, to.prepared)
      (pending-at s.stage batch.spans batch.number (attempts_at s.stage)
      ∙ (λ i. pending_as (sym (progress-some h x (progress_at s.stage) to.progress) i)
      ((l.spans ∙ sym last.spans) i) ((l.number ∙ sym last.number) i) (to.attempts i)))
      to.right

  -- The same where the queue sees nothing of it.
  goes-on-alone : (batch : BatchView) (sending : Option Sending) → IsLast batch sending
      → (x : Answered) → IsOfBatch x → (s : Sending) → GoesTo batch x s
      → event_by run.setup h x.answer x.step ≡ None → is_sent_at s.stage ≡ is_sent sending
      → After x.step x.answer desk (Some (record { batch = batch; sending = Some s }))
  goes-on-alone batch sending l x b s to is same =
      goes-on batch sending l x b s to None desk is (keeps-last x is)
      (subst (λ es. IsDesk 0 es desk) (sym (append-nil events)) at.history)
      (record { config = refl; next_ticket = refl; closed = refl })
      (subst (λ b. IsOut b desk batch) (sym same) l.tied)

  -- ---- answers

  -- where memory isn't refused, and an attempt would have this outcome
  abbrev given : retries.Outcome → model.Given
  given outcome = record { refused = false; outcome = outcome }

  encode-right : (refused : Bool) (p : Progress) (answer : Answer) → p ≡ progress h
      → answer ≡ encode_answer run h (desk_after run h) refused p
      → IsAnswer run h (record { step = encode; answer = answer })
  encode-right refused p answer e is = record {
    given = record { refused = refused; outcome = delivered };
    is = is ∙ ap (encode_answer run h (desk_after run h) refused) e;
  }

  attempt-right : (outcome : retries.Outcome) (now : ℕ) (p : Progress) (answer : Answer)
      → p ≡ progress h → answer ≡ attempt_answer h (desk_after run h) outcome now p
      → IsAnswer run h (record { step = attempt now; answer = answer })
  attempt-right outcome now p answer e is = record {
    given = given outcome;
    is = is ∙ ap (attempt_answer h (desk_after run h) outcome now) e;
  }

  reply-right : (now word : ℕ) (p : Progress) (answer : Answer) → p ≡ progress h
      → answer ≡ reply_answer run h (desk_after run h) now word p
      → IsAnswer run h (record { step = reply now word; answer = answer })
  reply-right now word p answer e is = record {
    given = given delivered;
    is = is ∙ ap (reply_answer run h (desk_after run h) now word) e;
  }

  -- Where a step is for no batch that is so far, nothing is done.
  nothing-on : {asks : Progress → Bool} (step : Step) (answer : CodeAnswer) (desk2 : Desk)
      (out2 : Option Out)
      → IsIdle asks out answer desk desk2 out2
      → IsOfBatch (record { step = step; answer = runs.nothing })
      → IsAnswer run h (record { step = step; answer = runs.nothing })
      → After step (answer_view answer) desk2 out2
  nothing-on step answer desk2 out2 t b right =
      rw (t.answered, t.desk, t.left)
      (idle-on (record { step = step; answer = runs.nothing })
      (record { event = λ setup h. refl; stage = refl; attempt = refl }) b right)

  -- ---- flush and shutdown

  -- A run's state is still what its steps mean after a flush.
  pub flush-on : (desk2 : Desk) → desk2 ≡ record desk { asked = accepted_count desk }
      → Does queue.flush desk desk2 → After flush runs.Answer.flush desk2 out
  flush-on desk2 is does =
      let x : Answered = record { step = flush; answer = runs.Answer.flush } in
      let last = keeps-last-by x queue.flush refl refl refl in
      on x (Some queue.flush) desk2 out (refl, refl) refl (does 0 events at.history)
      (record {
        config = ap (λ d. d.config) is;
        next_ticket = ap (λ d. d.next_ticket) is;
        closed = ap (λ d. d.closed) is;
      })
      (tied-kept desk desk2 out (ap (λ d. d.out) is) (ap (λ d. d.config) is) at.tied) at.prepared
      (out-stays meaning stream run h table desk out at x _ refl refl last.spans last.number)
      (record { given = given delivered; is = refl })

  -- A run's state is still what its steps mean after a shutdown.
  pub shutdown-on : (desk2 : Desk)
      → desk2 ≡ record desk { asked = accepted_count desk; closed = true }
      → Does queue.shutdown desk desk2 → After shutdown runs.Answer.shutdown desk2 out
  shutdown-on desk2 is does =
      let x : Answered = record { step = shutdown; answer = runs.Answer.shutdown } in
      let last = keeps-last-by x queue.shutdown refl refl refl in
      stands-on meaning stream run h table desk out at x table desk2 out (Some queue.shutdown)
      (same-spans x refl) (ended-none run.setup h x refl) refl (does 0 events at.history)
      (ap (λ d. d.config) is) (ap (λ d. d.next_ticket) is)
      (ap (λ d. d.closed) is ∙ sym (or-true (is_shut h))) no-more
      (tied-kept desk desk2 out (ap (λ d. d.out) is) (ap (λ d. d.config) is) at.tied) at.prepared
      (out-stays meaning stream run h table desk out at x _ refl refl last.spans last.number)
      (record { given = given delivered; is = refl })
    where
      or-true : (b : Bool) → (b || true) ≡ true
      or-true true = refl
      or-true false = refl

  -- ---- takes

  -- A run's state is still what its steps mean after a take, with a batch or without one.
  pub take-on : (now : ℕ) (answer : CodeAnswer) (desk2 : Desk) (out2 : Option Out)
      → answer_view answer ≡ take_answer desk now → Takes now answer desk out desk2 out2
      → After (take now) (answer_view answer) desk2 out2
  take-on now answer desk2 out2 right u = by u
    where
      right-by : (said : CodeAnswer) → answer ≡ said
          → IsAnswer run h (record { step = take now; answer = answer_view said })
      right-by said e = record {
        given = given delivered;
        is =
            ap answer_view (sym e) ∙ right
            ∙ ap (λ d. take_answer d now) (desk-is meaning stream run h table desk out at);
      }

      by : Takes now answer desk out desk2 out2 → After (take now) (answer_view answer) desk2 out2
      by (inl t) =
          let x : Answered =
          record { step = take now; answer = runs.taken t.batch.number (length t.batch.spans) } in
          let event : DeskEvent = queue.taken now (length t.batch.spans) in
          let grown : desk_events run.setup (h ++ x ∷ []) ≡ events ++ event ∷ [] =
          events-more run.setup h x (Some event) refl in
          let took = t.takes 0 events at.history in
          rw (t.answered, t.left)
          (on x (Some event) desk2 (Some (record { batch = t.batch; sending = None }))
          (refl, refl) refl took.0 t.keeps t.in_hand (t.positive, tt)
          (λ i. pending_as (sym (progress-some h x model.to_encode refl) i)
          ((took.1 ∙ ap last_spans (sym grown)) i)
          ((t.numbered ∙ number-is _ desk2 took.0 ∙ ap last_batch (sym grown)) i)
          (sym (last_attempt-some h x 0 refl) i))
          (right-by _ t.answered))
      by (inr t) =
          rw (t.answered, t.desk, t.left)
          (idle-on (record { step = take now; answer = runs.not_taken })
          (record { event = λ setup h. refl; stage = refl; attempt = refl }) (refl, refl)
          (right-by _ t.answered))

  -- ---- encodings

  encoded-on : (answer : CodeAnswer) (desk2 : Desk) (out2 : Option Out)
      → HasBody run.retry run.max_body out answer desk desk2 out2
      → After encode (answer_view answer) desk2 out2
  encoded-on answer desk2 out2 t =
      let l = is-last t.batch None t.was in
      let x : Answered =
      record { step = encode; answer = runs.encoded t.batch.number (length t.body) } in
      let size : length t.body ≡ last_length run.setup h =
      t.measured ∙ ap (λ spans. body_length (groups spans)) l.spans in
      let fits : last_length run.setup h ≤ run.max_body =
      subst (λ n. n ≤ run.max_body) size t.fits in
      rw (t.answered, t.desk, t.left)
      (goes-on-alone t.batch None l x (refl, refl) _
      (record {
        prepared = record {
          number = refl;
          retry = refl;
          body = t.means;
          some = λ e. absurd (true≢false (sym e));
        };
        progress = refl;
        attempts = l.attempts ∙ sym (last_attempt-none h x refl);
        right =
            encode-right false model.to_encode x.answer l.progress
            ((λ i. runs.encoded (l.batches i) (size i))
            ∙ ap (λ c. if c then runs.encoded (desk_after run h).batches (last_length run.setup h)
            else Answer.dropped (desk_after run h).batches model-too_large)
            (sym (le-leb (last_length run.setup h) run.max_body fits)));
      })
      refl refl)

  -- A drop for want of memory, or of a body that is too large, is the right answer.
  lacks-answer : (batch : BatchView) → IsLast batch None → (reason : Reason)
      → LacksBody run.max_body batch.spans (reason_view reason)
      → IsAnswer run h
      (record { step = encode; answer = Answer.dropped batch.number (reason_view reason) })
  lacks-answer batch l EncodeMemory lacks =
      encode-right true model.to_encode _ l.progress
      (ap (λ n. Answer.dropped n (reason_view EncodeMemory)) l.batches)
  lacks-answer batch l TooLarge lacks =
      let larger : run.max_body < last_length run.setup h =
      subst (λ spans. run.max_body < body_length (groups spans)) l.spans lacks in
      encode-right false model.to_encode _ l.progress
      (ap (λ n. Answer.dropped n model-too_large) l.batches
      ∙ ap (λ c. if c then runs.encoded (desk_after run h).batches (last_length run.setup h)
      else Answer.dropped (desk_after run h).batches model-too_large)
      (sym (lt-leb (last_length run.setup h) run.max_body larger)))
  lacks-answer batch l QueueFull lacks = absurd lacks
  lacks-answer batch l Abandoned lacks = absurd lacks
  lacks-answer batch l (Refused status) lacks = absurd lacks
  lacks-answer batch l BadReply lacks = absurd lacks
  lacks-answer batch l GivenUp lacks = absurd lacks
  lacks-answer batch l LeftHanded lacks = absurd lacks

  dropped-on : (answer : CodeAnswer) (desk2 : Desk) (out2 : Option Out)
      → DropsBatch run.max_body out answer desk desk2 out2
      → After encode (answer_view answer) desk2 out2
  dropped-on answer desk2 out2 t =
      let l = is-last t.batch None t.was in
      let why = reason_view t.reason in
      let x : Answered = record { step = encode; answer = Answer.dropped t.batch.number why } in
      rw (t.answered, t.left)
      (on x (Some (queue.dropped why)) desk2 None (refl, refl) refl
      (t.drops 0 events at.history l.spans) t.keeps t.gone tt (none-left x refl)
      (lacks-answer t.batch l t.reason t.lacks))

  -- A run's state is still what its steps mean after an encoding, whatever its answer is.
  pub encode-on : (retry : RetryConfig) → run.retry ≡ retry → (max_body : ℕ)
      → run.max_body ≡ max_body → (answer : CodeAnswer) (desk2 : Desk) (out2 : Option Out)
      → Encodes retry max_body out answer desk desk2 out2
      → After encode (answer_view answer) desk2 out2
  encode-on retry same max_body fits answer desk2 out2 u = by (rw (same, fits) u)
    where
      nothing : (p : Progress) → is_to_encode p ≡ false
          → runs.nothing ≡ encode_answer run h (desk_after run h) false p
      nothing model.not_out e = refl
      nothing model.to_encode e = absurd (true≢false e)
      nothing model.to_send e = refl
      nothing (model.to_judge outcome) e = refl
      nothing (model.to_retry moment) e = refl

      by : Encodes run.retry run.max_body out answer desk desk2 out2
          → After encode (answer_view answer) desk2 out2
      by (inl t) = encoded-on answer desk2 out2 t
      by (inr (inl t)) = dropped-on answer desk2 out2 t
      by (inr (inr t)) =
          nothing-on encode answer desk2 out2 t (refl, refl)
          (encode-right false (progress_in out) _ progress-is (nothing (progress_in out) t.other))

  -- ---- attempts

  module _ (now : ℕ) (batch : BatchView) (s : Sending) (l : IsLast batch (Some s)) where
    abbrev answer_at : retries.Outcome → Stage → Answer
    answer_at outcome st = attempt_answer h (desk_after run h) outcome now (progress_at st)

    module _ (k : ℕ) (outcome : Outcome) (desk2 : Desk) (next : k ≡ attempts_at s.stage + 1) where
      abbrev told : retries.Outcome
      told = outcome_view outcome

      abbrev x : Answered
      x = record { step = attempt now; answer = runs.sent batch.number k told }

      abbrev p : IsSendingOf run.retry batch s
      p = l.prepared

      goes-to : x.answer ≡ answer_at told s.stage
          → GoesTo batch x (record s { stage = to_judge k told })
      goes-to is = record {
        prepared = record {
          number = p.number;
          retry = p.retry;
          body = p.body;
          some = λ e. omega (arith, next);
        };
        progress = refl;
        attempts = sym (last_attempt-some h x k refl);
        right = attempt-right told now (progress_at s.stage) x.answer l.progress is;
      }

      -- The next attempt was made.
      sent-at : (st : Stage) → s.stage ≡ st → MayBeSentAt now st
          → HandsAt (is_sent_at st) batch desk desk2
          → After (attempt now) x.answer desk2
          (Some (record { batch = batch; sending = Some (record s { stage = to_judge k told }) }))
      sent-at (to_judge j earlier) e may hands = absurd may
      sent-at to_send e may hands =
          let one : k ≡ 1 = next ∙ ap (λ st. attempts_at st + 1) e in
          let is : event_by run.setup h x.answer x.step ≡ Some queue.handed =
          ap (λ n. if n == 1 then Some queue.handed else None) one in
          goes-on batch (Some s) l x (refl, refl) _
          (goes-to ((λ i. runs.sent (l.batches i) (one i) told) ∙ ap (answer_at told) (sym e)))
          (Some queue.handed) desk2 is (keeps-last-by x queue.handed is refl refl)
          (hands.does 0 events at.history) hands.keeps hands.with_exporter
      sent-at (to_retry attempts moment) e may same =
          let some : 1 ≤ attempts_at s.stage = p.some (ap is_sent_at e) in
          let is : event_by run.setup h x.answer x.step ≡ None =
          ap (λ b. if b then Some queue.handed else None)
          (ne_eqb k 1 (λ q. absurd (omega (arith, q, next, some)))) in
          rw same
          (goes-on-alone batch (Some s) l x (refl, refl) _
          (goes-to
          ((λ i. runs.sent (l.batches i) ((next ∙ ap (λ n. n + 1) l.attempts) i) told)
          ∙ ap (λ b. if b then runs.early
          else runs.sent (desk_after run h).batches (last_attempt h + 1) told)
          (sym (le-ltb now moment may))
          ∙ ap (answer_at told) (sym e)))
          is (sym (ap is_sent_at e)))

    -- None was, and this is the answer.
    waits-on : (answer : Answer) (st : Stage) (next : Sending) (desk2 : Desk)
        → IsQuiet answer (attempt now) → span_step (is_refused answer) (attempt now) ≡ None
        → s.stage ≡ st → is_sent_at st ≡ true → next ≡ s
        → HandsAt (is_sent_at s.stage) batch desk desk2 → answer ≡ answer_at delivered st
        → After (attempt now) answer desk2 (Some (record { batch = batch; sending = Some next }))
    waits-on answer st next desk2 quiet none e sent same hands is =
        let same-desk : desk2 ≡ desk =
        subst (λ b. HandsAt b batch desk desk2) (ap is_sent_at e ∙ sent) hands in
        rw (same-desk, same, ← l.was)
        (idle-on (record { step = attempt now; answer = answer }) quiet (none, refl)
        (attempt-right delivered now (progress_at s.stage) answer l.progress
        (is ∙ ap (answer_at delivered) (sym e))))

    came-on : (came : Attempted) (next : Sending) (desk2 : Desk) (told told' : Option (List Handed))
        → Attempts now s came next told told' → HandsAt (is_sent_at s.stage) batch desk desk2
        → After (attempt now) (answer_view (attempt_said batch.number came)) desk2
        (Some (record { batch = batch; sending = Some next }))
    came-on (attempted.Sent k outcome) next desk2 told told' t hands =
        rw t.sending (sent-at k outcome desk2 t.next s.stage refl t.may hands)
    came-on attempted.Early next desk2 told told' t hands =
        waits-on runs.early (to_retry t.attempts t.moment) next desk2
        (record { event = λ setup h. refl; stage = refl; attempt = refl }) refl t.stage refl
        t.sending hands
        (ap (λ b. if b then runs.early
        else runs.sent (desk_after run h).batches (last_attempt h + 1) delivered)
        (sym (lt-ltb now t.moment t.early)))
    came-on attempted.Unjudged next desk2 told told' t hands =
        waits-on runs.nothing (to_judge t.attempt t.outcome) next desk2
        (record { event = λ setup h. refl; stage = refl; attempt = refl }) refl t.stage refl
        t.sending hands refl

  -- A run's state is still what its steps mean after an attempt, whatever its answer is.
  pub attempt-on : (now : ℕ) (answer : CodeAnswer) (desk2 : Desk) (out2 : Option Out)
      (told told' : Option (List Handed))
      → Sends now out answer desk desk2 out2 told told'
      → After (attempt now) (answer_view answer) desk2 out2
  attempt-on now answer desk2 out2 told told' (inl t) =
      rw (t.answered, t.left)
      (came-on now t.batch t.sending (is-last t.batch (Some t.sending) t.was) t.came t.next desk2
      told told' t.attempts t.hands)
  attempt-on now answer desk2 out2 told told' (inr t) =
      nothing-on (attempt now) answer desk2 out2 t.idle (refl, refl)
      (attempt-right delivered now (progress_in out) _ progress-is
      (nothing (progress_in out) t.idle.other))
    where
      nothing : (p : Progress) → is_to_send p ≡ false
          → runs.nothing ≡ attempt_answer h (desk_after run h) delivered now p
      nothing model.not_out e = refl
      nothing model.to_encode e = refl
      nothing model.to_send e = absurd (true≢false e)
      nothing (model.to_judge outcome) e = refl
      nothing (model.to_retry moment) e = absurd (true≢false e)

  -- ---- replies

  module _ (now word : ℕ) (answer : CodeAnswer) (desk2 : Desk) (out2 : Option Out) where
    is-decided : (batch : BatchView) (s : Sending) → IsLast batch (Some s) → (k : ℕ)
        (outcome : retries.Outcome) (next : Next)
        → s.stage ≡ to_judge k outcome → next_after s.retry k outcome now word ≡ next
        → IsAnswer run h
        (record { step = reply now word; answer = runs.replied batch.number next })
    is-decided batch s l k outcome next e decided =
        let p : IsSendingOf run.retry batch s = l.prepared in
        let had : k ≡ last_attempt h = sym (ap attempts_at e) ∙ l.attempts in
        reply-right now word (progress_at s.stage) _ l.progress
        ((λ i. runs.replied (l.batches i) (sym decided i))
        ∙ (λ i. runs.replied (desk_after run h).batches
        (next_after (p.retry i) (had i) outcome now word))
        ∙ ap (λ st. reply_answer run h (desk_after run h) now word (progress_at st)) (sym e))

    settled-on : Settles now word out answer desk desk2 out2
        → After (reply now word) (answer_view answer) desk2 out2
    settled-on t =
        let l = is-last t.batch (Some t.sending) t.was in
        let o = t.over in
        let next = next_view t.next in
        let x : Answered =
        record { step = reply now word; answer = runs.replied t.batch.number next } in
        rw (t.answered, t.left)
        (on x (Some (queue.settled (fate_view t.fate))) desk2 None (refl, refl)
        (ap (option_map queue.settled) o.ends) (t.does 0 events at.history (λ loss. l.spans))
        t.keeps t.gone tt (none-left x (ends-batch t.batch.number next (fate_view t.fate) o.ends))
        (is-decided t.batch t.sending l o.attempt o.outcome next o.stage o.decided))

    put-off-on : PutsOff now word out answer desk desk2 out2
        → After (reply now word) (answer_view answer) desk2 out2
    put-off-on t =
        let l = is-last t.batch (Some t.sending) t.was in
        let a = t.again in
        let next = retries.again t.moment in
        let x : Answered =
        record { step = reply now word; answer = runs.replied t.batch.number next } in
        let p : IsSendingOf run.retry t.batch t.sending = l.prepared in
        rw (t.answered, t.desk, t.left, a.sending)
        (goes-on-alone t.batch (Some t.sending) l x (refl, refl) _
        (record {
          prepared = record {
            number = p.number;
            retry = p.retry;
            body = p.body;
            some = λ e. subst (λ st. 1 ≤ attempts_at st) a.stage (p.some (ap is_sent_at a.stage));
          };
          progress = refl;
          attempts =
              sym (ap attempts_at a.stage) ∙ l.attempts ∙ sym (last_attempt-none h x refl);
          right = is-decided t.batch t.sending l a.attempt a.outcome next a.stage a.decided;
        })
        refl (sym (ap is_sent_at a.stage)))

    -- A run's state is still what its steps mean after a reply, whatever its answer is.
    pub reply-on : Replies now word out answer desk desk2 out2
        → After (reply now word) (answer_view answer) desk2 out2
    reply-on (inl t) = settled-on t
    reply-on (inr (inl t)) = put-off-on t
    reply-on (inr (inr t)) =
        nothing-on (reply now word) answer desk2 out2 t (refl, refl)
        (reply-right now word (progress_in out) _ progress-is (nothing (progress_in out) t.other))
      where
        nothing : (p : Progress) → is_to_judge p ≡ false
            → runs.nothing ≡ reply_answer run h (desk_after run h) now word p
        nothing model.not_out e = refl
        nothing model.to_encode e = refl
        nothing model.to_send e = refl
        nothing (model.to_judge outcome) e = absurd (true≢false e)
        nothing (model.to_retry moment) e = refl

-- What an exporter shows of a step of a run.
use Rattle.std.proofs.Common.{◌≡◌, refl, sym, ap, subst, ◌∙◌, ℕ, ◌+◌, arith, List, [], ◌∷◌, ◌++◌}
use Rattle.std.proofs.Common.{Bool, true, false, cond, ◌&&◌, inl, inr, Option, Some, None}
use Rattle.std.specs.Prelude.{is_none}
use Rattle.std.specs.Option.{option_to_list}
use Rattle.std.specs.List.{list_any}
use Rattle.rand_core.specs.Stream.{Stream}
use Rattle.model_span.specs.Sampling.{SamplerMeaning, is_sampled}
use Rattle.model_span.specs.Spans.{Call, end, is_end}
use Rattle.model_span.specs.Starts.{StartedSpan, exported_span}
use Rattle.model_desk.specs.Retries.{Outcome}
use Rattle.model_desk.specs.Queue.{DeskEvent, batch_spans, last_batch, last_spans}
use Rattle.model_desk.specs.Desks.{Desk, is_due}
use Rattle.model_run.specs.Runs.{Answer, Answered, desk_events}
use Rattle.model_desk.specs.Waits.{RetryConfig}
use Rattle.model_run.specs.Answers.{RunConfig, last_attempt, take_answer}
use Rattle.model_run.specs.Headline.{attempt_by}
use Rattle.model_processor.specs.Batches.{canonical_body, IsBodyOf}
use Rattle.otlp_proto.specs.Bodies.{body_bytes}
use Rattle.retry_core.specs.Retries.{outcome_view}
use Rattle.batch_desk.specs.Batch.{BatchView}
use Rattle.batch_sending.specs.Sendings.{Sending}
use Rattle.batch_sending.specs.Answers.{Attempts}
use Rattle.batch_sending.specs.declared.answers.Attempted.{Attempted}
use Rattle.batch_sending.specs.declared.answers.Attempted.TheVariants as attempted
use Rattle.trace_run.specs.Answers.{answer_view}
use Rattle.trace_run.specs.declared.answer.Answer.{Answer as CodeAnswer}
use Rattle.trace_run.specs.declared.answer.Answer.TheVariants as answers
use Rattle.span_exporter.specs.Handed.{Handed, handing}
use Rattle.trace_run.specs.Table.{TableWith}
use Rattle.trace_run.specs.Ends.{EndsAs, EndsBy}
use Rattle.trace_run.specs.Queue.{Admits}
use Rattle.trace_run.specs.Out.{Out, IsSendingOf, Encodes, attempt_said, Sends, Replies}
use Rattle.trace_run.specs.State.{Stands, HasItsBody, TellsAll, Tells}
use Rattle.trace_run.proofs.Batches.{shows}
use Rattle.trace_run.proofs.Runs.{tells-none}

-- An answer that speaks of no attempt fits an exporter that is as it was.
pub tells-nothing : (answer : Answer) (means : Handed → Type 0)
    (before after : Option (List Handed))
    → attempt_by answer ≡ None → after ≡ before → Tells answer means before after
tells-nothing answer means before after e f =
    subst (λ o. TellsAll (option_to_list o) means before after) (sym e)
    (subst (λ o. TellsAll [] means before o) (sym f) (tells-none means before))

told-by : (said answer : CodeAnswer) → attempt_by (answer_view said) ≡ None → answer ≡ said
    → attempt_by (answer_view answer) ≡ None
told-by said answer e f = ap (λ a. attempt_by (answer_view a)) f ∙ e

-- The answer to an end speaks of no attempt.
pub end-tells : (s : Option StartedSpan) (calls : List Call) (now : ℕ) (old new : Desk)
    (answer : CodeAnswer)
    → EndsAs Admits s calls now old answer new → attempt_by (answer_view answer) ≡ None
end-tells None calls now old new answer t = told-by answers.NoSpan answer refl t.answered
end-tells (Some s) calls now old new answer t = by (list_any is_end calls) (is_sampled s.decision) t
  where
    by : (b c : Bool) → EndsBy Admits b c (exported_span s (calls ++ end now ∷ [])) old answer new
        → attempt_by (answer_view answer) ≡ None
    by true c u = told-by _ answer refl u.answered
    by false false u = told-by _ answer refl u.answered
    by false true u = told-by (answers.Ended u.said) answer refl u.answered

take-tells : (desk : Desk) (now : ℕ) (answer : CodeAnswer)
    → answer_view answer ≡ take_answer desk now → attempt_by (answer_view answer) ≡ None
take-tells desk now answer e = ap attempt_by e ∙ by (is_due desk now && is_none desk.out)
  where
    by : (b : Bool)
        → attempt_by (cond b
        (Rattle.model_run.specs.Runs.taken (desk.batches + 1)
        (Rattle.std.specs.Prelude.min desk.config.batch
        (Rattle.std.specs.Prelude.length desk.waiting)))
        Rattle.model_run.specs.Runs.not_taken)
        ≡ None
    by true = refl
    by false = refl

-- The answer to a take speaks of no attempt, at the desk of a run.
pub take-tells-at : {S R : Type 0} {meaning : S → SamplerMeaning} {stream : R → Stream}
    {run : RunConfig} {h : List Answered} {table : TableWith S R} {desk : Desk} {out : Option Out}
    → Stands meaning stream run h table desk out
    → (now : ℕ) (answer : CodeAnswer) → answer_view answer ≡ take_answer desk now
    → attempt_by (answer_view answer) ≡ None
take-tells-at {desk = desk} at now answer e = take-tells desk now answer e

-- The answer to an encoding speaks of no attempt.
pub encode-tells : (retry : RetryConfig) (max_body : ℕ) (out later : Option Out)
    (answer : CodeAnswer) (old new : Desk)
    → Encodes retry max_body out answer old new later → attempt_by (answer_view answer) ≡ None
encode-tells retry max_body out later answer old new (inl t) = told-by _ answer refl t.answered
encode-tells retry max_body out later answer old new (inr (inl t)) =
    told-by _ answer refl t.answered
encode-tells retry max_body out later answer old new (inr (inr t)) =
    told-by _ answer refl t.answered

-- An attempt of the batch that is out, which is the last one, has the body of its number.
body-of-last : {S R : Type 0} {meaning : S → SamplerMeaning} {stream : R → Stream} (run : RunConfig)
    (h : List Answered) {table : TableWith S R} {desk : Desk} (batch : BatchView) (s : Sending)
    → Stands meaning stream run h table desk (Some (record { batch = batch; sending = Some s }))
    → (attempt : ℕ) (outcome : Outcome)
    → HasItsBody run.setup h
    (record { number = s.number; attempt = attempt; body = s.body; outcome = outcome })
unfolding body_bytes canonical_body
body-of-last run h batch s at attempt outcome =
    let events : List DeskEvent = desk_events run.setup h in
    let sh = shows _ _ (last_spans events) (last_batch events) (last_attempt h) at.out_is in
    let p : IsSendingOf run.retry batch s = at.prepared.1 in
    let number : s.number ≡ last_batch events = p.number ∙ ap (λ b. b.number) sh in
    let is : IsBodyOf (batch_spans events s.number) s.body =
    subst (λ spans. IsBodyOf spans s.body)
    (ap (λ b. b.spans) sh ∙ ap (batch_spans events) (sym number)) p.body in
    record {
      means = record {
        numbered = let n = at.prepared.0 in omega (arith, n, p.number);
        taken = omega (arith, number);
        body = is.means;
      };
      bytes = is.canonical;
    }

-- The exporter gains the attempt that the answer speaks of, with the body of its batch.
pub send-tells : {S R : Type 0} {meaning : S → SamplerMeaning} {stream : R → Stream}
    (run : RunConfig) (h : List Answered) {table : TableWith S R} (now : ℕ) (out later : Option Out)
    (answer : CodeAnswer) (old new : Desk) (before after : Option (List Handed))
    → Stands meaning stream run h table old out → Sends now out answer old new later before after
    → Tells (answer_view answer) (HasItsBody run.setup h) before after
send-tells run h now out later answer old new before after at (inr t) =
    tells-nothing (answer_view answer) (HasItsBody run.setup h) before after
    (told-by answers.Nothing answer refl t.idle.answered) t.nothing_is_sent
send-tells {meaning = meaning} {stream} run h {table} now out later answer old new before after at
    (inl t) =
    rw t.answered (by t.came t.attempts)
  where
    stands : Stands meaning stream run h table old
        (Some (record { batch = t.batch; sending = Some t.sending }))
    stands = subst (Stands meaning stream run h table old) t.was at

    by : (came : Attempted) → Attempts now t.sending came t.next before after
        → Tells (answer_view (attempt_said t.batch.number came)) (HasItsBody run.setup h) before
        after
    by (attempted.Sent attempt outcome) a = record {
      more = handing t.sending.number attempt t.sending.body (outcome_view outcome);
      gains = a.gains;
      are =
          let p : IsSendingOf run.retry t.batch t.sending = stands.prepared.1 in
          ap (λ n. record { number = n; attempt = attempt; outcome = outcome_view outcome } ∷ [])
          p.number;
      bodies =
          (body-of-last run h t.batch t.sending stands attempt (outcome_view outcome), tt);
    }
    by attempted.Early a =
        tells-nothing (answer_view answers.Early) (HasItsBody run.setup h) before after refl
        a.nothing_is_sent
    by attempted.Unjudged a =
        tells-nothing (answer_view answers.Nothing) (HasItsBody run.setup h) before after refl
        a.nothing_is_sent

-- The answer to a reply speaks of no attempt.
pub reply-tells : (now word : ℕ) (out later : Option Out) (answer : CodeAnswer) (old new : Desk)
    → Replies now word out answer old new later → attempt_by (answer_view answer) ≡ None
reply-tells now word out later answer old new (inl t) = told-by _ answer refl t.answered
reply-tells now word out later answer old new (inr (inl t)) = told-by _ answer refl t.answered
reply-tells now word out later answer old new (inr (inr t)) = told-by _ answer refl t.answered

-- What ends and takes answer, and what no other step answers.
use Rattle.std.proofs.Common.{◌≡◌, refl, sym, ap, ◌∙◌, ℕ, ◌+◌, nat_lt, nat_le, min, List, length}
use Rattle.std.proofs.Common.{Bool, true, false, true≢false, not, ◌&&◌, Option, Some, None, rules}
use Rattle.std.specs.Prelude.{is_none, if◌then◌else◌}
use Rattle.std.specs.List.{list_any}
use Rattle.std.specs.Option.{option_map_or}
use Rattle.model_span.specs.Dropped.{Reason, queue_full, encode_memory, too_large}
use Rattle.model_span.specs.Sampling.{is_sampled}
use Rattle.model_span.specs.Spans.{Call, is_end}
use Rattle.model_span.specs.Starts.{Ids, StartedSpan}
use Rattle.model_desk.specs.Retries.{Outcome, Next}
use Rattle.model_desk.specs.Desks.{Desk, is_due, desk_of}
use Rattle.model_run.specs.Steps.{Step}
use Rattle.model_run.specs.Runs.{Ended, queued, late, not_sampled, already_ended, Answer, started}
use Rattle.model_run.specs.Runs.{no_randomness, no_span, out_of_memory, done, ended, taken}
use Rattle.model_run.specs.Runs.{not_taken, encoded, sent, early, replied, nothing, Answered}
use Rattle.model_run.specs.Runs.{span_at, calls_so_far}
use Rattle.model_run.specs.Answers.{RunConfig, Given, Progress, not_out, to_encode, to_send}
use Rattle.model_run.specs.Answers.{to_judge, to_retry, takes_memory, call_takes_memory}
use Rattle.model_run.specs.Answers.{start_answer, end_answer, call_answer, take_answer}
use Rattle.model_run.specs.Answers.{encode_answer, attempt_answer, reply_answer, last_length}
use Rattle.model_run.specs.Answers.{desk_after, answer_to, progress, last_attempt, IsAnswer}
use Rattle.model_run.specs.Laws.{is_first_end, was_shut, is_full, says_late, says_full, says_queued}
use Rattle.model_run.specs.Laws.{may_take, says_taken, LateAfterShutdown, DroppedWhereFull}
use Rattle.model_run.specs.Laws.{QueuedWhereRoom, TakenWhereDue, TakesTheFirst, OfRuns}
use Rattle.model_run.proofs.RightHistories.{answer-at}

-- ---- a test that fails at every answer but ends, takes, encodings and attempts

record Quiet (f : Answer → Bool) : Type 0 where
  of_start : (ids : Ids) → f (started ids) ≡ false
  of_no_randomness : f no_randomness ≡ false
  of_no_span : f no_span ≡ false
  of_memory : f out_of_memory ≡ false
  of_done : f done ≡ false
  of_flush : f Answer.flush ≡ false
  of_shutdown : f Answer.shutdown ≡ false
  of_not_taken : f not_taken ≡ false
  of_early : f early ≡ false
  of_dropped : (number : ℕ) (reason : Reason) → f (Answer.dropped number reason) ≡ false
  of_replied : (number : ℕ) (next : Next) → f (replied number next) ≡ false
  of_nothing : f nothing ≡ false

module _ (f : Answer → Bool) (q : Quiet f) where
  quiet-start : (there refused : Bool) (s : Option StartedSpan)
      → f (start_answer there refused s) ≡ false
  quiet-start true refused None = q.of_no_randomness
  quiet-start false refused None = q.of_no_span
  quiet-start there refused (Some s) = by (refused && takes_memory s)
    where
      by : (b : Bool)
          → f (if b then out_of_memory
          else started (record { trace = s.start.context.trace; span = s.start.context.span }))
          ≡ false
      by true = q.of_memory
      by false = q.of_start _

  quiet-encode : ((number size : ℕ) → f (encoded number size) ≡ false)
      → (run : RunConfig) (before : List Answered) (desk : Desk) (refused : Bool) (p : Progress)
      → f (encode_answer run before desk refused p) ≡ false
  quiet-encode t run before desk true to_encode = q.of_dropped _ encode_memory
  quiet-encode t run before desk false to_encode =
      by (nat_le (last_length run.setup before) run.max_body)
    where
      by : (b : Bool)
          → f (if b then encoded desk.batches (last_length run.setup before)
          else Answer.dropped desk.batches too_large)
          ≡ false
      by true = t _ _
      by false = q.of_dropped _ too_large
  quiet-encode t run before desk refused not_out = q.of_nothing
  quiet-encode t run before desk refused to_send = q.of_nothing
  quiet-encode t run before desk refused (to_judge outcome) = q.of_nothing
  quiet-encode t run before desk refused (to_retry moment) = q.of_nothing

  quiet-attempt :
      ((number attempt : ℕ) (outcome : Outcome) → f (sent number attempt outcome) ≡ false)
      → (before : List Answered) (desk : Desk) (outcome : Outcome) (now : ℕ) (p : Progress)
      → f (attempt_answer before desk outcome now p) ≡ false
  quiet-attempt t before desk outcome now to_send = t _ _ _
  quiet-attempt t before desk outcome now (to_retry moment) = by (nat_lt now moment)
    where
      by : (b : Bool)
          → f (if b then early else sent desk.batches (last_attempt before + 1) outcome) ≡ false
      by true = q.of_early
      by false = t _ _ _
  quiet-attempt t before desk outcome now not_out = q.of_nothing
  quiet-attempt t before desk outcome now to_encode = q.of_nothing
  quiet-attempt t before desk outcome now (to_judge o) = q.of_nothing

  quiet-reply : (run : RunConfig) (before : List Answered) (desk : Desk) (now word : ℕ)
      (p : Progress)
      → f (reply_answer run before desk now word p) ≡ false
  quiet-reply run before desk now word (to_judge outcome) = q.of_replied _ _
  quiet-reply run before desk now word not_out = q.of_nothing
  quiet-reply run before desk now word to_encode = q.of_nothing
  quiet-reply run before desk now word to_send = q.of_nothing
  quiet-reply run before desk now word (to_retry moment) = q.of_nothing

  quiet-take : ((number size : ℕ) → f (taken number size) ≡ false) → (desk : Desk) (now : ℕ)
      → f (take_answer desk now) ≡ false
  quiet-take t desk now = by (is_due desk now && is_none desk.out)
    where
      by : (b : Bool)
          → f (if b then taken (desk.batches + 1) (min desk.config.batch (length desk.waiting))
          else not_taken)
          ≡ false
      by true = t _ _
      by false = q.of_not_taken

  quiet-call : ((e : Ended) → f (ended e) ≡ false)
      → (run : RunConfig) (before : List Answered) (desk : Desk) (refused : Bool) (n : ℕ) (c : Call)
      (o : Option StartedSpan)
      → f (call_answer run before desk refused n c o) ≡ false
  quiet-call t run before desk refused n c None = q.of_no_span
  quiet-call t run before desk refused n c (Some s) =
      by (is_end c) (refused && call_takes_memory s (calls_so_far before n) c)
    where
      by : (e b : Bool)
          → f
          (if e then ended (end_answer run before desk n s) else if b then out_of_memory else done)
          ≡ false
      by true b = t _
      by false true = q.of_memory
      by false false = q.of_done

-- ---- ends

-- what the end of a span that has started answers, by whether it has ended, is sampled, there was a
-- shutdown, and the queue is full
abbrev end_by : Bool → Bool → Bool → Bool → ℕ → Ended
end_by over sampled shut full ticket =
    if over then already_ended else if not sampled then not_sampled else if shut then late
    else if full then Ended.dropped ticket queue_full else queued ticket

-- a test of what ends answer
record TellsEnds (f : Answer → Bool) (says : Bool → Bool → Bool) : Type 0 where
  quiet : Quiet f
  of_taken : (number size : ℕ) → f (taken number size) ≡ false
  of_encoded : (number size : ℕ) → f (encoded number size) ≡ false
  of_sent : (number attempt : ℕ) (outcome : Outcome) → f (sent number attempt outcome) ≡ false
  of_over : f (ended already_ended) ≡ false
  of_unsampled : f (ended not_sampled) ≡ false
  of_late : (full : Bool) → f (ended late) ≡ says true full
  of_full : (ticket : ℕ) → f (ended (Ended.dropped ticket queue_full)) ≡ says false true
  of_queued : (ticket : ℕ) → f (ended (queued ticket)) ≡ says false false

module _ (f : Answer → Bool) (says : Bool → Bool → Bool) (t : TellsEnds f says) (run : RunConfig)
    (before : List Answered) where
  of-end : (over sampled shut full : Bool) (ticket : ℕ)
      → f (ended (end_by over sampled shut full ticket)) ≡ (not over && sampled && says shut full)
  of-end true sampled shut full ticket = t.of_over
  of-end false false shut full ticket = t.of_unsampled
  of-end false true true full ticket = t.of_late full
  of-end false true false true ticket = t.of_full ticket
  of-end false true false false ticket = t.of_queued ticket

  abbrev told : Step → Bool
  told step = is_first_end run before step && says (was_shut before) (is_full run before)

  and-none : (a b : Bool) → (a && b && false) ≡ false
  and-none true true = refl
  and-none true false = refl
  and-none false true = refl
  and-none false false = refl

  ends-call : (refused : Bool) (n : ℕ) (c : Call)
      → f (call_answer run before (desk_after run before) refused n c (span_at run.setup before n))
      ≡ told (Step.call n c)
  ends-call refused n c = by (span_at run.setup before n)
    where
      end-or-not : (s : StartedSpan) (e : Bool)
          → f (if e then ended (end_answer run before (desk_after run before) n s)
          else if refused && call_takes_memory s (calls_so_far before n) c then out_of_memory
          else done)
          ≡ (e && not (list_any is_end (calls_so_far before n)) && is_sampled s.decision
          && says (was_shut before) (is_full run before))
      end-or-not s true =
          of-end (list_any is_end (calls_so_far before n)) (is_sampled s.decision)
          (was_shut before) (is_full run before) _
      end-or-not s false = or-not (refused && call_takes_memory s (calls_so_far before n) c)
        where
          or-not : (b : Bool) → f (if b then out_of_memory else done) ≡ false
          or-not true = t.quiet.of_memory
          or-not false = t.quiet.of_done

      by : (o : Option StartedSpan)
          → f (call_answer run before (desk_after run before) refused n c o)
          ≡ (is_end c && not (list_any is_end (calls_so_far before n))
          && option_map_or (λ s. is_sampled s.decision) o false
          && says (was_shut before) (is_full run before))
      by None =
          t.quiet.of_no_span
          ∙ sym (ap (λ b. b && says (was_shut before) (is_full run before))
          (and-none (is_end c) (not (list_any is_end (calls_so_far before n)))))
      by (Some s) = end-or-not s (is_end c)

  ends-told : (given : Given) (step : Step) → f (answer_to run before given step) ≡ told step
  ends-told given (Step.start scope parent kind at name) = quiet-start f t.quiet _ given.refused _
  ends-told given (Step.call n c) = ends-call given.refused n c
  ends-told given Step.flush = t.quiet.of_flush
  ends-told given Step.shutdown = t.quiet.of_shutdown
  ends-told given (Step.take now) = quiet-take f t.quiet t.of_taken (desk_after run before) now
  ends-told given Step.encode =
      quiet-encode f t.quiet t.of_encoded run before (desk_after run before) given.refused
      (progress before)
  ends-told given (Step.attempt now) =
      quiet-attempt f t.quiet t.of_sent before (desk_after run before) given.outcome now
      (progress before)
  ends-told given (Step.reply now word) =
      quiet-reply f t.quiet run before (desk_after run before) now word (progress before)

  ends-are : (x : Answered) → IsAnswer run before x → f x.answer ≡ told x.step
  ends-are x i = ap f i.is ∙ ends-told i.given x.step

tells-late : TellsEnds says_late (λ shut full. shut)
tells-late = search rules

tells-full : TellsEnds says_full (λ shut full. not shut && full)
tells-full = search rules

tells-queued : TellsEnds says_queued (λ shut full. not shut && not full)
tells-queued = search rules

and-three : (a b c : Bool) → (a && (b && c)) ≡ (a && b && c)
and-three true b c = refl
and-three false b c = refl

-- A span is late exactly where its first end comes after a shutdown.
pub late-after-shutdown : OfRuns LateAfterShutdown
late-after-shutdown run h w before later x e =
    ends-are says_late (λ shut full. shut) tells-late run before x
    (answer-at run h w before later x e)

-- A span is dropped at its end exactly where the queue is full and was not shut down.
pub dropped-where-full : OfRuns DroppedWhereFull
dropped-where-full run h w before later x e =
    ends-are says_full (λ shut full. not shut && full) tells-full run before x
    (answer-at run h w before later x e)
    ∙ and-three (is_first_end run before x.step) (not (was_shut before)) (is_full run before)

-- A span is queued at its end exactly where there is room and was no shutdown.
pub queued-where-room : OfRuns QueuedWhereRoom
queued-where-room run h w before later x e =
    ends-are says_queued (λ shut full. not shut && not full) tells-queued run before x
    (answer-at run h w before later x e)
    ∙ and-three (is_first_end run before x.step) (not (was_shut before)) (not (is_full run before))

-- ---- takes

quiet-taken : Quiet says_taken
quiet-taken = search rules

take-told : (run : RunConfig) (before : List Answered) (given : Given) (step : Step)
    → says_taken (answer_to run before given step) ≡ may_take run before step
take-told run before given (Step.start scope parent kind at name) =
    quiet-start says_taken quiet-taken _ given.refused _
take-told run before given (Step.call n c) =
    quiet-call says_taken quiet-taken (λ e. refl) run before
    (desk_after run before) given.refused n c (span_at run.setup before n)
take-told run before given Step.flush = refl
take-told run before given Step.shutdown = refl
take-told run before given (Step.take now) =
    by (is_due (desk_after run before) now && is_none (desk_after run before).out)
  where
    by : (b : Bool)
        → says_taken (if b
        then taken ((desk_after run before).batches + 1)
        (min (desk_after run before).config.batch (length (desk_after run before).waiting))
        else not_taken)
        ≡ b
    by true = refl
    by false = refl
take-told run before given Step.encode =
    quiet-encode says_taken quiet-taken (λ n s. refl) run before
    (desk_after run before) given.refused (progress before)
take-told run before given (Step.attempt now) =
    quiet-attempt says_taken quiet-taken (λ n a o. refl) before
    (desk_after run before) given.outcome now (progress before)
take-told run before given (Step.reply now word) =
    quiet-reply says_taken quiet-taken run before (desk_after run before) now word (progress before)

-- A take gives a batch exactly where one is due and none is out.
pub taken-where-due : OfRuns TakenWhereDue
taken-where-due run h w before later x e =
    let i = answer-at run h w before later x e in
    ap says_taken i.is ∙ take-told run before i.given x.step

same-config : (run : RunConfig) (before : List Answered) → (desk_after run before).config ≡ run.desk
unfolding desk_after desk_of
same-config run before = refl

first-taken : (run : RunConfig) (before : List Answered) (given : Given) (number size : ℕ)
    (step : Step)
    → taken number size ≡ answer_to run before given step → true ≡ may_take run before step
    → (number ≡ (desk_after run before).batches + 1)
    × (size ≡ min run.desk.batch (length (desk_after run before).waiting))
first-taken run before given number size (Step.start scope parent kind at name) k m =
    absurd (true≢false m)
first-taken run before given number size (Step.call n c) k m = absurd (true≢false m)
first-taken run before given number size Step.flush k m = absurd (true≢false m)
first-taken run before given number size Step.shutdown k m = absurd (true≢false m)
first-taken run before given number size (Step.take now) k m =
    by (is_due (desk_after run before) now && is_none (desk_after run before).out) k
  where
    by : (b : Bool)
        → taken number size
        ≡ (if b
        then taken ((desk_after run before).batches + 1)
        (min (desk_after run before).config.batch (length (desk_after run before).waiting))
        else not_taken)
        → (number ≡ (desk_after run before).batches + 1)
        × (size ≡ min run.desk.batch (length (desk_after run before).waiting))
    by true e =
        let s : size
        ≡ min (desk_after run before).config.batch (length (desk_after run before).waiting) =
        cc in (
          cc,
          s
              ∙ ap (λ config. min config.batch (length (desk_after run before).waiting))
              (same-config run before),
        )
    by false e = cc
first-taken run before given number size Step.encode k m = absurd (true≢false m)
first-taken run before given number size (Step.attempt now) k m = absurd (true≢false m)
first-taken run before given number size (Step.reply now word) k m = absurd (true≢false m)

-- A taken batch has the next number and as many waiting spans as a batch may have.
pub takes-the-first : OfRuns TakesTheFirst
takes-the-first run h w before later x e number size k =
    let i = answer-at run h w before later x e in
    first-taken run before i.given number size x.step (sym k ∙ i.is)
    (ap says_taken (sym k ∙ i.is) ∙ take-told run before i.given x.step)

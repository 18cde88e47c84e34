-- How often a batch was sent, and what each right answer keeps of this.
use Rattle.std.proofs.Common.{◌≡◌, refl, sym, ap, subst, ◌∙◌, ℕ, ◌+◌, ◌<◌, ◌≤◌, ◌==◌, nat_lt}
use Rattle.std.proofs.Common.{nat_le, min, arith, List, [], ◌∷◌, ◌++◌, length, Bool, true, false}
use Rattle.std.proofs.Common.{true≢false, cond, ◌&&◌, map, suc, Option, Some, None, option_map}
use Rattle.std.proofs.Common.{filter_map, length-append}
use Rattle.std.specs.Prelude.{is_none, if◌then◌else◌}
use Rattle.std.specs.List.{AllByRecursion, cons_option, range_with_len}
use Rattle.std.proofs.lemmas.List.{append-nil, map-append}
use Rattle.std.proofs.lemmas.List.Elements.{filter-append}
use Rattle.std.proofs.lemmas.Bool.{eqb-true, eq-eqb, ltb-false, leb-true, leb-false}
use Rattle.std.proofs.lemmas.Bool.{false_from_ne_true}
use Rattle.model_span.specs.Attributes.{last_or}
use Rattle.model_span.specs.Dropped.{too_large}
use Rattle.model_span.specs.Spans.{SpanData, Call, is_end}
use Rattle.model_span.specs.Starts.{StartedSpan}
use Rattle.model_desk.specs.Retries.{Outcome, Next, again, give_up, Fate, fate_of}
use Rattle.model_desk.specs.Queue.{DeskEvent, size_of_take, batch_sizes}
use Rattle.model_desk.specs.Queue as desk
use Rattle.model_desk.specs.Desks.{is_due, desk_of}
use Rattle.model_desk.proofs.Lists.{none-more, some-more, last-more}
use Rattle.model_desk.specs.Waits.{RetryConfig, next_after}
use Rattle.model_desk.proofs.Again.{again-few}
use Rattle.model_run.proofs.Batches.{range-more}
use Rattle.model_run.specs.Steps.{Step}
use Rattle.model_run.specs.History.{Setup}
use Rattle.model_run.specs.Runs.{Answer, started, out_of_memory, done, ended, taken, not_taken}
use Rattle.model_run.specs.Runs.{encoded, sent, early, replied, Answered, span_at, calls_so_far}
use Rattle.model_run.specs.Runs.{event_by, events_after, desk_events}
use Rattle.model_run.specs.Answers.{RunConfig, Progress, not_out, to_encode, to_send, to_judge}
use Rattle.model_run.specs.Answers.{to_retry, progress_by, progress, attempts_by, last_attempt}
use Rattle.model_run.specs.Answers.{takes_memory, call_takes_memory, Given, start_answer}
use Rattle.model_run.specs.Answers.{end_answer, call_answer, take_answer, last_length}
use Rattle.model_run.specs.Answers.{encode_answer, attempt_answer, reply_answer, desk_after}
use Rattle.model_run.specs.Answers.{answer_to, IsAnswer, AreAnswers}
use Rattle.model_run.specs.Headline.{Attempt, attempt_by, attempts, attempts_with, attempts_of}
use Rattle.model_run.specs.Headline.{AreNumbered}
use Rattle.model_run.proofs.More.{progress-none, progress-some, last_attempt-none}
use Rattle.model_run.proofs.More.{last_attempt-some, attempts-none, attempts-some}
use Rattle.model_run.specs.Laws.{OfRuns, OfSettings, KeepsFromEncoding, moment_by, retry_moment}
use Rattle.model_run.specs.Laws.{AttemptsAreNumbered, AttemptsAreFew, AttemptsAreFiveAtMost}
use Rattle.model_run.specs.Laws.{NoAttemptIsEarly, RepliesAreDecided}
use Rattle.model_run.proofs.RightHistories.{by-steps, front, answer-at}
use Rattle.model_run.proofs.Cases.{size_by, IsSilent, EventCases, by-event, by-answer}

-- ---- lists

-- All elements of a list with one more have a property that the list's elements and the new one
-- have.
all-more : {A : Type 0} (P : A → Type 0) (xs : List A) (y : A) → AllByRecursion P xs → P y
    → AllByRecursion P (xs ++ y ∷ [])
all-more P [] y a p = (p, tt)
all-more P (x ∷ xs) y a p = (a.0, all-more P xs y a.1 p)

-- each attempt is one of a batch with this number or a lower one
abbrev pub AreUpTo : ℕ → List Attempt → Type 0
AreUpTo number told = AllByRecursion (λ (a : Attempt). a.number ≤ number) told

up-to-next : (number : ℕ) (told : List Attempt) → AreUpTo number told → AreUpTo (number + 1) told
up-to-next number [] b = tt
up-to-next number (a ∷ told) b = (let l = b.0 in omega (arith, l), up-to-next number told b.1)

of-next : (number : ℕ) (told : List Attempt) → AreUpTo number told
    → attempts_with (number + 1) told ≡ []
of-next number [] b = refl
of-next number (a ∷ told) b =
    by (a.number == number + 1)
    (false_from_ne_true (a.number == number + 1)
    (λ e. let n = eqb-true a.number (number + 1) e in let l = b.0 in absurd (omega (arith, n, l))))
    (of-next number told b.1)
  where
    by : (c : Bool) → c ≡ false → attempts_with (number + 1) told ≡ []
        → cond c (a ∷ attempts_with (number + 1) told) (attempts_with (number + 1) told) ≡ []
    by true e f = absurd (true≢false e)
    by false e f = f

of-more : (x : Attempt) (told : List Attempt)
    → attempts_with x.number (told ++ x ∷ []) ≡ attempts_with x.number told ++ x ∷ []
of-more x [] = rw (eq-eqb x.number x.number refl) refl
of-more x (a ∷ told) = by (a.number == x.number) (of-more x told)
  where
    by : (c : Bool)
        → attempts_with x.number (told ++ x ∷ []) ≡ attempts_with x.number told ++ x ∷ []
        → cond c (a ∷ attempts_with x.number (told ++ x ∷ []))
        (attempts_with x.number (told ++ x ∷ []))
        ≡ cond c (a ∷ attempts_with x.number told) (attempts_with x.number told) ++ x ∷ []
    by true e = ap (λ l. a ∷ l) e
    by false e = e

-- Attempts are numbered in order still after one more, numbered after those of its batch.
order-more : (told : List Attempt) (a : Attempt) → AreNumbered told
    → a.attempt ≡ length (attempts_with a.number told) + 1 → AreNumbered (told ++ a ∷ [])
order-more told a o e n = by (a.number == n) refl
  where
    grown : attempts_with n (told ++ a ∷ [])
        ≡ attempts_with n told ++ cond (a.number == n) (a ∷ []) []
    grown = filter-append (λ (b : Attempt). b.number == n) told (a ∷ [])

    by : (b : Bool) → (a.number == n) ≡ b
        → map (λ (b : Attempt). b.attempt) (attempts_with n (told ++ a ∷ []))
        ≡ range_with_len 1 (length (attempts_with n (told ++ a ∷ [])))
    by false f =
        let same : attempts_with n (told ++ a ∷ []) ≡ attempts_with n told =
        grown ∙ ap (λ c. attempts_with n told ++ cond c (a ∷ []) []) f
        ∙ append-nil (attempts_with n told) in
        subst (λ l. map (λ (b : Attempt). b.attempt) l ≡ range_with_len 1 (length l)) (sym same)
        (o n)
    by true f =
        let same : attempts_with n (told ++ a ∷ []) ≡ attempts_with n told ++ a ∷ [] =
        grown ∙ ap (λ c. attempts_with n told ++ cond c (a ∷ []) []) f in
        let k : a.attempt ≡ 1 + length (attempts_with n told) =
        e ∙ ap (λ (m : ℕ). length (attempts_with m told) + 1) (eqb-true a.number n f)
        ∙ (let c : length (attempts_with n told) + 1 ≡ 1 + length (attempts_with n told) =
        omega arith in
        c) in
        let many : length (attempts_with n told ++ a ∷ []) ≡ suc (length (attempts_with n told)) =
        length-append (attempts_with n told) (a ∷ [])
        ∙ (let c : length (attempts_with n told) + 1 ≡ suc (length (attempts_with n told)) =
        omega arith in
        c) in
        subst (λ l. map (λ (b : Attempt). b.attempt) l ≡ range_with_len 1 (length l)) (sym same)
        (map-append (λ (b : Attempt). b.attempt) (attempts_with n told) (a ∷ [])
        ∙ (λ i. o n i ++ k i ∷ []) ∙ sym (range-more 1 (length (attempts_with n told)))
        ∙ ap (range_with_len 1) (sym many))

-- ---- what holds after right answers

-- A batch that is to be judged had these attempts.
pub record Judged (config : RetryConfig) (told : List Attempt) (number last : ℕ)
    (outcome : Outcome) : Type 0 where
  pub some : 0 < last
  pub few : 1 ≤ config.attempts → last ≤ config.attempts
  pub earlier : List Attempt
  pub ends : told ≡ earlier ++ record { number = number; attempt = last; outcome = outcome } ∷ []

-- A batch that is to be sent again had fewer attempts than it may have.
pub record Retried (config : RetryConfig) (last since moment : ℕ) : Type 0 where
  pub some : 0 < last
  pub few : last < config.attempts
  pub from_then : since ≡ moment

-- What holds of the last batch at each progress: of its number, its last attempt and the moment
-- since when it may be sent.
abbrev pub TriedAt : RetryConfig → List Attempt → ℕ → ℕ → ℕ → Progress → Type 0
TriedAt config told number last since not_out = Unit {0}
TriedAt config told number last since to_encode = (last ≡ 0) × (since ≡ 0) × (0 < number)
TriedAt config told number last since to_send = (last ≡ 0) × (since ≡ 0) × (0 < number)
TriedAt config told number last since (to_judge outcome) = Judged config told number last outcome
TriedAt config told number last since (to_retry moment) = Retried config last since moment

pub record TriedWith (config : RetryConfig) (told : List Attempt) (number last since : ℕ)
    (p : Progress) : Type 0 where
  pub stands : TriedAt config told number last since p
  pub counted : length (attempts_with number told) ≡ last
  pub below : AreUpTo number told
  pub in_order : AreNumbered told

module _ (config : RetryConfig) (told : List Attempt) (number last since : ℕ) (p : Progress)
    (t : TriedWith config told number last since p) where
  on-take : TriedWith config told (number + 1) 0 0 to_encode
  on-take = record {
    stands = (refl, refl, omega arith);
    counted = ap length (of-next number told t.below);
    below = up-to-next number told t.below;
    in_order = t.in_order;
  }

  on-encode : p ≡ to_encode → TriedWith config told number last since to_send
  on-encode e = record {
    stands = subst (TriedAt config told number last since) e t.stands;
    counted = t.counted;
    below = t.below;
    in_order = t.in_order;
  }

  on-sent : (outcome : Outcome) → (1 ≤ config.attempts → last + 1 ≤ config.attempts)
      → TriedWith config
      (told ++ record { number = number; attempt = last + 1; outcome = outcome } ∷ []) number
      (last + 1) since (to_judge outcome)
  on-sent outcome few = record {
    stands = record { some = omega arith; few = few; earlier = told; ends = refl };
    counted =
        ap length (of-more (record { number = number; attempt = last + 1; outcome = outcome }) told)
        ∙ length-append (attempts_with number told) _ ∙ ap (λ (n : ℕ). n + 1) t.counted;
    below = all-more (λ (a : Attempt). a.number ≤ number) told _ t.below (omega arith);
    in_order =
        order-more told
        (record { number = number; attempt = last + 1; outcome = outcome }) t.in_order
        (ap (λ (n : ℕ). n + 1) (sym t.counted));
  }

  on-again : (outcome : Outcome) → p ≡ to_judge outcome → (moment : ℕ) → last < config.attempts
      → TriedWith config told number last moment (to_retry moment)
  on-again outcome e moment few =
      let j : Judged config told number last outcome =
      subst (TriedAt config told number last since) e t.stands in
      record {
        stands = record { some = j.some; few = few; from_then = refl };
        counted = t.counted;
        below = t.below;
        in_order = t.in_order;
      }

  on-end : TriedWith config told number last since not_out
  on-end = record { stands = tt; counted = t.counted; below = t.below; in_order = t.in_order }

-- ---- histories

abbrev pub batches : List Answered → ℕ
batches h = length (filter_map (λ x. size_by x.answer) h)

abbrev pub Tried : RunConfig → List Answered → Type 0
Tried run h =
    TriedWith run.retry (attempts h) (batches h) (last_attempt h) (retry_moment h) (progress h)

batches-none : (h : List Answered) (x : Answered) → size_by x.answer ≡ None
    → batches (h ++ x ∷ []) ≡ batches h
batches-none h x e = ap length (none-more (λ x. size_by x.answer) h x e)

batches-some : (h : List Answered) (x : Answered) (n : ℕ) → size_by x.answer ≡ Some n
    → batches (h ++ x ∷ []) ≡ batches h + 1
batches-some h x n e =
    ap length (some-more (λ x. size_by x.answer) h x n e)
    ∙ length-append (filter_map (λ x. size_by x.answer) h) (n ∷ [])

moment-none : (h : List Answered) (x : Answered) → moment_by x.answer ≡ None
    → retry_moment (h ++ x ∷ []) ≡ retry_moment h
unfolding retry_moment
moment-none h x e = ap (last_or 0) (none-more (λ x. moment_by x.answer) h x e)

moment-some : (h : List Answered) (x : Answered) (n : ℕ) → moment_by x.answer ≡ Some n
    → retry_moment (h ++ x ∷ []) ≡ n
unfolding retry_moment
moment-some h x n e =
    ap (last_or 0) (some-more (λ x. moment_by x.answer) h x n e)
    ∙ last-more 0 (filter_map (λ x. moment_by x.answer) h) n

-- ---- what an answer says of the progress that the batch had

-- An attempt is the first of its batch, or one after a moment that a reply said.
pub data Sends (run : RunConfig) (h : List Answered) (step : Step)
    (number attempt : ℕ) : Type 0 where
  first : progress h ≡ to_send → attempt ≡ 1 → Sends run h step number attempt
  later : (moment : ℕ) → progress h ≡ to_retry moment → attempt ≡ last_attempt h + 1
      → ((now : ℕ) → step ≡ Step.attempt now → moment ≤ now) → Sends run h step number attempt

pub record Replies (run : RunConfig) (h : List Answered) (step : Step) (next : Next) : Type 0 where
  pub outcome : Outcome
  pub judged : progress h ≡ to_judge outcome
  pub few : (moment : ℕ) → next ≡ again moment → last_attempt h < run.retry.attempts
  pub decided : (now word : ℕ) → step ≡ Step.reply now word
      → next ≡ next_after run.retry (last_attempt h) outcome now word

abbrev pub Told : RunConfig → List Answered → Step → Answer → Type 0
Told run h step (taken number size) = number ≡ (desk_after run h).batches + 1
Told run h step (encoded number size) =
    (progress h ≡ to_encode) × (number ≡ (desk_after run h).batches)
    × (size ≡ last_length run.setup h) × (size ≤ run.max_body)
Told run h step (Answer.dropped number reason) =
    (step ≡ Step.encode) × (number ≡ (desk_after run h).batches) × KeepsFromEncoding run h reason
Told run h step (sent number attempt outcome) =
    (number ≡ (desk_after run h).batches) × Sends run h step number attempt
Told run h step (replied number next) =
    (number ≡ (desk_after run h).batches) × Replies run h step next
Told run h step _ = Unit {0}

module _ (run : RunConfig) (h : List Answered) where
  told-start : (step : Step) (there refused : Bool) (o : Option StartedSpan)
      → Told run h step (start_answer there refused o)
  told-start step true refused None = tt
  told-start step false refused None = tt
  told-start step there refused (Some s) = by (refused && takes_memory s)
    where
      by : (b : Bool)
          → Told run h step
          (if b then out_of_memory
          else started (record { trace = s.start.context.trace; span = s.start.context.span }))
      by true = tt
      by false = tt

  told-call : (step : Step) (refused : Bool) (n : ℕ) (c : Call) (o : Option StartedSpan)
      → Told run h step (call_answer run h (desk_after run h) refused n c o)
  told-call step refused n c None = tt
  told-call step refused n c (Some s) =
      by (is_end c) (refused && call_takes_memory s (calls_so_far h n) c)
    where
      by : (e b : Bool)
          → Told run h step
          (if e then ended (end_answer run h (desk_after run h) n s) else if b then out_of_memory
          else done)
      by true b = tt
      by false true = tt
      by false false = tt

  told-take : (now : ℕ) → Told run h (Step.take now) (take_answer (desk_after run h) now)
  told-take now = by (is_due (desk_after run h) now && is_none (desk_after run h).out)
    where
      by : (b : Bool)
          → Told run h (Step.take now)
          (if b
          then taken ((desk_after run h).batches + 1)
          (min (desk_after run h).config.batch (length (desk_after run h).waiting))
          else not_taken)
      by true = refl
      by false = tt

  told-encode : (refused : Bool) (p : Progress) → progress h ≡ p
      → Told run h Step.encode (encode_answer run h (desk_after run h) refused p)
  told-encode true to_encode e = (refl, refl, tt)
  told-encode false to_encode e = by (nat_le (last_length run.setup h) run.max_body) refl
    where
      by : (b : Bool) → nat_le (last_length run.setup h) run.max_body ≡ b
          → Told run h Step.encode
          (if b then encoded (desk_after run h).batches (last_length run.setup h)
          else Answer.dropped (desk_after run h).batches too_large)
      by true k = (e, refl, refl, leb-true (last_length run.setup h) run.max_body k)
      by false k = (refl, refl, leb-false (last_length run.setup h) run.max_body k)
  told-encode refused not_out e = tt
  told-encode refused to_send e = tt
  told-encode refused (to_judge outcome) e = tt
  told-encode refused (to_retry moment) e = tt

  told-attempt : (outcome : Outcome) (now : ℕ) (p : Progress) → progress h ≡ p
      → Told run h (Step.attempt now) (attempt_answer h (desk_after run h) outcome now p)
  told-attempt outcome now to_send e = (refl, first e refl)
  told-attempt outcome now (to_retry moment) e = by (nat_lt now moment) refl
    where
      at-moment : (later_on : ℕ) → Step.attempt now ≡ Step.attempt later_on → moment ≤ now
          → moment ≤ later_on
      at-moment later_on k l = let same : now ≡ later_on = cc in omega (arith, same, l)

      by : (b : Bool) → nat_lt now moment ≡ b
          → Told run h (Step.attempt now)
          (if b then early else sent (desk_after run h).batches (last_attempt h + 1) outcome)
      by true k = tt
      by false k = (
        refl,
        later moment e refl (λ later_on same. at-moment later_on same (ltb-false now moment k)),
      )
  told-attempt outcome now not_out e = tt
  told-attempt outcome now to_encode e = tt
  told-attempt outcome now (to_judge o) e = tt

  told-reply : (now word : ℕ) (p : Progress) → progress h ≡ p
      → Told run h (Step.reply now word) (reply_answer run h (desk_after run h) now word p)
  told-reply now word (to_judge outcome) e = (
    refl,
    record {
      outcome = outcome;
      judged = e;
      few = λ moment k. again-few run.retry (last_attempt h) outcome now word moment k;
      decided = λ at drawn k. let a : now ≡ at = cc in let b : word ≡ drawn = cc in rw (a, b) refl;
    },
  )
  told-reply now word not_out e = tt
  told-reply now word to_encode e = tt
  told-reply now word to_send e = tt
  told-reply now word (to_retry moment) e = tt

  told-of : (given : Given) (step : Step) → Told run h step (answer_to run h given step)
  told-of given (Step.start scope parent kind at name) =
      told-start (Step.start scope parent kind at name) _ given.refused _
  told-of given (Step.call n c) =
      told-call (Step.call n c) given.refused n c (span_at run.setup h n)
  told-of given Step.flush = tt
  told-of given Step.shutdown = tt
  told-of given (Step.take now) = told-take now
  told-of given Step.encode = told-encode given.refused (progress h) refl
  told-of given (Step.attempt now) = told-attempt given.outcome now (progress h) refl
  told-of given (Step.reply now word) = told-reply now word (progress h) refl

  -- A right answer says of the last batch what its progress allows.
  pub told : (x : Answered) → IsAnswer run h x → Told run h x.step x.answer
  told x i = subst (Told run h x.step) (sym i.is) (told-of i.given x.step)

-- ---- the number of the last batch

abbrev size_in : Option DeskEvent → Option ℕ
size_in None = None
size_in (Some y) = size_of_take y

sizes-are : (step : Step) → EventCases step (λ a o. size_in o ≡ size_by a)
sizes-are step = record {
  of_queued = λ n o. by-queued o;
  of_full = λ n o. by-full o;
  of_late = refl;
  of_flush = refl;
  of_shutdown = refl;
  of_taken = λ n size. refl;
  of_encoded = λ n size. refl;
  of_dropped = λ n r. refl;
  of_sent = λ n attempt outcome. by-handed (attempt == 1);
  of_replied = λ n next. by-settled (fate_of next);
  of_other = λ a s. sym s.no_size;
}
  where
    by-queued : (o : Option SpanData) → size_in (option_map desk.queued o) ≡ None
    by-queued None = refl
    by-queued (Some s) = refl

    by-full : (o : Option SpanData) → size_in (option_map desk.full o) ≡ None
    by-full None = refl
    by-full (Some s) = refl

    by-handed : (b : Bool) → size_in (if b then Some desk.handed else None) ≡ None
    by-handed true = refl
    by-handed false = refl

    by-settled : (o : Option Fate) → size_in (option_map desk.settled o) ≡ None
    by-settled None = refl
    by-settled (Some f) = refl

event-sizes : (setup : Setup) (before h : List Answered)
    → batch_sizes (events_after setup before h) ≡ filter_map (λ x. size_by x.answer) h
event-sizes setup before [] = refl
event-sizes setup before (x ∷ h) =
    by (event_by setup before x.answer x.step)
    (by-event setup before x.step (λ a o. size_in o ≡ size_by a) (sizes-are x.step) x.answer)
    (event-sizes setup (before ++ x ∷ []) h)
  where
    by : (o : Option DeskEvent) → size_in o ≡ size_by x.answer
        → batch_sizes (events_after setup (before ++ x ∷ []) h)
        ≡ filter_map (λ x. size_by x.answer) h
        → filter_map size_of_take (cons_option o (events_after setup (before ++ x ∷ []) h))
        ≡ cons_option (size_by x.answer) (filter_map (λ x. size_by x.answer) h)
    by None e f =
        ap (λ o. cons_option o (batch_sizes (events_after setup (before ++ x ∷ []) h))) e
        ∙ ap (cons_option (size_by x.answer)) f
    by (Some y) e f =
        ap (λ o. cons_option o (batch_sizes (events_after setup (before ++ x ∷ []) h))) e
        ∙ ap (cons_option (size_by x.answer)) f

-- The desk counts the batches that takes gave.
pub desk-batches : (run : RunConfig) (h : List Answered) → (desk_after run h).batches ≡ batches h
unfolding desk_after desk_of desk_events
desk-batches run h = ap length (event-sizes run.setup [] h)

-- ---- one more right answer

record AfterStep (run : RunConfig) (h : List Answered) (x : Answered) (told : List Attempt)
    (number last since : ℕ) (p : Progress) : Type 0 where
  told_is : attempts (h ++ x ∷ []) ≡ told
  number_is : batches (h ++ x ∷ []) ≡ number
  last_is : last_attempt (h ++ x ∷ []) ≡ last
  since_is : retry_moment (h ++ x ∷ []) ≡ since
  progress_is : progress (h ++ x ∷ []) ≡ p

tried-is : (run : RunConfig) (h : List Answered) (x : Answered) (told : List Attempt)
    (number last since : ℕ) (p : Progress)
    → AfterStep run h x told number last since p → TriedWith run.retry told number last since p
    → Tried run (h ++ x ∷ [])
tried-is run h x told number last since p s t =
    rw (s.told_is, s.number_is, s.last_is, s.since_is, s.progress_is) t

module _ (run : RunConfig) (h : List Answered) (x : Answered) (t : Tried run h) where
  abbrev number : ℕ
  number = batches h

  abbrev last : ℕ
  last = last_attempt h

  abbrev After : Type 0
  After = Tried run (h ++ x ∷ [])

  after-silent : IsSilent x.answer → After
  after-silent s =
      tried-is run h x (attempts h) number last (retry_moment h) (progress h)
      (record {
        told_is = attempts-none h x s.no_attempt;
        number_is = batches-none h x s.no_size;
        last_is = last_attempt-none h x s.no_number;
        since_is = moment-none h x s.no_moment;
        progress_is = progress-none h x s.no_progress;
      })
      t

  after-taken : (taken_number size : ℕ) → x.answer ≡ taken taken_number size → After
  after-taken taken_number size e =
      tried-is run h x (attempts h) (number + 1) 0 0 to_encode
      (record {
        told_is = attempts-none h x (ap attempt_by e);
        number_is = batches-some h x size (ap size_by e);
        last_is = last_attempt-some h x 0 (ap attempts_by e);
        since_is = moment-some h x 0 (ap moment_by e);
        progress_is = progress-some h x to_encode (ap progress_by e);
      })
      (on-take run.retry (attempts h) number last (retry_moment h) (progress h) t)

  after-encoded : (n size : ℕ) → x.answer ≡ encoded n size → progress h ≡ to_encode → After
  after-encoded n size e k =
      tried-is run h x (attempts h) number last (retry_moment h) to_send
      (record {
        told_is = attempts-none h x (ap attempt_by e);
        number_is = batches-none h x (ap size_by e);
        last_is = last_attempt-none h x (ap attempts_by e);
        since_is = moment-none h x (ap moment_by e);
        progress_is = progress-some h x to_send (ap progress_by e);
      })
      (on-encode run.retry (attempts h) number last (retry_moment h) (progress h) t k)

  after-sent : (attempt : ℕ) (outcome : Outcome) → x.answer ≡ sent number attempt outcome
      → attempt ≡ last + 1 → (1 ≤ run.retry.attempts → last + 1 ≤ run.retry.attempts) → After
  after-sent attempt outcome e k few =
      let f : x.answer ≡ sent number (last + 1) outcome = e ∙ ap (λ n. sent number n outcome) k in
      tried-is run h x
      (attempts h ++ record { number = number; attempt = last + 1; outcome = outcome } ∷ []) number
      (last + 1) (retry_moment h) (to_judge outcome)
      (record {
        told_is =
            attempts-some h x (record { number = number; attempt = last + 1; outcome = outcome })
            (ap attempt_by f);
        number_is = batches-none h x (ap size_by f);
        last_is = last_attempt-some h x (last + 1) (ap attempts_by f);
        since_is = moment-none h x (ap moment_by f);
        progress_is = progress-some h x (to_judge outcome) (ap progress_by f);
      })
      (on-sent run.retry (attempts h) number last (retry_moment h) (progress h) t outcome few)

  after-again : (n moment : ℕ) (outcome : Outcome) → x.answer ≡ replied n (again moment)
      → progress h ≡ to_judge outcome → last < run.retry.attempts → After
  after-again n moment outcome e k few =
      tried-is run h x (attempts h) number last moment (to_retry moment)
      (record {
        told_is = attempts-none h x (ap attempt_by e);
        number_is = batches-none h x (ap size_by e);
        last_is = last_attempt-none h x (ap attempts_by e);
        since_is = moment-some h x moment (ap moment_by e);
        progress_is = progress-some h x (to_retry moment) (ap progress_by e);
      })
      (on-again run.retry (attempts h) number last (retry_moment h)
      (progress h) t outcome k moment few)

  after-end : attempt_by x.answer ≡ None → size_by x.answer ≡ None → attempts_by x.answer ≡ None
      → moment_by x.answer ≡ None → progress_by x.answer ≡ Some not_out → After
  after-end a b c d e =
      tried-is run h x (attempts h) number last (retry_moment h) not_out
      (record {
        told_is = attempts-none h x a;
        number_is = batches-none h x b;
        last_is = last_attempt-none h x c;
        since_is = moment-none h x d;
        progress_is = progress-some h x not_out e;
      })
      (on-end run.retry (attempts h) number last (retry_moment h) (progress h) t)

  -- An attempt has the number after that of the last one.
  pub numbered : (step : Step) (sent_number attempt : ℕ) → Sends run h step sent_number attempt
      → attempt ≡ last + 1
  numbered step sent_number attempt (first e k) =
      let s : (last ≡ 0) × (retry_moment h ≡ 0) × (0 < number) =
      subst (TriedAt run.retry (attempts h) number last (retry_moment h)) e t.stands in
      let l = s.0 in omega (arith, l, k)
  numbered step sent_number attempt (later moment e k f) = k

  few : (step : Step) (sent_number attempt : ℕ) → Sends run h step sent_number attempt
      → 1 ≤ run.retry.attempts → last + 1 ≤ run.retry.attempts
  few step sent_number attempt (first e k) l =
      let s : (last ≡ 0) × (retry_moment h ≡ 0) × (0 < number) =
      subst (TriedAt run.retry (attempts h) number last (retry_moment h)) e t.stands in
      let z = s.0 in omega (arith, l, z)
  few step sent_number attempt (later moment e k f) l =
      let r : Retried run.retry last (retry_moment h) moment =
      subst (TriedAt run.retry (attempts h) number last (retry_moment h)) e t.stands in
      let fewer = r.few in omega (arith, fewer)

  replied-after : (n : ℕ) (next : Next) → x.answer ≡ replied n next
      → Told run h x.step (replied n next) → After
  replied-after n (again moment) e k =
      let r : Replies run h x.step (again moment) = k.1 in
      after-again n moment r.outcome e r.judged (r.few moment refl)
  replied-after n Next.done e k =
      after-end (ap attempt_by e) (ap size_by e) (ap attempts_by e) (ap moment_by e)
      (ap progress_by e)
  replied-after n (Next.partial rejected) e k =
      after-end (ap attempt_by e) (ap size_by e) (ap attempts_by e) (ap moment_by e)
      (ap progress_by e)
  replied-after n (give_up cause) e k =
      after-end (ap attempt_by e) (ap size_by e) (ap attempts_by e) (ap moment_by e)
      (ap progress_by e)

  after-step : Told run h x.step x.answer → After
  after-step k = by-answer (λ a. x.answer ≡ a → Told run h x.step a → After)
      (record {
        of_taken = λ n size e k. after-taken n size e;
        of_encoded = λ n size e k. after-encoded n size e k.0;
        of_dropped =
            λ n r e k. after-end (ap attempt_by e) (ap size_by e) (ap attempts_by e)
            (ap moment_by e) (ap progress_by e);
        of_sent =
            λ n attempt outcome e k. after-sent attempt outcome
            (e ∙ ap (λ (m : ℕ). sent m attempt outcome) (k.0 ∙ desk-batches run h))
            (numbered x.step n attempt k.1) (few x.step n attempt k.1);
        of_replied = replied-after;
        of_other = λ a s e k. after-silent (subst IsSilent (sym e) s);
      })
      run.setup x.answer refl k

-- Each right answer keeps what is kept of attempts.
pub tried-step : (run : RunConfig) (h : List Answered) (x : Answered) → Tried run h
    → IsAnswer run h x → Tried run (h ++ x ∷ [])
tried-step run h x t i = after-step run h x t (told run h x i)

-- What is kept of attempts holds before the first step.
pub tried-none : (run : RunConfig) → Tried run []
unfolding progress last_attempt retry_moment
tried-none run = record { stands = tt; counted = refl; below = tt; in_order = λ n. refl }

-- What is kept of attempts holds after right answers.
pub tried : (run : RunConfig) (h : List Answered) → AreAnswers run h → Tried run h
tried run h w = by-steps run (Tried run) (tried-step run) h (tried-none run) w

-- A batch that is to be sent again had an attempt.
pub was-tried : (run : RunConfig) (h : List Answered) → Tried run h → (moment : ℕ)
    → progress h ≡ to_retry moment → 0 < last_attempt h
was-tried run h t moment e =
    let r : Retried run.retry (last_attempt h) (retry_moment h) moment =
    subst
    (TriedAt run.retry (attempts h) (batches h) (last_attempt h) (retry_moment h)) e t.stands in
    r.some

-- ---- the laws

-- Each attempt has the number after those that its batch had.
pub attempts-are-numbered : OfRuns (λ run. AttemptsAreNumbered)
attempts-are-numbered run h w before rest x e number attempt outcome k =
    let t : Tried run before =
    tried run before (front run before (x ∷ rest) (subst (AreAnswers run) (sym e) w)) in
    let s =
    subst (Told run before x.step) k (told run before x (answer-at run h w before rest x e)) in
    numbered run before x t x.step number attempt s.1
    ∙ ap (λ (n : ℕ). n + 1)
    (sym
    (ap (λ (n : ℕ). length (attempts_of n before)) (s.0 ∙ desk-batches run before) ∙ t.counted))

-- The attempts of each batch are numbered from 1 on, in order.
pub attempts-are-in-order : OfRuns (λ run h. AreNumbered (attempts h))
attempts-are-in-order run h w = let t : Tried run h = tried run h w in t.in_order

-- A batch has at most as many attempts as are configured.
pub attempts-are-few : OfRuns (OfSettings AttemptsAreFew)
attempts-are-few run h w valid before rest x e number attempt outcome k =
    let t : Tried run before =
    tried run before (front run before (x ∷ rest) (subst (AreAnswers run) (sym e) w)) in
    let s =
    subst (Told run before x.step) k (told run before x (answer-at run h w before rest x e)) in
    let n : attempt ≡ last_attempt before + 1 = numbered run before x t x.step number attempt s.1 in
    let f : last_attempt before + 1 ≤ run.retry.attempts =
    few run before x t x.step number attempt s.1 valid.some in
    omega (arith, n, f)

-- No batch has more than five attempts.
pub attempts-are-five : OfRuns (OfSettings (λ run. AttemptsAreFiveAtMost))
attempts-are-five run h w valid before rest x e number attempt outcome k =
    let f : attempt ≤ run.retry.attempts =
    attempts-are-few run h w valid before rest x e number attempt outcome k in
    let five = valid.few in omega (arith, f, five)

-- No attempt comes before the moment that the last reply said.
pub no-attempt-is-early : OfRuns (λ run. NoAttemptIsEarly)
no-attempt-is-early run h w before rest x e now number attempt outcome i k =
    let t : Tried run before =
    tried run before (front run before (x ∷ rest) (subst (AreAnswers run) (sym e) w)) in
    let s =
    subst (Told run before x.step) k (told run before x (answer-at run h w before rest x e)) in
    by t s.1
  where
    by : Tried run before → Sends run before x.step number attempt → retry_moment before ≤ now
    by t (first p n) =
        let s : (last_attempt before ≡ 0) × (retry_moment before ≡ 0) × (0 < batches before) =
        subst (TriedAt run.retry (attempts before) (batches before) (last_attempt before)
        (retry_moment before))
        p t.stands in
        let z = s.1 in omega (arith, z)
    by t (later moment p n f) =
        let r : Retried run.retry (last_attempt before) (retry_moment before) moment =
        subst (TriedAt run.retry (attempts before) (batches before) (last_attempt before)
        (retry_moment before))
        p t.stands in
        let same = r.from_then in let l = f now i in omega (arith, same, l)

-- What follows from a reply is what follows from the outcome of the last attempt.
pub replies-are-decided : OfRuns RepliesAreDecided
replies-are-decided run h w before rest x e now word n next i k =
    let t : Tried run before =
    tried run before (front run before (x ∷ rest) (subst (AreAnswers run) (sym e) w)) in
    let s =
    subst (Told run before x.step) k (told run before x (answer-at run h w before rest x e)) in
    let r : Replies run before x.step next = s.1 in
    let j : Judged run.retry (attempts before) (batches before) (last_attempt before) r.outcome =
    subst (TriedAt run.retry (attempts before) (batches before) (last_attempt before)
    (retry_moment before))
    r.judged t.stands in (
      j.earlier,
      record { number = batches before; attempt = last_attempt before; outcome = r.outcome },
      j.ends,
      s.0 ∙ desk-batches run before,
      r.decided now word i,
    )

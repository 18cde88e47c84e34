-- The spans that were handed are those of the batches that were handed.
use Rattle.std.proofs.Common.{◌≡◌, refl, sym, ap, subst, ◌∙◌, ℕ, ◌+◌, ◌<◌, ◌≤◌, ◌==◌, nat_lt, arith}
use Rattle.std.proofs.Common.{map, List, [], ◌∷◌, ◌++◌, length, Bool, true, false, true≢false, cond}
use Rattle.std.proofs.Common.{◌||◌, ◌⊎◌, inl, inr, Option, Some, None, option_map, length-append}
use Rattle.std.specs.Prelude.{flat_map, if◌then◌else◌}
use Rattle.std.specs.Option.{option_to_list}
use Rattle.std.specs.List.{AllByRecursion, list_any}
use Rattle.std.proofs.lemmas.List.{append-nil, map-append}
use Rattle.std.proofs.lemmas.List.Elements.{filter_map-append}
use Rattle.std.proofs.lemmas.Grind.{flat_map-append}
use Rattle.std.proofs.lemmas.Bool.{eqb-true, eq-eqb, lt-ltb, le-ltb, cases_order}
use Rattle.model_span.specs.Attributes.{distinct_of}
use Rattle.model_span.specs.Dropped.{queue_full}
use Rattle.model_span.specs.Spans.{SpanData}
use Rattle.model_span.proofs.Lists.{distinct-more}
use Rattle.model_desk.specs.Retries.{Outcome, Next, Fate, fate_of}
use Rattle.model_desk.specs.Queue.{DeskEvent, size_of_take, batch_sizes, batch_spans, last_batch}
use Rattle.model_desk.specs.Queue.{spans_handed_by, handed_spans}
use Rattle.model_desk.specs.Queue as desk
use Rattle.model_desk.specs.Desks.{AreAllowed, desk_of}
use Rattle.model_desk.proofs.Lists.{gather-more}
use Rattle.model_run.proofs.Batches.{batches-stay, front-allowed}
use Rattle.model_run.specs.Steps.{Step}
use Rattle.model_run.specs.Runs.{Ended, queued, Answer, ended, sent, replied, Answered, ended_by}
use Rattle.model_run.specs.Runs.{event_by, desk_events}
use Rattle.model_run.specs.Answers.{RunConfig, last_attempt, desk_after, IsAnswer}
use Rattle.model_run.specs.Headline.{Attempt, attempt_by, attempts, attempts_with, batch_numbers}
use Rattle.model_run.proofs.More.{events-more, attempts-none, attempts-some}
use Rattle.model_run.specs.Laws.{OfRuns, IsAllowed, retry_moment, HandedAreTheBatches}
use Rattle.model_run.proofs.RightHistories.{by-steps}
use Rattle.model_run.proofs.Cases.{EventCases, by-event}
use Rattle.model_run.proofs.Attempts.{Tried, TriedAt, batches, desk-batches, Sends, Retried, Told}
use Rattle.model_run.proofs.Attempts.{told, numbered}
use Rattle.model_run.proofs.Steps.{Accounts, accounts-step, accounts-none}

-- ---- lists

-- each number is that of one of the first `most` batches
abbrev AreBatches : ℕ → List ℕ → Type 0
AreBatches most numbers = AllByRecursion (λ (n : ℕ). (0 < n) × (n ≤ most)) numbers

batches-more : (most more : ℕ) (numbers : List ℕ) → most ≤ more → AreBatches most numbers
    → AreBatches more numbers
batches-more most more [] l b = tt
batches-more most more (n ∷ numbers) l b =
    ((b.0.0, let m = b.0.1 in omega (arith, m, l)), batches-more most more numbers l b.1)

batches-push : (most n : ℕ) (numbers : List ℕ) → AreBatches most numbers → 0 < n → n ≤ most
    → AreBatches most (numbers ++ n ∷ [])
batches-push most n [] b p l = ((p, l), tt)
batches-push most n (m ∷ numbers) b p l = (b.0, batches-push most n numbers b.1 p l)

same-spans : (f g : ℕ → List SpanData) (most : ℕ) → ((n : ℕ) → 0 < n → n ≤ most → f n ≡ g n)
    → (numbers : List ℕ) → AreBatches most numbers → flat_map f numbers ≡ flat_map g numbers
same-spans f g most e [] b = refl
same-spans f g most e (n ∷ numbers) b =
    (λ i. e n b.0.0 b.0.1 i ++ same-spans f g most e numbers b.1 i)

last-grows : (events more : List DeskEvent) → last_batch events ≤ last_batch (events ++ more)
last-grows events more =
    let n : last_batch (events ++ more) ≡ last_batch events + length (batch_sizes more) =
    ap length (filter_map-append size_of_take events more)
    ∙ length-append (batch_sizes events) (batch_sizes more) in
    omega (arith, n)

-- ---- what an answer hands over

abbrev hands : List DeskEvent → Option DeskEvent → List SpanData
hands events None = []
hands events (Some y) = spans_handed_by events y

handed-more : (events : List DeskEvent) (o : Option DeskEvent)
    → handed_spans (events ++ option_to_list o) ≡ handed_spans events ++ hands events o
handed-more events None =
    ap handed_spans (append-nil events) ∙ sym (append-nil (handed_spans events))
handed-more events (Some y) = gather-more spans_handed_by events y

-- An answer hands over nothing, or nothing since the batch had been handed over, or the last batch.
data Hands (events : List DeskEvent) (a : Answer) (o : Option DeskEvent) : Type 0 where
  none : attempt_by a ≡ None → hands events o ≡ [] → Hands events a o
  again : (number attempt : ℕ) (outcome : Outcome) → a ≡ sent number attempt outcome
      → hands events o ≡ [] → (attempt ≡ 1 → ⊥) → Hands events a o
  batch : (number attempt : ℕ) (outcome : Outcome) → a ≡ sent number attempt outcome
      → o ≡ Some desk.handed → attempt ≡ 1 → Hands events a o

hands-are : (events : List DeskEvent) (step : Step) → EventCases step (Hands events)
hands-are events step = record {
  of_queued = queued-hands;
  of_full = full-hands;
  of_late = none refl refl;
  of_flush = none refl refl;
  of_shutdown = none refl refl;
  of_taken = λ n size. none refl refl;
  of_encoded = λ n size. none refl refl;
  of_dropped = λ n r. none refl refl;
  of_sent = λ n attempt outcome. sent-hands n attempt outcome (attempt == 1) refl;
  of_replied = λ n next. settled-hands n next (fate_of next);
  of_other = λ a s. none s.no_attempt refl;
}
  where
    queued-hands : (n : ℕ) (o : Option SpanData)
        → Hands events (ended (queued n)) (option_map desk.queued o)
    queued-hands n None = none refl refl
    queued-hands n (Some s) = none refl refl

    full-hands : (n : ℕ) (o : Option SpanData)
        → Hands events (ended (Ended.dropped n queue_full)) (option_map desk.full o)
    full-hands n None = none refl refl
    full-hands n (Some s) = none refl refl

    settled-hands : (number : ℕ) (next : Next) (o : Option Fate)
        → Hands events (replied number next) (option_map desk.settled o)
    settled-hands number next None = none refl refl
    settled-hands number next (Some f) = none refl refl

    sent-hands : (number attempt : ℕ) (outcome : Outcome) (b : Bool) → (attempt == 1) ≡ b
        → Hands events (sent number attempt outcome) (if b then Some desk.handed else None)
    sent-hands number attempt outcome true e =
        batch number attempt outcome refl refl (eqb-true attempt 1 e)
    sent-hands number attempt outcome false e =
        again number attempt outcome refl refl (λ one. true≢false (sym (eq-eqb attempt 1 one) ∙ e))

-- ---- the numbers of the batches

-- A batch has its number among those of the attempts just where it had an attempt.
among : (n : ℕ) (told : List Attempt)
    → list_any (λ m. m == n) (map (λ (a : Attempt). a.number) told)
    ≡ nat_lt 0 (length (attempts_with n told))
among n [] = refl
among n (a ∷ told) = by (a.number == n) (among n told)
  where
    by : (b : Bool)
        → list_any (λ m. m == n) (map (λ (a : Attempt). a.number) told)
        ≡ nat_lt 0 (length (attempts_with n told))
        → (b || list_any (λ m. m == n) (map (λ (a : Attempt). a.number) told))
        ≡ nat_lt 0 (length (cond b (a ∷ attempts_with n told) (attempts_with n told)))
    by true e = sym (lt-ltb 0 (length (a ∷ attempts_with n told)) (omega arith))
    by false e = e

numbers-more : (told : List Attempt) (a : Attempt)
    → batch_numbers (told ++ a ∷ [])
    ≡ cond (nat_lt 0 (length (attempts_with a.number told))) (batch_numbers told)
    (batch_numbers told ++ a.number ∷ [])
numbers-more told a =
    ap (distinct_of (λ n m. n == m)) (map-append (λ (b : Attempt). b.number) told (a ∷ []))
    ∙ distinct-more (λ n m. n == m) (map (λ (b : Attempt). b.number) told) a.number
    ∙ ap (λ b. cond b (batch_numbers told) (batch_numbers told ++ a.number ∷ []))
    (among a.number told)

-- ---- one more right answer

record HandedOver (run : RunConfig) (h : List Answered) : Type 0 where
  all : Accounts run h
  numbers : AreBatches (last_batch (desk_events run.setup h)) (batch_numbers (attempts h))
  spans : IsAllowed run h → HandedAreTheBatches run.setup h (attempts h)

module _ (run : RunConfig) (h : List Answered) (x : Answered) (p : HandedOver run h)
    (right : IsAnswer run h x) where
  abbrev events : List DeskEvent
  events = desk_events run.setup h

  abbrev event : Option DeskEvent
  event = event_by run.setup h x.answer x.step

  abbrev numbers : List ℕ
  numbers = batch_numbers (attempts h)

  was-so : Tried run h
  was-so = p.all.1

  all-after : Accounts run (h ++ x ∷ [])
  all-after = accounts-step run h x p.all right

  grows : desk_events run.setup (h ++ x ∷ []) ≡ events ++ option_to_list event
  grows = events-more run.setup h x event refl

  -- What was done at the queue before the step is allowed too.
  was-allowed : IsAllowed run (h ++ x ∷ []) → IsAllowed run h
  was-allowed l =
      front-allowed run.desk 0 events (option_to_list event) (subst (AreAllowed run.desk 0) grows l)

  allowed-after : IsAllowed run (h ++ x ∷ [])
      → AreAllowed run.desk 0 (events ++ option_to_list event)
  allowed-after l = subst (AreAllowed run.desk 0) grows l

  stays : IsAllowed run (h ++ x ∷ []) → (n : ℕ) → 0 < n → n ≤ last_batch events
      → batch_spans events n ≡ batch_spans (events ++ option_to_list event) n
  stays l n some few =
      sym (batches-stay run.desk 0 events (option_to_list event) n (allowed-after l) some few)

  -- The batches before the step have their spans still.
  before : IsAllowed run (h ++ x ∷ [])
      → handed_spans events ≡ flat_map (batch_spans (events ++ option_to_list event)) numbers
  before l =
      p.spans (was-allowed l)
      ∙ same-spans (batch_spans events) (batch_spans (events ++ option_to_list event))
      (last_batch events) (stays l) numbers p.numbers

  abbrev After : Type 0
  After = HandedOver run (h ++ x ∷ [])

  after-with : (later : List ℕ) → batch_numbers (attempts (h ++ x ∷ [])) ≡ later
      → AreBatches (last_batch events) later
      → (IsAllowed run (h ++ x ∷ [])
      → handed_spans events ++ hands events event
      ≡ flat_map (batch_spans (events ++ option_to_list event)) later)
      → After
  after-with later same are e =
      let grown : last_batch events ≤ last_batch (events ++ option_to_list event) =
      last-grows events (option_to_list event) in
      record {
        all = all-after;
        numbers =
            rw (grows, same)
            (batches-more (last_batch events)
            (last_batch (events ++ option_to_list event)) later grown are);
        spans =
            λ l. ap handed_spans grows ∙ handed-more events event ∙ e l
            ∙ (λ i. flat_map (batch_spans (sym grows i)) (sym same i));
      }

  after-none : batch_numbers (attempts (h ++ x ∷ [])) ≡ numbers → hands events event ≡ [] → After
  after-none e f =
      after-with numbers e p.numbers
      (λ l. ap (λ s. handed_spans events ++ s) f ∙ append-nil (handed_spans events) ∙ before l)

  after-batch : (number : ℕ) → batch_numbers (attempts (h ++ x ∷ [])) ≡ numbers ++ number ∷ []
      → event ≡ Some desk.handed → number ≡ last_batch events → 0 < number → After
  after-batch number e f n some =
      after-with (numbers ++ number ∷ []) e
      (batches-push (last_batch events) number numbers p.numbers some (omega (arith, n)))
      (λ l.
      ap (λ o. handed_spans events ++ hands events o) f
      ∙ (λ i. before l i
      ++ (ap (batch_spans events) (sym n) ∙ stays l number some (omega (arith, n))
      ∙ sym (append-nil (batch_spans (events ++ option_to_list event) number)))
      i)
      ∙ sym (flat_map-append (batch_spans (events ++ option_to_list event)) numbers (number ∷ [])))

  -- The desk numbers its last batch as the events do.
  is-last : (desk_after run h).batches ≡ last_batch events
  unfolding desk_after desk_of
  is-last = refl

  some-batch : (step : Step) (number attempt : ℕ) → Sends run h step number attempt → attempt ≡ 1
      → 0 < batches h
  some-batch step number attempt (Sends.first at one) e =
      let s : (last_attempt h ≡ 0) × (retry_moment h ≡ 0) × (0 < batches h) =
      subst (TriedAt run.retry (attempts h) (batches h) (last_attempt h) (retry_moment h)) at
      was-so.stands in
      s.2
  some-batch step number attempt (Sends.later moment at next due) e =
      let r : Retried run.retry (last_attempt h) (retry_moment h) moment =
      subst (TriedAt run.retry (attempts h) (batches h) (last_attempt h) (retry_moment h)) at
      was-so.stands in
      let some = r.some in absurd (omega (arith, some, next, e))

  -- an attempt of the last batch, after those that it had
  module _ (number attempt : ℕ) (outcome : Outcome)
      (a : x.answer ≡ sent number attempt outcome) where
    abbrev this : Attempt
    this = record { number = number; attempt = attempt; outcome = outcome }

    said : Told run h x.step (sent number attempt outcome)
    said = subst (Told run h x.step) a (told run h x right)

    own : number ≡ batches h
    own = let s = said in s.0 ∙ desk-batches run h

    -- The attempt's number is one more than its batch had attempts before.
    had : length (attempts_with number (attempts h)) + 1 ≡ attempt
    had =
        let s = said in
        let l : attempt ≡ last_attempt h + 1 = numbered run h x was-so x.step number attempt s.1 in
        let c : length (attempts_with (batches h) (attempts h)) ≡ last_attempt h = was-so.counted in
        let same : length (attempts_with number (attempts h))
        ≡ length (attempts_with (batches h) (attempts h)) =
        ap (λ (n : ℕ). length (attempts_with n (attempts h))) own in
        omega (arith, l, c, same)

    numbers-after : (b : Bool) → nat_lt 0 (length (attempts_with number (attempts h))) ≡ b
        → batch_numbers (attempts (h ++ x ∷ [])) ≡ cond b numbers (numbers ++ number ∷ [])
    numbers-after b e =
        ap batch_numbers (attempts-some h x this (ap attempt_by a)) ∙ numbers-more (attempts h) this
        ∙ ap (λ c. cond c numbers (numbers ++ number ∷ [])) e

    after-again : hands events event ≡ [] → (attempt ≡ 1 → ⊥) → After
    after-again f more =
        after-none (numbers-after true
        (lt-ltb 0 (length (attempts_with number (attempts h)))
        (some (cases_order 0 (length (attempts_with number (attempts h)))))))
        f
      where
        some : (0 ≡ length (attempts_with number (attempts h)))
            ⊎ ((0 < length (attempts_with number (attempts h)))
            ⊎ (length (attempts_with number (attempts h)) < 0))
            → 0 < length (attempts_with number (attempts h))
        some (inl e) = let m = had in absurd (more (omega (arith, m, e)))
        some (inr (inl l)) = l
        some (inr (inr l)) = absurd (omega (arith, l))

    after-first : event ≡ Some desk.handed → attempt ≡ 1 → After
    after-first f one =
        let s = said in
        let m = had in
        let b = own in
        let some : 0 < batches h = some-batch x.step number attempt s.1 one in
        after-batch number
        (numbers-after false
        (le-ltb 0 (length (attempts_with number (attempts h))) (omega (arith, m, one))))
        f
        (s.0 ∙ is-last) (omega (arith, b, some))

  after : Hands events x.answer event → After
  after (none e f) = after-none (ap batch_numbers (attempts-none h x e)) f
  after (again number attempt outcome a f more) = after-again number attempt outcome a f more
  after (batch number attempt outcome a f one) = after-first number attempt outcome a f one

handed-step : (run : RunConfig) (h : List Answered) (x : Answered) → HandedOver run h
    → IsAnswer run h x → HandedOver run (h ++ x ∷ [])
handed-step run h x p right =
    after run h x p right
    (by-event run.setup h x.step (Hands (desk_events run.setup h))
    (hands-are (desk_events run.setup h) x.step) x.answer)

handed-first : (run : RunConfig) → HandedOver run []
unfolding desk_events ended_by
handed-first run = record { all = accounts-none run; numbers = tt; spans = λ l. refl }

-- The spans that were handed are those of the batches that had an attempt.
pub handed-are-the-batches : OfRuns (λ run history.
    IsAllowed run history → HandedAreTheBatches run.setup history (attempts history))
handed-are-the-batches run h w =
    let p : HandedOver run h =
    by-steps run (HandedOver run) (handed-step run) h (handed-first run) w in
    p.spans

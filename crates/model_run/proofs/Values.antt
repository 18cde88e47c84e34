-- The spans that wait, are in batches or were dropped are those that ended.
use Rattle.std.proofs.Common.{◌≡◌, refl, sym, ap, ◌∙◌, ℕ, zero, suc, List, [], ◌∷◌, ◌++◌, take}
use Rattle.std.proofs.Common.{drop, map, Bool, true, false, true≢false, cond, not, ◌||◌, Option}
use Rattle.std.proofs.Common.{Some, None, slice_get, option_map, filter_map}
use Rattle.std.specs.Prelude.{◌==◌, if◌then◌else◌, unwrap_or}
use Rattle.std.specs.List.{list_any, take_while, AllByRecursion, cons_option}
use Rattle.std.proofs.lemmas.List.Sums.{take_while-cons}
use Rattle.model_span.specs.Dropped.{Reason, queue_full, Entry, entry_of}
use Rattle.model_span.specs.Spans.{SpanData}
use Rattle.model_desk.specs.Queue.{DeskEvent, popped, popped_lost, is_popped, is_popped_lost}
use Rattle.model_desk.specs.Queue.{ticket_of, taken_count, accepted_spans, batch_sizes, slices}
use Rattle.model_desk.specs.Queue.{batch_spans, last_spans, last_batch, waiting_spans, gather}
use Rattle.model_desk.specs.Queue.{entries_by, losses_by, loss_reason, named_as}
use Rattle.model_desk.specs.Queue as desk
use Rattle.model_desk.specs.Desks.{desk_of}
use Rattle.model_desk.proofs.Lists.{all-append}
use Rattle.model_run.proofs.Ledgers.{ledger-names, lost-names-all}
use Rattle.model_run.specs.Steps.{Step, is_shutdown}
use Rattle.model_run.specs.History.{Setup, span_step, ended_spans, granted_steps}
use Rattle.model_run.specs.Runs.{Answered, is_refused, span_steps, before_shutdown, ended_by}
use Rattle.model_run.specs.Runs.{event_by, events_after, desk_events}
use Rattle.model_run.specs.Answers.{RunConfig, desk_after}
use Rattle.model_desk.specs.Retries.{Fate, fate_of}
use Rattle.model_run.specs.Laws.{OfHistories, IsEndedSpan, NamesEndedSpan, WaitingAreEnded}
use Rattle.model_run.specs.Laws.{BatchesAreEnded, DropsNameEnded, EndedByTheSteps, LossesNameEnded}
use Rattle.model_run.specs.Laws.{LedgerNamesTheDropped, LedgerNamesTheLost}
use Rattle.model_run.proofs.Cases.{EventCases, by-event}

-- ---- lists of which all have a property

module _ {A : Type 0} (P : A → Type 0) where
  all-take : (n : ℕ) (xs : List A) → AllByRecursion P xs → AllByRecursion P (take n xs)
  all-take zero xs a = tt
  all-take (suc n) [] a = tt
  all-take (suc n) (x ∷ xs) a = (a.0, all-take n xs a.1)

  all-drop : (n : ℕ) (xs : List A) → AllByRecursion P xs → AllByRecursion P (drop n xs)
  all-drop zero xs a = a
  all-drop (suc n) [] a = tt
  all-drop (suc n) (x ∷ xs) a = all-drop n xs a.1

  all-slice : (ns : List ℕ) (xs : List A) (i : ℕ) → AllByRecursion P xs
      → AllByRecursion P (unwrap_or (slice_get (slices ns xs) i) [])
  all-slice [] xs i a = tt
  all-slice (n ∷ ns) xs zero a = all-take n xs a
  all-slice (n ∷ ns) xs (suc i) a = all-slice ns (drop n xs) i (all-drop n xs a)

-- ---- events whose spans have a property

module _ (P : SpanData → Type 0) where
  abbrev pub Has : DeskEvent → Type 0
  Has (desk.queued s) = P s
  Has (desk.full s) = P s
  Has _ = Unit {0}

  accepted-have : (es : List DeskEvent) → AllByRecursion Has es
      → AllByRecursion P (accepted_spans es)
  accepted-have [] a = tt
  accepted-have (desk.queued s ∷ es) a = (a.0, accepted-have es a.1)
  accepted-have (desk.full s ∷ es) a = accepted-have es a.1
  accepted-have (desk.late ∷ es) a = accepted-have es a.1
  accepted-have (desk.flush ∷ es) a = accepted-have es a.1
  accepted-have (desk.shutdown ∷ es) a = accepted-have es a.1
  accepted-have (desk.taken now size ∷ es) a = accepted-have es a.1
  accepted-have (desk.handed ∷ es) a = accepted-have es a.1
  accepted-have (desk.dropped r ∷ es) a = accepted-have es a.1
  accepted-have (desk.settled f ∷ es) a = accepted-have es a.1
  accepted-have (popped ∷ es) a = accepted-have es a.1
  accepted-have (popped_lost ∷ es) a = accepted-have es a.1

  waiting-have : (es : List DeskEvent) → AllByRecursion Has es → AllByRecursion P (waiting_spans es)
  waiting-have es a = all-drop P (taken_count es) (accepted_spans es) (accepted-have es a)

  batch-has : (es : List DeskEvent) (number : ℕ) → AllByRecursion Has es
      → AllByRecursion P (batch_spans es number)
  batch-has es zero a = tt
  batch-has es (suc n) a = all-slice P (batch_sizes es) (accepted_spans es) n (accepted-have es a)

  -- The entries of dropped and lost spans have a property that names of such spans have.
  module _ (Q : Entry → Type 0) (names : (r : Reason) (s : SpanData) → P s → Q (entry_of r s)) where
    entries-have : (r : Reason) (ss : List SpanData) → AllByRecursion P ss
        → AllByRecursion Q (map (entry_of r) ss)
    entries-have r [] a = tt
    entries-have r (s ∷ ss) a = (names r s a.0, entries-have r ss a.1)

    drop-names : (before : List DeskEvent) (x : DeskEvent) → AllByRecursion Has before → Has x
        → AllByRecursion Q (entries_by before x)
    drop-names before (desk.full s) b h = (names queue_full s h, tt)
    drop-names before (desk.dropped r) b h =
        entries-have r (last_spans before) (batch-has before (last_batch before) b)
    drop-names before (desk.queued s) b h = tt
    drop-names before desk.late b h = tt
    drop-names before desk.flush b h = tt
    drop-names before desk.shutdown b h = tt
    drop-names before (desk.taken now size) b h = tt
    drop-names before desk.handed b h = tt
    drop-names before (desk.settled f) b h = tt
    drop-names before popped b h = tt
    drop-names before popped_lost b h = tt

    lost-have : (o : Option Reason) (ss : List SpanData) → AllByRecursion P ss
        → AllByRecursion Q (named_as o ss)
    lost-have None ss a = tt
    lost-have (Some r) ss a = entries-have r ss a

    loss-names : (before : List DeskEvent) (x : DeskEvent) → AllByRecursion Has before → Has x
        → AllByRecursion Q (losses_by before x)
    loss-names before (desk.settled f) b h =
        lost-have (loss_reason f) (last_spans before) (batch-has before (last_batch before) b)
    loss-names before (desk.queued s) b h = tt
    loss-names before (desk.full s) b h = tt
    loss-names before desk.late b h = tt
    loss-names before desk.flush b h = tt
    loss-names before desk.shutdown b h = tt
    loss-names before (desk.taken now size) b h = tt
    loss-names before desk.handed b h = tt
    loss-names before (desk.dropped r) b h = tt
    loss-names before popped b h = tt
    loss-names before popped_lost b h = tt

    -- All gathered names have the property where those that each event adds have it.
    gather-names : (adds : List DeskEvent → DeskEvent → List Entry)
        → ((before : List DeskEvent) (x : DeskEvent) → AllByRecursion Has before → Has x
        → AllByRecursion Q (adds before x))
        → (before es : List DeskEvent) → AllByRecursion Has before → AllByRecursion Has es
        → AllByRecursion Q (gather adds before es)
    gather-names adds each before [] b a = tt
    gather-names adds each before (x ∷ es) b a =
        all-append Q (adds before x) (gather adds (before ++ x ∷ []) es) (each before x b a.0)
        (gather-names adds each (before ++ x ∷ []) es
        (all-append Has before (x ∷ []) b (a.0, tt)) a.1)

-- ---- one more event, and more ended spans

all-map : {A : Type 0} (P Q : A → Type 0) → ((x : A) → P x → Q x) → (xs : List A)
    → AllByRecursion P xs → AllByRecursion Q xs
all-map P Q go [] a = tt
all-map P Q go (x ∷ xs) a = (go x a.0, all-map P Q go xs a.1)

has-map : (P Q : SpanData → Type 0) → ((s : SpanData) → P s → Q s) → (y : DeskEvent) → Has P y
    → Has Q y
has-map P Q go (desk.queued s) h = go s h
has-map P Q go (desk.full s) h = go s h
has-map P Q go desk.late h = tt
has-map P Q go desk.flush h = tt
has-map P Q go desk.shutdown h = tt
has-map P Q go (desk.taken now size) h = tt
has-map P Q go desk.handed h = tt
has-map P Q go (desk.dropped r) h = tt
has-map P Q go (desk.settled f) h = tt
has-map P Q go popped h = tt
has-map P Q go popped_lost h = tt

-- An event that gives no ticket has any property of its span, since it has no span.
pub has-no-ticket : (P : SpanData → Type 0) (y : DeskEvent) → ticket_of y ≡ None → Has P y
has-no-ticket P (desk.queued s) e = cc
has-no-ticket P (desk.full s) e = cc
has-no-ticket P desk.late e = tt
has-no-ticket P desk.flush e = tt
has-no-ticket P desk.shutdown e = tt
has-no-ticket P (desk.taken now size) e = tt
has-no-ticket P desk.handed e = tt
has-no-ticket P (desk.dropped r) e = tt
has-no-ticket P (desk.settled f) e = tt
has-no-ticket P popped e = tt
has-no-ticket P popped_lost e = tt

-- The spans of the events are among these ended spans, each at its ticket.
abbrev pub AreOf : List SpanData → List DeskEvent → Type 0
AreOf ended es = AllByRecursion (Has (λ s. slice_get ended s.ticket ≡ Some s)) es

-- Events that speak only of ended spans still do so after one more such event.
pub are-push : (ended : List SpanData) (es : List DeskEvent) (y : DeskEvent) → AreOf ended es
    → Has (λ s. slice_get ended s.ticket ≡ Some s) y → AreOf ended (es ++ y ∷ [])
are-push ended es y a h =
    all-append (Has (λ s. slice_get ended s.ticket ≡ Some s)) es (y ∷ []) a (h, tt)

get-stays : (xs ys : List SpanData) (n : ℕ) (s : SpanData) → slice_get xs n ≡ Some s
    → slice_get (xs ++ ys) n ≡ Some s
get-stays [] ys n s e = cc
get-stays (x ∷ xs) ys zero s e = e
get-stays (x ∷ xs) ys (suc n) s e = get-stays xs ys n s e

-- Events that speak only of ended spans still do so where more spans have ended.
pub are-more : (ended more : List SpanData) (es : List DeskEvent) → AreOf ended es
    → AreOf (ended ++ more) es
are-more ended more es a =
    all-map (Has (λ s. slice_get ended s.ticket ≡ Some s))
    (Has (λ s. slice_get (ended ++ more) s.ticket ≡ Some s))
    (has-map (λ s. slice_get ended s.ticket ≡ Some s)
    (λ s. slice_get (ended ++ more) s.ticket ≡ Some s) (λ s e. get-stays ended more s.ticket s e))
    es a

-- ---- what waits, is in batches, or was dropped

module _ (setup : Setup) (h : List Answered)
    (a : AreOf (ended_by setup h) (desk_events setup h)) where
  named : (r : Reason) (s : SpanData) → IsEndedSpan setup h s
      → NamesEndedSpan setup h (entry_of r s)
  named r s e = (s, e, refl)

  -- The waiting spans are ended spans where the events speak only of these.
  pub waiting-are-ended : WaitingAreEnded setup h
  waiting-are-ended = waiting-have (IsEndedSpan setup h) (desk_events setup h) a

  -- The spans of each batch are ended spans where the events speak only of these.
  pub batches-are-ended : BatchesAreEnded setup h
  batches-are-ended number = batch-has (IsEndedSpan setup h) (desk_events setup h) number a

  -- The names of dropped spans are those of ended spans where the events speak only of these.
  pub drops-name-ended : DropsNameEnded setup h
  drops-name-ended =
      gather-names (IsEndedSpan setup h) (NamesEndedSpan setup h) named entries_by
      (drop-names (IsEndedSpan setup h) (NamesEndedSpan setup h) named) []
      (desk_events setup h) tt a

  -- The names of lost spans are those of ended spans where the events speak only of these.
  pub losses-name-ended : LossesNameEnded setup h
  losses-name-ended =
      gather-names (IsEndedSpan setup h) (NamesEndedSpan setup h) named losses_by
      (loss-names (IsEndedSpan setup h) (NamesEndedSpan setup h) named) []
      (desk_events setup h) tt a

-- ---- the ledgers

abbrev NotPopped : Option DeskEvent → Type 0
NotPopped None = Unit {0}
NotPopped (Some y) = (is_popped y ≡ false) × (is_popped_lost y ≡ false)

never-popped : (step : Step) → EventCases step (λ a o. NotPopped o)
never-popped step = record {
  of_queued = λ n o. by-queued o;
  of_full = λ n o. by-full o;
  of_late = (refl, refl);
  of_flush = (refl, refl);
  of_shutdown = (refl, refl);
  of_taken = λ n s. (refl, refl);
  of_encoded = λ n s. tt;
  of_dropped = λ n r. (refl, refl);
  of_sent = λ n attempt outcome. by-handed (attempt == 1);
  of_replied = λ n next. by-settled (fate_of next);
  of_other = λ a s. tt;
}
  where
    by-queued : (o : Option SpanData) → NotPopped (option_map desk.queued o)
    by-queued None = tt
    by-queued (Some s) = (refl, refl)

    by-full : (o : Option SpanData) → NotPopped (option_map desk.full o)
    by-full None = tt
    by-full (Some s) = (refl, refl)

    by-handed : (b : Bool) → NotPopped (if b then Some desk.handed else None)
    by-handed true = (refl, refl)
    by-handed false = tt

    by-settled : (o : Option Fate) → NotPopped (option_map desk.settled o)
    by-settled None = tt
    by-settled (Some f) = (refl, refl)

-- No step of a history takes a name off a ledger.
events-pop-none : (pops : DeskEvent → Bool)
    → ((o : Option DeskEvent) → NotPopped o → (y : DeskEvent) → o ≡ Some y → pops y ≡ false)
    → (setup : Setup) (before h : List Answered)
    → list_any pops (events_after setup before h) ≡ false
events-pop-none pops none setup before [] = refl
events-pop-none pops none setup before (x ∷ h) =
    by (event_by setup before x.answer x.step)
    (by-event setup before x.step (λ a o. NotPopped o) (never-popped x.step) x.answer)
    (events-pop-none pops none setup (before ++ x ∷ []) h)
  where
    by : (o : Option DeskEvent) → NotPopped o
        → list_any pops (events_after setup (before ++ x ∷ []) h) ≡ false
        → list_any pops (cons_option o (events_after setup (before ++ x ∷ []) h)) ≡ false
    by None p rest = rest
    by (Some y) p rest = rw (none (Some y) p y refl, rest) refl

not-popped : (o : Option DeskEvent) → NotPopped o → (y : DeskEvent) → o ≡ Some y
    → is_popped y ≡ false
not-popped None p y e = cc
not-popped (Some z) p y e = let same : z ≡ y = cc in ap is_popped (sym same) ∙ p.0

not-popped-lost : (o : Option DeskEvent) → NotPopped o → (y : DeskEvent) → o ≡ Some y
    → is_popped_lost y ≡ false
not-popped-lost None p y e = cc
not-popped-lost (Some z) p y e = let same : z ≡ y = cc in ap is_popped_lost (sym same) ∙ p.1

-- The ledger names the spans that were dropped, the newest first.
pub ledger-names-the-dropped : (run : RunConfig) (h : List Answered) → LedgerNamesTheDropped run h
unfolding desk_after desk_of desk_events
ledger-names-the-dropped run h =
    ledger-names (events_after run.setup [] h) (events-pop-none is_popped not-popped run.setup [] h)

-- The second ledger names the spans that were lost, the newest first.
pub ledger-names-the-lost : (run : RunConfig) (h : List Answered) → LedgerNamesTheLost run h
unfolding desk_after desk_of desk_events
ledger-names-the-lost run h =
    lost-names-all (events_after run.setup [] h)
    (events-pop-none is_popped_lost not-popped-lost run.setup [] h)

-- ---- without refusals

granted : (h : List Answered) → list_any (λ x. is_refused x.answer) h ≡ false
    → span_steps (before_shutdown h) ≡ granted_steps (map (λ x. x.step) h)
granted [] e = refl
granted (x ∷ h) e =
    ap span_steps (take_while-cons (λ x. not (is_shutdown x.step)) x h)
    ∙ by (is_shutdown x.step) (is_refused x.answer) refl (granted h) e
    ∙ sym (ap (filter_map (span_step false))
    (take_while-cons (λ s. not (is_shutdown s)) x.step (map (λ x. x.step) h)))
  where
    by : (b r : Bool) → is_refused x.answer ≡ r
        → (list_any (λ x. is_refused x.answer) h ≡ false
        → span_steps (before_shutdown h) ≡ granted_steps (map (λ x. x.step) h))
        → (r || list_any (λ x. is_refused x.answer) h) ≡ false
        → span_steps (cond (not b) (x ∷ before_shutdown h) [])
        ≡ filter_map (span_step false)
        (cond (not b) (x.step ∷ take_while (λ s. not (is_shutdown s)) (map (λ x. x.step) h)) [])
    by b true q rest k = absurd (true≢false k)
    by true false q rest k = refl
    by false false q rest k = (λ i. cons_option (span_step (q i) x.step) (rest k i))

-- Where no memory was refused, the spans that end are those that the steps end.
pub ended-by-the-steps : OfHistories EndedByTheSteps
unfolding ended_by
ended-by-the-steps setup h e = ap (ended_spans setup) (granted h e)

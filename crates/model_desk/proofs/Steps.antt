-- One more event: what a desk then shows.
use Rattle.std.proofs.Common.{◌≡◌, refl, sym, ap, ◌∙◌, subst, ℕ, ◌+◌, ◌≤◌, min, arith, List}
use Rattle.std.proofs.Common.{[], ◌∷◌, ◌++◌, length, take, drop, append_assoc, Bool, true, false}
use Rattle.std.proofs.Common.{cond, ◌||◌, Some, None, length-drop, length-append}
use Rattle.std.specs.Prelude.{if◌then◌else◌, sum}
use Rattle.std.specs.List.{list_any, filter_map}
use Rattle.std.proofs.lemmas.List.{append-nil, drop-append-le, drop-drop}
use Rattle.model_span.specs.Attributes.{last_or}
use Rattle.model_span.specs.Spans.{SpanData}
use Rattle.model_span.specs.Dropped.{Entry}
use Rattle.model_desk.specs.Queue.{DeskEvent, queued, full, late, flush, shutdown, taken, handed}
use Rattle.model_desk.specs.Queue.{dropped, settled, popped, popped_lost, gather, ticket_of}
use Rattle.model_desk.specs.Queue.{tickets, queued_span, accepted_spans, size_of_take, batch_sizes}
use Rattle.model_desk.specs.Queue.{taken_count, waiting_spans, last_batch, last_spans, last_size}
use Rattle.model_desk.specs.Queue.{Stage, not_out, stage_by, stage, spans_handed_by, handed_spans}
use Rattle.model_desk.specs.Queue.{entries_by, drops, stack_on, stack_steps, stack_of, asks}
use Rattle.model_desk.specs.Queue.{marks_by, asked_count, is_shutdown}
use Rattle.model_desk.specs.Desks.{DeskConfig, desk_of, Allowed, AreAllowedAfter, AreAllowed}
use Rattle.model_desk.proofs.Lists.{none-more, some-more, last-more, any-more, sum-more}
use Rattle.model_desk.proofs.Lists.{gather-more, stack-append, push_as, drop_as, pushed-after}
use Rattle.model_desk.proofs.Lists.{drop-after, last_slice, last-slice-stays, last-slice-more}
use Rattle.model_desk.proofs.Lists.{length-last-slice}

-- ---- what an event leaves as it was

abbrev pub IsWithin : List DeskEvent → Type 0
IsWithin h = taken_count h ≤ length (accepted_spans h)

module _ (h : List DeskEvent) (x : DeskEvent) where
  -- An event that is no take leaves the batches' sizes as they were.
  pub sizes-kept : size_of_take x ≡ None → batch_sizes (h ++ x ∷ []) ≡ batch_sizes h
  sizes-kept e = none-more size_of_take h x e

  -- An event that queues no span leaves the accepted spans as they were.
  pub accepted-kept : queued_span x ≡ None → accepted_spans (h ++ x ∷ []) ≡ accepted_spans h
  accepted-kept e = none-more queued_span h x e

  -- An event that neither takes a batch nor queues a span leaves the waiting spans as they were.
  pub waiting-kept : size_of_take x ≡ None → queued_span x ≡ None
      → waiting_spans (h ++ x ∷ []) ≡ waiting_spans h
  waiting-kept e q = λ i. drop (sum (sizes-kept e i)) (accepted-kept q i)

  -- An event that gives no ticket leaves the given tickets as they were.
  pub tickets-kept : ticket_of x ≡ None → tickets (h ++ x ∷ []) ≡ tickets h
  tickets-kept e = none-more ticket_of h x e

  -- An event that says nothing of the last batch leaves its stage as it was.
  pub stage-kept : stage_by x ≡ None → stage (h ++ x ∷ []) ≡ stage h
  stage-kept e = ap (last_or not_out) (none-more stage_by h x e)

  -- The last batch has the stage that the newest event gives it, if it gives one.
  pub stage-told : (s : Stage) → stage_by x ≡ Some s → stage (h ++ x ∷ []) ≡ s
  stage-told s e =
      ap (last_or not_out) (some-more stage_by h x s e)
      ∙ last-more not_out (filter_map stage_by h) s

  -- An event that hands no span to the exporter leaves the handed spans as they were.
  pub handed-kept : spans_handed_by h x ≡ [] → handed_spans (h ++ x ∷ []) ≡ handed_spans h
  handed-kept e =
      gather-more spans_handed_by h x ∙ ap (λ l. handed_spans h ++ l) e
      ∙ append-nil (handed_spans h)

  -- An event that drops no span leaves the dropped spans as they were.
  pub drops-kept : entries_by h x ≡ [] → drops (h ++ x ∷ []) ≡ drops h
  drops-kept e = gather-more entries_by h x ∙ ap (λ l. drops h ++ l) e ∙ append-nil (drops h)

  -- A ledger after one more event is the ledger before it after that event's pushes or pops.
  pub ledger-more : (pops : DeskEvent → Bool) (adds : List DeskEvent → DeskEvent → List Entry)
      → stack_of pops adds (h ++ x ∷ [])
      ≡ stack_on (stack_of pops adds h) (stack_steps pops adds h x)
  ledger-more pops adds =
      let steps = stack_steps pops adds in
      ap (stack_on []) (gather-more steps h x) ∙ stack-append [] (gather steps [] h) (steps h x)

  -- An event that is neither flush nor shutdown leaves the count of spans asked for as it was.
  pub asked-kept : asks x ≡ false → asked_count (h ++ x ∷ []) ≡ asked_count h
  asked-kept e =
      ap (last_or 0)
      (gather-more marks_by h x
      ∙ ap (λ b. gather marks_by [] h ++ cond b (length (accepted_spans h) ∷ []) []) e
      ∙ append-nil (gather marks_by [] h))

  -- A flush or shutdown asks for all spans accepted so far.
  pub asked-told : asks x ≡ true → asked_count (h ++ x ∷ []) ≡ length (accepted_spans h)
  asked-told e =
      ap (last_or 0)
      (gather-more marks_by h x
      ∙ ap (λ b. gather marks_by [] h ++ cond b (length (accepted_spans h) ∷ []) []) e)
      ∙ last-more 0 (gather marks_by [] h) (length (accepted_spans h))

  -- The count of spans asked for is that of all accepted ones at a flush or shutdown, else as
  -- before.
  pub asked-more : asked_count (h ++ x ∷ [])
      ≡ if asks x then length (accepted_spans h) else asked_count h
  asked-more = go (asks x) refl
    where
      go : (b : Bool) → asks x ≡ b
          → asked_count (h ++ x ∷ []) ≡ if b then length (accepted_spans h) else asked_count h
      go true e = asked-told e
      go false e = asked-kept e

  -- A queue is shut down if the newest event is a shutdown or an event before it was one.
  pub shut-more : list_any is_shutdown (h ++ x ∷ []) ≡ (is_shutdown x || list_any is_shutdown h)
  shut-more = any-more is_shutdown h x ∙ go (list_any is_shutdown h) (is_shutdown x)
    where
      go : (b c : Bool) → (b || c) ≡ (c || b)
      go true true = refl
      go true false = refl
      go false true = refl
      go false false = refl

  -- The waiting spans after an event are those before it with its span queued and its batch taken.
  pub waiting-more : IsWithin h
      → waiting_spans (h ++ x ∷ [])
      ≡ drop_as (size_of_take x) (push_as (queued_span x) (waiting_spans h))
  waiting-more w =
      (λ i. drop (sum (pushed-after size_of_take h x i)) (pushed-after queued_span h x i))
      ∙ drop-after (size_of_take x) (queued_span x) (batch_sizes h) (accepted_spans h) w

  -- An event that is no shutdown leaves a queue shut down or not, as it was.
  pub shut-kept : is_shutdown x ≡ false
      → list_any is_shutdown (h ++ x ∷ []) ≡ list_any is_shutdown h
  shut-kept e =
      any-more is_shutdown h x ∙ ap (λ b. list_any is_shutdown h || b) e
      ∙ or-false (list_any is_shutdown h)
    where
      or-false : (b : Bool) → (b || false) ≡ b
      or-false true = refl
      or-false false = refl

  -- An event that neither takes a batch nor queues a span leaves the last batch's spans as they
  -- were.
  pub last-kept : size_of_take x ≡ None → queued_span x ≡ None
      → last_spans (h ++ x ∷ []) ≡ last_spans h
  last-kept e q = λ i. last_slice (sizes-kept e i) (accepted-kept q i)

-- A queued span becomes the last of the accepted spans.
pub accepted-queued : (h : List DeskEvent) (s : SpanData)
    → accepted_spans (h ++ queued s ∷ []) ≡ accepted_spans h ++ s ∷ []
accepted-queued h s = some-more queued_span h (queued s) s refl

-- A queued span becomes the last of the waiting spans.
pub waiting-queued : (h : List DeskEvent) (s : SpanData) → IsWithin h
    → waiting_spans (h ++ queued s ∷ []) ≡ waiting_spans h ++ s ∷ []
waiting-queued h s w =
    (λ i. drop (sum (sizes-kept h (queued s) refl i)) (accepted-queued h s i))
    ∙ drop-append-le (taken_count h) (accepted_spans h) (s ∷ []) w

-- A queued span leaves the spans of the last batch as they were.
pub last-queued : (h : List DeskEvent) (s : SpanData) → IsWithin h
    → last_spans (h ++ queued s ∷ []) ≡ last_spans h
last-queued h s w =
    (λ i. last_slice (sizes-kept h (queued s) refl i) (accepted-queued h s i))
    ∙ last-slice-stays (batch_sizes h) (accepted_spans h) (s ∷ []) w

-- The last batch has as many spans as were taken for it.
pub length-last : (h : List DeskEvent) → IsWithin h → length (last_spans h) ≡ last_size h
length-last h w = length-last-slice (batch_sizes h) (accepted_spans h) w

-- The accepted spans are as many as the taken and the waiting ones together.
pub accepted-adds : (h : List DeskEvent) → IsWithin h
    → length (accepted_spans h) ≡ taken_count h + length (waiting_spans h)
accepted-adds h w = omega (arith, w, length-drop (taken_count h) (accepted_spans h))

-- ---- a batch that is taken

module _ (h : List DeskEvent) (now size : ℕ) where
  -- A taken batch adds its size to the sizes of batches.
  pub sizes-taken : batch_sizes (h ++ taken now size ∷ []) ≡ batch_sizes h ++ size ∷ []
  sizes-taken = some-more size_of_take h (taken now size) size refl

  -- A taken batch raises the count of taken spans by its size.
  pub count-taken : taken_count (h ++ taken now size ∷ []) ≡ taken_count h + size
  count-taken = ap sum sizes-taken ∙ sum-more (batch_sizes h) size

  -- A taken batch leaves the waiting spans without as many of the first ones as it has.
  pub waiting-taken : waiting_spans (h ++ taken now size ∷ []) ≡ drop size (waiting_spans h)
  waiting-taken =
      (λ i. drop (count-taken i) (accepted-kept h (taken now size) refl i))
      ∙ sym (drop-drop size (taken_count h) (accepted_spans h))

  -- A taken batch has the first of the waiting spans.
  pub last-taken : IsWithin h → last_spans (h ++ taken now size ∷ []) ≡ take size (waiting_spans h)
  last-taken w =
      (λ i. last_slice (sizes-taken i) (accepted-kept h (taken now size) refl i))
      ∙ last-slice-more (batch_sizes h) size (accepted_spans h) w

  -- A taken batch has the number after that of the batch before it.
  pub number-taken : last_batch (h ++ taken now size ∷ []) ≡ last_batch h + 1
  number-taken = ap length sizes-taken ∙ length-append (batch_sizes h) (size ∷ [])

  -- The size of the last batch is that of the take.
  pub size-taken : last_size (h ++ taken now size ∷ []) ≡ size
  size-taken = ap (last_or 0) sizes-taken ∙ last-more 0 (batch_sizes h) size

-- ---- allowed events

after-more : (config : DeskConfig) (made : ℕ) (before later : List DeskEvent) (x : DeskEvent)
    → AreAllowedAfter config made before later → Allowed (desk_of config made (before ++ later)) x
    → AreAllowedAfter config made before (later ++ x ∷ [])
after-more config made before [] x w a =
    (subst (λ b. Allowed (desk_of config made b) x) (append-nil before) a, tt)
after-more config made before (y ∷ later) x w a = (
  w.0,
  after-more config made (before ++ y ∷ []) later x w.1
      (subst (λ b. Allowed (desk_of config made b) x) (sym (append_assoc before (y ∷ []) later)) a),
)

-- Allowed events followed by one that their desk allows are allowed.
pub allowed-more : (config : DeskConfig) (made : ℕ) (h : List DeskEvent) (x : DeskEvent)
    → AreAllowed config made h → Allowed (desk_of config made h) x
    → AreAllowed config made (h ++ x ∷ [])
unfolding AreAllowed
allowed-more config made h x w a = after-more config made [] h x w a

-- what holds before the first event, and is kept by each that is allowed
module _ (config : DeskConfig) (made : ℕ) (P : List DeskEvent → Type 0)
    (step : (h : List DeskEvent) (x : DeskEvent) → P h → Allowed (desk_of config made h) x
    → P (h ++ x ∷ [])) where
  by-steps-after : (h later : List DeskEvent) → P h → AreAllowedAfter config made h later
      → P (h ++ later)
  by-steps-after h [] p w = subst P (sym (append-nil h)) p
  by-steps-after h (x ∷ later) p w =
      subst P (append_assoc h (x ∷ []) later)
      (by-steps-after (h ++ x ∷ []) later (step h x p w.0) w.1)

  -- A property that holds before the first event and that each allowed event keeps holds after
  -- allowed events.
  pub by-steps : (h : List DeskEvent) → P [] → AreAllowed config made h → P h
  unfolding AreAllowed
  by-steps h p w = by-steps-after [] h p w

within-same : (h : List DeskEvent) (x : DeskEvent) → size_of_take x ≡ None → queued_span x ≡ None
    → IsWithin h → IsWithin (h ++ x ∷ [])
within-same h x e q w = omega (arith, w, ap sum (sizes-kept h x e), ap length (accepted-kept h x q))

-- An allowed event takes no more spans than were accepted, if those before it didn't.
pub within-step : (config : DeskConfig) (made : ℕ) (h : List DeskEvent) (x : DeskEvent) → IsWithin h
    → Allowed (desk_of config made h) x → IsWithin (h ++ x ∷ [])
unfolding desk_of
within-step config made h (queued s) w a =
    omega (
      arith,
      w,
      ap sum (sizes-kept h (queued s) refl),
      ap length (accepted-queued h s),
      length-append (accepted_spans h) (s ∷ []),
    )
within-step config made h (taken now size) w a =
    let e : size ≡ min config.batch (length (waiting_spans h)) = a.2 in
    omega (
      arith,
      w,
      e,
      count-taken h now size,
      length-drop (taken_count h) (accepted_spans h),
      ap length (accepted-kept h (taken now size) refl),
    )
within-step config made h (full s) w a = within-same h (full s) refl refl w
within-step config made h late w a = within-same h late refl refl w
within-step config made h flush w a = within-same h flush refl refl w
within-step config made h shutdown w a = within-same h shutdown refl refl w
within-step config made h handed w a = within-same h handed refl refl w
within-step config made h (dropped r) w a = within-same h (dropped r) refl refl w
within-step config made h (settled f) w a = within-same h (settled f) refl refl w
within-step config made h popped w a = within-same h popped refl refl w
within-step config made h popped_lost w a = within-same h popped_lost refl refl w

-- Allowed events take no more spans than they accepted.
pub allowed-within : (config : DeskConfig) (made : ℕ) (h : List DeskEvent)
    → AreAllowed config made h → IsWithin h
allowed-within config made h w =
    by-steps config made IsWithin (within-step config made) h (omega arith) w

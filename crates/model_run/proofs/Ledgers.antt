-- A ledger and what was popped from it are what was put into it.
use Rattle.std.proofs.Common.{◌≡◌, refl, sym, ap, ◌∙◌, subst, ℕ, ◌+◌, arith, List, [], ◌∷◌, ◌++◌}
use Rattle.std.proofs.Common.{take, drop, append_assoc, Bool, true, false, true≢false, cond, ◌||◌}
use Rattle.std.specs.Prelude.{count_by, map, reverse, if◌then◌else◌}
use Rattle.std.specs.List.{list_any}
use Rattle.std.proofs.lemmas.List.{append-nil, map-append, reverse-append}
use Rattle.std.proofs.lemmas.List.Sums.{sum_by-append, sum_by-take-drop}
use Rattle.model_span.specs.Dropped.{Entry}
use Rattle.model_desk.specs.Queue.{DeskEvent, gather, entries_by, losses_by, is_popped}
use Rattle.model_desk.specs.Queue.{is_popped_lost, popped, popped_lost, StackStep, push, pop}
use Rattle.model_desk.specs.Queue.{stack_on, stack_steps, stack_of, popped_by, popped_of}
use Rattle.model_desk.proofs.Lists.{gather-more, stack-pushes}
use Rattle.model_desk.proofs.Steps.{ledger-more}
use Rattle.model_run.specs.Queues.{NamesAll, AddUp, LedgerNamesTheDrops, LedgerAndPoppedAreTheDrops}
use Rattle.model_run.specs.Queues.{LedgerNamesTheLosses, LedgerAndPoppedAreTheLosses}

-- A property that holds of no events and that each event keeps holds of any events.
pub by-end : (P : List DeskEvent → Type 0)
    → ((h : List DeskEvent) (x : DeskEvent) → P h → P (h ++ x ∷ [])) → P [] → (h : List DeskEvent)
    → P h
by-end P step p h = go [] h p
  where
    go : (before later : List DeskEvent) → P before → P (before ++ later)
    go before [] q = subst P (sym (append-nil before)) q
    go before (x ∷ later) q =
        subst P (append_assoc before (x ∷ []) later) (go (before ++ x ∷ []) later (step before x q))

-- a ledger to which the events that pop add nothing
module _ (pops : DeskEvent → Bool) (adds : List DeskEvent → DeskEvent → List Entry)
    (apart : (h : List DeskEvent) (x : DeskEvent) → pops x ≡ true → adds h x ≡ []) where
  abbrev all : List DeskEvent → List Entry
  all events = gather adds [] events

  abbrev step_as : List DeskEvent → DeskEvent → Bool → List (StackStep Entry)
  step_as h x b = if b then pop ∷ [] else map push (adds h x)

  -- ---- without pops

  any-none : (b c : Bool) → (b || c) ≡ false → b ≡ false
  any-none true c e = absurd (true≢false e)
  any-none false c e = refl

  any-rest : (b c : Bool) → (b || c) ≡ false → c ≡ false
  any-rest true c e = absurd (true≢false e)
  any-rest false c e = e

  pushes-alone : (before events : List DeskEvent) → list_any pops events ≡ false
      → gather (stack_steps pops adds) before events ≡ map push (gather adds before events)
  pushes-alone before [] none = refl
  pushes-alone before (x ∷ events) none =
      let one : stack_steps pops adds before x ≡ map push (adds before x) =
      ap (step_as before x) (any-none (pops x) (list_any pops events) none) in
      let rest : gather (stack_steps pops adds) (before ++ x ∷ []) events
      ≡ map push (gather adds (before ++ x ∷ []) events) =
      pushes-alone (before ++ x ∷ []) events (any-rest (pops x) (list_any pops events) none) in
      (λ i. one i ++ rest i)
      ∙ sym (map-append push (adds before x) (gather adds (before ++ x ∷ []) events))

  names-all : NamesAll pops (stack_of pops adds) all
  names-all events none =
      ap (stack_on []) (pushes-alone [] events none) ∙ stack-pushes [] (all events)
      ∙ append-nil (reverse (all events))

  -- ---- with pops

  module _ (is_it : Entry → Bool) where
    abbrev count : List Entry → ℕ
    count es = count_by is_it es

    abbrev Sum : List DeskEvent → Type 0
    Sum h = count (stack_of pops adds h) + count (popped_of pops adds h) ≡ count (all h)

    append : (xs ys : List Entry) → count (xs ++ ys) ≡ count xs + count ys
    append xs ys = sum_by-append (λ (e : Entry). cond (is_it e) 1 0) xs ys

    reversed : (xs : List Entry) → count (reverse xs) ≡ count xs
    reversed [] = refl
    reversed (x ∷ xs) =
        let back : count (reverse (x ∷ xs)) ≡ count (reverse xs) + count (x ∷ []) =
        ap count (reverse-append (x ∷ []) xs) ∙ append (reverse xs) (x ∷ []) in
        let front : count (x ∷ xs) ≡ count (x ∷ []) + count xs = append (x ∷ []) xs in
        omega (arith, back, front, reversed xs)

    -- The ledger after one more event is what its step makes of the ledger before.
    stack-by : (h : List DeskEvent) (x : DeskEvent) (b : Bool) → pops x ≡ b
        → count (stack_of pops adds (h ++ x ∷ []))
        ≡ count (stack_on (stack_of pops adds h) (step_as h x b))
    stack-by h x b e =
        ap count
        (ledger-more h x pops adds ∙ ap (λ c. stack_on (stack_of pops adds h) (step_as h x c)) e)

    popped-by : (h : List DeskEvent) (x : DeskEvent) (b : Bool) → pops x ≡ b
        → count (popped_of pops adds (h ++ x ∷ []))
        ≡ count (popped_of pops adds h) + count (if b then take 1 (stack_of pops adds h) else [])
    popped-by h x b e =
        ap count (gather-more (popped_by pops adds) h x)
        ∙ append (popped_of pops adds h) (popped_by pops adds h x)
        ∙ ap (λ c.
        count (popped_of pops adds h) + count (if c then take 1 (stack_of pops adds h) else []))
        e

    all-by : (h : List DeskEvent) (x : DeskEvent)
        → count (all (h ++ x ∷ [])) ≡ count (all h) + count (adds h x)
    all-by h x = ap count (gather-more adds h x) ∙ append (all h) (adds h x)

    step : (h : List DeskEvent) (x : DeskEvent) → Sum h → Sum (h ++ x ∷ [])
    step h x k = go (pops x) refl
      where
        go : (b : Bool) → pops x ≡ b → Sum (h ++ x ∷ [])
        go true e =
            let one : count (take 1 (stack_of pops adds h)) + count (drop 1 (stack_of pops adds h))
            ≡ count (stack_of pops adds h) =
            sum_by-take-drop (λ (n : Entry). cond (is_it n) 1 0) (stack_of pops adds h) 1 in
            let none : count (adds h x) ≡ 0 = ap count (apart h x e) in
            omega (arith, stack-by h x true e, popped-by h x true e, all-by h x, one, none, k)
        go false e =
            let more : count (stack_on (stack_of pops adds h) (map push (adds h x)))
            ≡ count (adds h x) + count (stack_of pops adds h) =
            ap count (stack-pushes (stack_of pops adds h) (adds h x))
            ∙ append (reverse (adds h x)) (stack_of pops adds h)
            ∙ ap (λ (n : ℕ). n + count (stack_of pops adds h)) (reversed (adds h x)) in
            omega (arith, stack-by h x false e, popped-by h x false e, all-by h x, more, k)

  add-up : AddUp (stack_of pops adds) (popped_of pops adds) all
  add-up events is_it = by-end (Sum is_it) (step is_it) refl events

-- ---- the two ledgers

drops-apart : (h : List DeskEvent) (x : DeskEvent) → is_popped x ≡ true → entries_by h x ≡ []
drops-apart h popped e = refl
drops-apart h x e = cc

losses-apart : (h : List DeskEvent) (x : DeskEvent) → is_popped_lost x ≡ true → losses_by h x ≡ []
losses-apart h popped_lost e = refl
losses-apart h x e = cc

-- Where nothing was popped, the ledger has all dropped spans, the newest first.
pub ledger-names : LedgerNamesTheDrops
ledger-names = names-all is_popped entries_by drops-apart

-- The ledger's entries and the popped ones are the dropped spans, each as often.
pub ledger-and-popped : LedgerAndPoppedAreTheDrops
ledger-and-popped = add-up is_popped entries_by drops-apart

-- Where nothing was popped, the second ledger has all lost spans, the newest first.
pub lost-names-all : LedgerNamesTheLosses
lost-names-all = names-all is_popped_lost losses_by losses-apart

-- The second ledger's entries and those popped from it are the lost spans, each as often.
pub lost-add-up : LedgerAndPoppedAreTheLosses
lost-add-up = add-up is_popped_lost losses_by losses-apart

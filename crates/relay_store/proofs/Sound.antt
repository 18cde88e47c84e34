-- What is true of the fields of what keeps bodies, after each change.
use Rattle.std.proofs.Common.{◌≡◌, ◌≢◌, inl, inr, ◌∷◌, sym, ap, ◌∙◌, subst, ℕ, ◌+◌, ◌-◌, ◌^◌, ◌<◌}
use Rattle.std.proofs.Common.{List, [], ◌≤◌, ◌++◌, length, true, false, arith, length-append}
use Rattle.std.specs.Prelude.{Option, Some, None, IfSome, IsSome}
use Rattle.model_desk.specs.Retries.{Fate, Next, fate_of}
use Rattle.model_body.specs.Histories as events
use Rattle.model_body.specs.Histories.{BodyEvent}
use Rattle.model_body.specs.Desks.{BodyDesk, Does}
use Rattle.relay_queue.specs.Steps.{Notes, NotesFate}
use Rattle.spool.specs.Disks.{Disk}
use Rattle.spool.specs.Spools.{AreRising, numbered_from}
use Rattle.spool.specs.Settled.{IsSettled}
use Rattle.spool.specs.declared.state.Spool.{Spool}
use Rattle.relay_store.specs.Fronts.{AreFirst, BeginWith, IsInUse, bodies_of, spool_next}
use Rattle.relay_store.specs.Fronts.{spool_waiting}
use Rattle.relay_store.specs.Inside.{IsNumbered, IsSound}
use Rattle.relay_store.specs.Kept.{HasHistory, AdmitsFirst, PutsAll}
use Rattle.relay_store.specs.declared.keeping.Keeping.TheInside.{Inside}
use Rattle.relay_store.proofs.Basics.{true-false}
use Rattle.relay_store.proofs.Fronts.{begin-some, ended-count, front-ended, notes-end}
use Rattle.relay_store.proofs.Fronts.{out-or-not}
use Rattle.relay_store.proofs.Remaining.{IsFound, remaining-ended, remaining-found, remaining-none}
use Rattle.relay_store.proofs.Remaining.{spool-rising}
use Rattle.relay_store.proofs.Remaining.{use-fits}
use Rattle.relay_store.proofs.Rising.{bodies-count, rising-few, rising-from}
use Rattle.relay_store.proofs.Waits.{use-ended, use-first, use-none, use-noted, use-of, use-put}
use Rattle.relay_store.proofs.Waits.{use-same, use-settled}

has-more : (x : BodyEvent) (old new : BodyDesk) → HasHistory old → Does x old new → HasHistory new
has-more x old new h does = record { events = h.events ++ x ∷ []; is = does h.events h.is }

has-fate : (o : Option Fate) (ended : List (List ℕ)) (old new : BodyDesk) → HasHistory old
    → NotesFate o ended old new → HasHistory new
has-fate None ended old new h n = has-more events.later old new h n.2
has-fate (Some fate) ended old new h n = has-more (events.settled fate) old new h n.2

-- What follows from an outcome is noted at a desk, which shows it.
pub has-noted : (next : Next) (ended : List (List ℕ)) (old new : BodyDesk) → HasHistory old
    → Notes next ended old new → HasHistory new
has-noted next ended old new h notes = elim (out-or-not old.turn) [
  | inl out ↦ has-fate (fate_of next) ended old new h (notes.out out)
  | inr other ↦ subst HasHistory (sym (notes.none other).1) h
]

module _ {D : Type 0} (known : Type 0) (files : D → Disk) (moment : D → ℕ)
    (left_at : D → ℕ → Disk → Type 0) where
  -- the spool of these fields is settled, where that is known
  abbrev pub Settled : Inside D → Type 0
  Settled k = known → k.is_spooled ≡ true → k.has_failed ≡ false
      → IfSome k.spool (IsSettled files moment left_at)

  -- its numbers are known
  abbrev pub Numbered : Inside D → Type 0
  Numbered k = known → k.is_spooled ≡ true → k.has_failed ≡ false → IsNumbered files k

  abbrev pub Sound : Inside D → Type 0
  Sound k = IsSound known files moment left_at k

  -- No body is at the desk.
  pub sound-none : (k : Inside D) → HasHistory k.desk → k.desk.kept ≡ [] → Settled k
      → k.first < 2 ^ 64 → Numbered k → Sound k
  sound-none k history none settled fits numbered = record {
    history = history;
    numbered = numbered;
    in_use = λ known spooled failed.
        subst (λ (l : List (List ℕ)). IfSome k.spool (IsInUse files moment left_at k.first l))
        (sym none) (use-none files moment left_at k.first k.spool (settled known spooled failed));
    numbers = λ spooled. omega (arith, ap length none, fits);
  }

  -- The same bodies are at the desk, with the same number.
  pub sound-with : (k k' : Inside D) → Sound k → HasHistory k'.desk
      → k'.desk.kept ≡ k.desk.kept → k'.first ≡ k.first
      → (k'.is_spooled ≡ true → k.is_spooled ≡ true)
      → (known → k'.is_spooled ≡ true → k'.has_failed ≡ false
      → IfSome k'.spool (IsInUse files moment left_at k.first k.desk.kept))
      → Numbered k' → Sound k'
  sound-with k k' s history kept first spooled held numbered = record {
    history = history;
    numbered = numbered;
    in_use = λ known is_spooled failed.
        subst (λ (l : List (List ℕ)). IfSome k'.spool (IsInUse files moment left_at k'.first l))
        (sym kept)
        (subst
        (λ (n : ℕ). IfSome k'.spool (IsInUse files moment left_at n k.desk.kept)) (sym first)
        (held known is_spooled failed));
    numbers = λ is_spooled. omega (arith, ap length kept, first, s.numbers (spooled is_spooled));
  }

  -- Bodies are kept in memory.
  pub sound-unspooled : (k : Inside D) → HasHistory k.desk → k.is_spooled ≡ false → Sound k
  sound-unspooled k history un = record {
    history = history;
    numbered = λ known spooled failed.
        let no : true ≡ false = sym spooled ∙ un in
        absurd (true-false no);
    in_use = λ known spooled failed.
        let no : true ≡ false = sym spooled ∙ un in
        absurd (true-false no);
    numbers = λ spooled.
        let no : true ≡ false = sym spooled ∙ un in
        absurd (true-false no);
  }

  -- The spool failed.
  pub sound-failed : (k k' : Inside D) → Sound k → k'.desk ≡ k.desk → k'.first ≡ k.first
      → k'.is_spooled ≡ k.is_spooled → k'.has_failed ≡ true → Sound k'
  sound-failed k k' s desk first spooled failed =
      sound-with k k' s (subst HasHistory (sym desk) s.history)
      (ap (λ (d : BodyDesk). d.kept) desk) first
      (λ is. sym spooled ∙ is)
      (λ known is not.
      let no : true ≡ false = sym failed ∙ not in
      absurd (true-false no))
      (λ known is not.
      let no : true ≡ false = sym failed ∙ not in
      absurd (true-false no))

  -- The same numbers are known.
  numbered-same : (k k' : Inside D) → Sound k → k'.first ≡ k.first → k'.next ≡ k.next
      → k'.is_spooled ≡ k.is_spooled → k'.has_failed ≡ k.has_failed → k'.spool ≡ k.spool
      → Numbered k'
  numbered-same k k' s first next spooled failed spool = λ known is not.
      let was = s.numbered known (sym spooled ∙ is) (sym failed ∙ not) in (
        subst (λ (o : Option _). IsSome o) (sym spool) was.0,
        omega (arith, first, next, was.1),
        next ∙ (was.2 ∙ ap (spool_next files) (sym spool)),
      )

  -- The desk and the spool are as they were.
  pub sound-same : (k k' : Inside D) → Sound k → k'.desk ≡ k.desk → k'.first ≡ k.first
      → k'.next ≡ k.next → k'.is_spooled ≡ k.is_spooled → k'.has_failed ≡ k.has_failed
      → k'.spool ≡ k.spool
      → Sound k'
  sound-same k k' s desk first next spooled failed spool =
      sound-with k k' s (subst HasHistory (sym desk) s.history)
      (ap (λ (d : BodyDesk). d.kept) desk) first
      (λ is. sym spooled ∙ is)
      (λ known is not.
      subst (λ (o : Option _). IfSome o (IsInUse files moment left_at k.first k.desk.kept))
      (sym spool) (s.in_use known (sym spooled ∙ is) (sym failed ∙ not)))
      (numbered-same k k' s first next spooled failed spool)

  -- Bodies were put.
  pub sound-put : (k k' : Inside D) (bodies : List (List ℕ)) → Sound k → k.has_failed ≡ false
      → IsSome k.spool → (known → PutsAll files moment left_at bodies k.spool k'.spool)
      → (known → k'.next ≡ spool_next files k'.spool) → IsSome k'.spool → k'.desk ≡ k.desk
      → k'.first ≡ k.first → k'.is_spooled ≡ k.is_spooled → Sound k'
  sound-put k k' bodies s well there puts next still desk first spooled =
      sound-with k k' s (subst HasHistory (sym desk) s.history)
      (ap (λ (d : BodyDesk). d.kept) desk) first
      (λ is. sym spooled ∙ is)
      (λ known is not.
      use-put files moment left_at k.first k.desk.kept bodies k.spool k'.spool there
      (s.in_use known (sym spooled ∙ is) well) (puts known))
      (λ known is not.
      let was = s.numbered known (sym spooled ∙ is) well in
      let p = puts known in (
        still,
        omega (arith, first, next known, was.1, was.2, p.first_is, p.next_is),
        next known,
      ))

  -- A batch was taken: the same bodies are kept.
  pub sound-taken : (k k' : Inside D) → Sound k → HasHistory k'.desk → k'.desk.kept ≡ k.desk.kept
      → k'.first ≡ k.first → k'.next ≡ k.next → k'.is_spooled ≡ k.is_spooled
      → k'.has_failed ≡ k.has_failed → k'.spool ≡ k.spool → Sound k'
  sound-taken k k' s history kept first next spooled failed spool =
      sound-with k k' s history kept first (λ is. sym spooled ∙ is)
      (λ known is not.
      subst (λ (o : Option _). IfSome o (IsInUse files moment left_at k.first k.desk.kept))
      (sym spool) (s.in_use known (sym spooled ∙ is) (sym failed ∙ not)))
      (numbered-same k k' s first next spooled failed spool)

  -- The same spool has the same numbers after a call of it.
  numbered-call : (k k' : Inside D) → Sound k → k.has_failed ≡ false → k'.first ≡ k.first
      → k'.next ≡ k.next → k'.is_spooled ≡ k.is_spooled → (IsSome k.spool → IsSome k'.spool)
      → (known → k'.has_failed ≡ false → spool_next files k'.spool ≡ spool_next files k.spool)
      → Numbered k'
  numbered-call k k' s well first next spooled stays same = λ known is not.
      let was = s.numbered known (sym spooled ∙ is) well in (
        stays was.0,
        omega (arith, first, next, was.1),
        next ∙ (was.2 ∙ sym (same known not)),
      )

  -- What is read of a spool in use leaves the same to wait.
  pub sound-read : (k k' : Inside D) → Sound k → k.has_failed ≡ false → k'.desk ≡ k.desk
      → k'.first ≡ k.first → k'.next ≡ k.next → k'.is_spooled ≡ k.is_spooled
      → (IsSome k'.spool → IsSome k.spool) → (IsSome k.spool → IsSome k'.spool) → Settled k'
      → (known → spool_waiting files k'.spool ≡ spool_waiting files k.spool)
      → (known → spool_next files k'.spool ≡ spool_next files k.spool) → Sound k'
  sound-read k k' s well desk first next spooled there stays settled same numbers =
      sound-with k k' s (subst HasHistory (sym desk) s.history)
      (ap (λ (d : BodyDesk). d.kept) desk) first
      (λ is. sym spooled ∙ is)
      (λ known is not.
      use-same files moment left_at k.first k.desk.kept k.spool k'.spool there
      (s.in_use known (sym spooled ∙ is) well) (settled known is not) (same known))
      (numbered-call k k' s well first next spooled stays (λ known not. numbers known))

  -- It was noted that the bodies before those of the desk ended.
  pub sound-noted : (k k' : Inside D) → Sound k → k.has_failed ≡ false → k'.desk ≡ k.desk
      → k'.first ≡ k.first → k'.next ≡ k.next → k'.is_spooled ≡ k.is_spooled
      → (IsSome k'.spool → IsSome k.spool) → (IsSome k.spool → IsSome k'.spool) → Settled k'
      → (known → k'.has_failed ≡ false
      → spool_waiting files k'.spool ≡ numbered_from k.first (spool_waiting files k.spool))
      → (known → k'.has_failed ≡ false → spool_next files k'.spool ≡ spool_next files k.spool)
      → Sound k'
  sound-noted k k' s well desk first next spooled there stays settled noted numbers =
      sound-with k k' s (subst HasHistory (sym desk) s.history)
      (ap (λ (d : BodyDesk). d.kept) desk) first
      (λ is. sym spooled ∙ is)
      (λ known is not.
      use-noted files moment left_at k.first k.desk.kept k.spool k'.spool there
      (s.in_use known (sym spooled ∙ is) well) (settled known is not) (noted known not))
      (numbered-call k k' s well first next spooled stays numbers)

  -- Bodies ended.
  pub sound-ended : (k k' : Inside D) (next : Next) (ended : List (List ℕ)) → Sound k
      → Notes next ended k.desk k'.desk → HasHistory k'.desk
      → (k.is_spooled ≡ true → k'.first ≡ k.first + length ended)
      → k'.next ≡ k.next → k'.is_spooled ≡ k.is_spooled → k'.has_failed ≡ k.has_failed
      → k'.spool ≡ k.spool → Sound k'
  sound-ended k k' next ended s notes history first following spooled failed spool =
      let ends = notes-end next ended k.desk k'.desk notes in
      record {
        history = history;
        numbered = λ known is not.
            let was : k.is_spooled ≡ true = sym spooled ∙ is in
            let well : k.has_failed ≡ false = sym failed ∙ not in
            let old = s.numbered known was well in
            let fits =
            use-fits files moment left_at k.first k.desk.kept k.spool k.next old.0 old.2 old.1
            (s.in_use known was well) in (
              subst (λ (o : Option _). IsSome o) (sym spool) old.0,
              omega (
                arith,
                first was,
                following,
                fits,
                ended-count ended k.desk.kept k'.desk.kept ends,
              ),
              following ∙ (old.2 ∙ ap (spool_next files) (sym spool)),
            );
        in_use = λ known is not.
            let was : k.is_spooled ≡ true = sym spooled ∙ is in
            subst (λ (n : ℕ). IfSome k'.spool (IsInUse files moment left_at n k'.desk.kept))
            (sym (first was))
            (use-ended files moment left_at k.first (k.first + length ended) k.desk.kept
            k'.desk.kept k'.spool
            (λ waits. front-ended k.first ended k.desk.kept k'.desk.kept waits ends)
            (subst (λ (o : Option _). IfSome o (IsInUse files moment left_at k.first k.desk.kept))
            (sym spool) (s.in_use known was (sym failed ∙ not))));
        numbers = λ is.
            let was : k.is_spooled ≡ true = sym spooled ∙ is in
            omega (
              arith,
              first was,
              s.numbers was,
              ended-count ended k.desk.kept k'.desk.kept ends,
            );
      }

  -- As many bodies are kept or ended as were kept, so the number after them is below 2^64.
  pub fits-ended : (k : Inside D) (next : Next) (ended : List (List ℕ)) (new : BodyDesk) → Sound k
      → Notes next ended k.desk new → k.is_spooled ≡ true → k.first + length ended < 2 ^ 64
  fits-ended k next ended new s notes is =
      let ends = notes-end next ended k.desk new notes in
      omega (arith, s.numbers is, ended-count ended k.desk.kept new.kept ends)

  -- Those that are left rise, up to the next number.
  remaining-rising : (k : Inside D) → Sound k → known → k.is_spooled ≡ true → k.has_failed ≡ false
      → AreRising 0 k.next (spool_waiting files k.spool)
  remaining-rising k s is-known is not =
      let old = s.numbered is-known is not in
      subst (λ (n : ℕ). AreRising 0 n (spool_waiting files k.spool)) (sym old.2)
      (spool-rising files moment left_at k.spool
      (use-settled files moment left_at k.first k.desk.kept k.spool (s.in_use is-known is not)))

  -- There are no more than there are numbers.
  pub remaining-few : (k : Inside D) → Sound k → known → k.is_spooled ≡ true → k.has_failed ≡ false
      → length (bodies_of (numbered_from k.first (spool_waiting files k.spool)))
      ≤ k.next - k.first
  remaining-few k s is-known is not =
      let old = s.numbered is-known is not in
      let waits = spool_waiting files k.spool in
      omega (
        arith,
        bodies-count (numbered_from k.first waits),
        rising-few k.first k.next (numbered_from k.first waits)
            (rising-from k.first 0 k.next waits old.1 (remaining-rising k s is-known is not)),
      )

  -- Of those that are left, the first ones ended.
  pub remaining-settled : (k : Inside D) (next : Next) (ended : List (List ℕ)) (new : BodyDesk)
      (first : ℕ) → Sound k → Notes next ended k.desk new → first ≡ k.first + length ended
      → known → k.is_spooled ≡ true → k.has_failed ≡ false
      → bodies_of (numbered_from k.first (spool_waiting files k.spool))
      ≡ ended ++ bodies_of (numbered_from first (spool_waiting files k.spool))
  remaining-settled k next ended new first s notes is-first is-known is not =
      let old = s.numbered is-known is not in
      let waits = spool_waiting files k.spool in
      remaining-ended k.first k.next ended k.desk.kept new.kept waits
      (notes-end next ended k.desk new notes)
      (use-first files moment left_at k.first k.desk.kept k.spool old.0 (s.in_use is-known is not))
      (remaining-rising k s is-known is not) old.1
      ∙ ap (λ (n : ℕ). ended ++ bodies_of (numbered_from n waits)) (sym is-first)

  -- Bodies that are found are those that are left.
  pub found-in : (k : Inside D) (found : ℕ) (bodies : List (List ℕ)) → Sound k → bodies ≢ []
      → known → k.is_spooled ≡ true → k.has_failed ≡ false
      → BeginWith found bodies (numbered_from k.first (spool_waiting files k.spool))
      → IsFound k.first k.next found (spool_waiting files k.spool)
  found-in k found bodies s some is-known is not begins =
      let old = s.numbered is-known is not in
      remaining-found k.first k.next found bodies (spool_waiting files k.spool) some old.1
      (remaining-rising k s is-known is not) begins

  -- The same are left from their number on.
  pub remaining-found-in : (k : Inside D) (found : ℕ) (bodies : List (List ℕ))
      (new : Option (Spool D))
      → Sound k → bodies ≢ [] → known → k.is_spooled ≡ true → k.has_failed ≡ false
      → BeginWith found bodies (numbered_from k.first (spool_waiting files k.spool))
      → spool_waiting files new ≡ spool_waiting files k.spool
      → bodies_of (numbered_from found (spool_waiting files new))
      ≡ bodies_of (numbered_from k.first (spool_waiting files k.spool))
  remaining-found-in k found bodies new s some is-known is not begins same =
      ap (λ (w : List (ℕ × List ℕ)). bodies_of (numbered_from found w)) same
      ∙ ap bodies_of (found-in k found bodies s some is-known is not begins).same

  -- Where none is left, none is from the next number on.
  pub none-in : (k : Inside D) → Sound k → known → k.is_spooled ≡ true → k.has_failed ≡ false
      → numbered_from k.first (spool_waiting files k.spool) ≡ []
      → bodies_of (numbered_from k.next (spool_waiting files k.spool))
      ≡ bodies_of (numbered_from k.first (spool_waiting files k.spool))
  none-in k s is-known is not none =
      let old = s.numbered is-known is not in
      ap bodies_of
      (remaining-none k.first k.next (spool_waiting files k.spool) old.1 none ∙ sym none)

  -- Bodies were read from the spool, and some of them, the first ones, were admitted.
  pub sound-filled : (k k' : Inside D) (bodies : List (List ℕ)) → Sound k → k.desk.kept ≡ []
      → AdmitsFirst bodies k.desk k'.desk → k'.first + length bodies < 2 ^ 64
      → (known → BeginWith k'.first bodies (numbered_from k.first (spool_waiting files k.spool)))
      → Settled k' → (known → spool_waiting files k'.spool ≡ spool_waiting files k.spool)
      → bodies ≢ [] → (IsSome k.spool → IsSome k'.spool)
      → (known → spool_next files k'.spool ≡ spool_next files k.spool) → k'.next ≡ k.next
      → k'.is_spooled ≡ k.is_spooled → k'.has_failed ≡ k.has_failed → Sound k'
  sound-filled k k' bodies s none admits fits begins settled same some stays numbers next spooled
      failed =
      let kept : k'.desk.kept ≡ admits.admitted =
      ap (λ (d : BodyDesk). d.kept) admits.desk
      ∙ ap (λ (l : List (List ℕ)). l ++ admits.admitted) none in
      record {
        history = admits.history s.history;
        numbered = λ known is not.
            let was : k.is_spooled ≡ true = sym spooled ∙ is in
            let well : k.has_failed ≡ false = sym failed ∙ not in
            let old = s.numbered known was well in
            let found = found-in k k'.first bodies s some known was well (begins known) in (
              stays old.0,
              omega (arith, next, found.within),
              next ∙ (old.2 ∙ sym (numbers known)),
            );
        in_use = λ known is not.
            let was : k.is_spooled ≡ true = sym spooled ∙ is in
            let well : k.has_failed ≡ false = sym failed ∙ not in
            let found = found-in k k'.first bodies s some known was well (begins known) in
            let begin =
            begin-some k'.first bodies (numbered_from k.first (spool_waiting files k.spool)) k.desk
            k'.desk (begins known) admits none in
            use-of files moment left_at k'.first k'.desk.kept k'.spool (settled known is not)
            (subst (AreFirst k'.first k'.desk.kept) (sym (same known))
            (record { others = begin.others; are = found.same ∙ begin.are }));
        numbers = λ is.
            omega (
              arith,
              fits,
              ap length kept,
              ap length admits.all,
              length-append admits.admitted admits.others,
            );
      }

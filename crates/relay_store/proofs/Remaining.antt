-- The bodies of a spool that wait and haven't ended, after each call.
use Rattle.std.proofs.Common.{◌≡◌, ◌≢◌, refl, sym, ap, ◌∙◌, subst, ℕ, ◌+◌, ◌≤◌}
use Rattle.std.proofs.Common.{List, [], ◌∷◌, ◌++◌, length, drop, arith, append_assoc}
use Rattle.std.specs.Prelude.{nat_le, Option, Some, None, IfSome, IsSome, Vec}
use Rattle.std.specs.List.{enumerate_from}
use Rattle.std.proofs.lemmas.List.Elements.{filter-append}
use Rattle.relay_queue.specs.Bodies.{bodies_view}
use Rattle.spool.specs.Disks.{Disk}
use Rattle.spool.specs.Spools.{AreRising, done_to, next_number, numbered_from, waiting}
use Rattle.spool.specs.Settled.{IsSettled, device_of}
use Rattle.spool.specs.declared.state.Spool.{Spool}
use Rattle.spool.proofs.RiseLaws.{rising-lower, waiting-rises}
use Rattle.relay_store.specs.Fronts.{AreFirst, BeginWith, IsInUse, bodies_of, spool_next}
use Rattle.relay_store.specs.Fronts.{spool_waiting}
use Rattle.relay_store.specs.Kept.{PutsAll}
use Rattle.relay_store.proofs.Basics.{drop-taken}
use Rattle.relay_store.proofs.Fronts.{Ends, all-numbered, enumerate-append, numbered-again}
use Rattle.relay_store.proofs.Rising.{bodies-append, bodies-enumerated, rising-after, rising-all}
use Rattle.relay_store.proofs.Rising.{rising-few, rising-from}

-- The numbers of the first ones are below the next one.
pub first-fits : (first last : ℕ) (bodies : List (List ℕ)) (waits : List (ℕ × List ℕ))
    → AreFirst first bodies waits → AreRising 0 last waits → first ≤ last
    → first + length bodies ≤ last
first-fits first last bodies waits f r le =
    fits first bodies f.others
    (subst (AreRising first last) f.are (rising-from first 0 last waits le r))
  where
    fits : (n : ℕ) (bs : List (List ℕ)) (others : List (ℕ × List ℕ))
        → AreRising n last (enumerate_from n bs ++ others) → n + length bs ≤ last
    fits n [] others s = omega (arith, rising-few n last others s)
    fits n (b ∷ bs) others s = omega (arith, fits (n + 1) bs others s.1)

module _ {D : Type 0} (files : D → Disk) (moment : D → ℕ) (left_at : D → ℕ → Disk → Type 0) where
  -- The numbers of the bodies that wait rise, up to the next one.
  pub spool-rising : (spool : Option (Spool D)) → IfSome spool (IsSettled files moment left_at)
      → AreRising 0 (spool_next files spool) (spool_waiting files spool)
  spool-rising None settled = omega arith
  spool-rising (Some s) settled =
      let disk = files (device_of s) in
      rising-lower 0 (done_to disk) (next_number disk) (waiting disk) (omega arith)
      (waiting-rises disk settled.rises)

  -- Bodies were put, after those that are left.
  pub remaining-put : (first : ℕ) (bodies : List (List ℕ)) (old new : Option (Spool D))
      → first ≤ spool_next files old → PutsAll files moment left_at bodies old new
      → bodies_of (numbered_from first (spool_waiting files new))
      ≡ bodies_of (numbered_from first (spool_waiting files old)) ++ bodies
  remaining-put first bodies old new le puts =
      let waits = spool_waiting files old in
      let more = enumerate_from puts.first bodies in
      let all : numbered_from first more ≡ more =
      all-numbered first puts.first bodies (omega (arith, le, puts.first_is)) in
      ap (λ (w : List (ℕ × List ℕ)). bodies_of (numbered_from first w)) puts.waits
      ∙ (ap bodies_of (filter-append (λ b. nat_le first b.0) waits more
      ∙ ap (λ (l : List (ℕ × List ℕ)). numbered_from first waits ++ l) all)
      ∙ (bodies-append (numbered_from first waits) more
      ∙ ap (λ (l : List (List ℕ)). bodies_of (numbered_from first waits) ++ l)
      (bodies-enumerated puts.first bodies)))

  -- The numbers of the bodies at the desk are below the next one.
  pub use-fits : (first : ℕ) (bodies : List (List ℕ)) (spool : Option (Spool D)) (next : ℕ)
      → IsSome spool → next ≡ spool_next files spool → first ≤ next
      → IfSome spool (IsInUse files moment left_at first bodies) → first + length bodies ≤ next
  use-fits first bodies None next there is le held = absurd (cc)
  use-fits first bodies (Some s) next there is le held =
      let settled = spool-rising (Some s) held.settled in
      first-fits first next bodies (spool_waiting files (Some s)) held.first
      (subst (λ (n : ℕ). AreRising 0 n (spool_waiting files (Some s))) (sym is) settled) le

parts : (ended old new : List (List ℕ)) → Ends ended old new → old ≡ ended ++ new
parts ended old new e =
    sym (drop-taken e.count old)
    ∙ (ap (λ (l : List (List ℕ)). l ++ drop e.count old) (sym e.ended_are)
    ∙ ap (λ (l : List (List ℕ)). ended ++ l) (sym e.kept))

-- Of those that are left, the first ones ended.
pub remaining-ended : (first last : ℕ) (ended old new : List (List ℕ)) (waits : List (ℕ × List ℕ))
    → Ends ended old new → AreFirst first old waits → AreRising 0 last waits → first ≤ last
    → bodies_of (numbered_from first waits)
    ≡ ended ++ bodies_of (numbered_from (first + length ended) waits)
remaining-ended first last ended old new waits e f r le =
    let n = first + length ended in
    let others = enumerate_from n new ++ f.others in
    let is : numbered_from first waits ≡ enumerate_from first ended ++ others =
    f.are
    ∙ (ap (λ (l : List (List ℕ)). enumerate_from first l ++ f.others) (parts ended old new e)
    ∙ (ap (λ (l : List (ℕ × List ℕ)). l ++ f.others) (enumerate-append first ended new)
    ∙ append_assoc (enumerate_from first ended) (enumerate_from n new) f.others)) in
    let rest : numbered_from n waits ≡ others =
    sym (numbered-again n first waits (omega arith))
    ∙ (ap (numbered_from n) is
    ∙ rising-after first last ended others
    (subst (AreRising first last) is (rising-from first 0 last waits le r))) in
    ap bodies_of is
    ∙ (bodies-append (enumerate_from first ended) others
    ∙ (ap (λ (l : List (List ℕ)). l ++ bodies_of others) (bodies-enumerated first ended)
    ∙ ap (λ (l : List (ℕ × List ℕ)). ended ++ bodies_of l) (sym rest)))

-- Once it is noted that the others ended, the same are left.
pub remaining-noted : (first : ℕ) (old new : List (ℕ × List ℕ)) → new ≡ numbered_from first old
    → bodies_of (numbered_from first new) ≡ bodies_of (numbered_from first old)
remaining-noted first old new noted =
    ap (λ (w : List (ℕ × List ℕ)). bodies_of (numbered_from first w)) noted
    ∙ ap bodies_of (numbered-again first first old (omega arith))

-- Bodies that are found are those that are left, from their number on.
pub record IsFound (first last found : ℕ) (waits : List (ℕ × List ℕ)) : Type 0 where
  pub later : first ≤ found
  pub within : found ≤ last
  pub same : numbered_from found waits ≡ numbered_from first waits

-- The bodies that are left begin with these.
pub remaining-found : (first last found : ℕ) (bodies : List (List ℕ)) (waits : List (ℕ × List ℕ))
    → bodies ≢ [] → first ≤ last → AreRising 0 last waits
    → BeginWith found bodies (numbered_from first waits) → IsFound first last found waits
remaining-found first last found [] waits some le r b = absurd (some refl)
remaining-found first last found (x ∷ bodies) waits some le r b =
    let all = numbered_from first waits in
    let rising : AreRising first last ((found, x) ∷ enumerate_from (found + 1) bodies ++ b.others) =
    subst (AreRising first last) b.are (rising-from first 0 last waits le r) in
    let from : AreRising found last all =
    subst (AreRising found last) (sym b.are) (omega arith, rising.1) in
    record {
      later = rising.0;
      within =
          omega (
            arith,
            rising-few (found + 1) last (enumerate_from (found + 1) bodies ++ b.others) rising.1,
          );
      same =
          sym (numbered-again found first waits rising.0)
          ∙ rising-all found found last all (omega arith) from;
    }

-- Where none is left, none is left from the next number on.
pub remaining-none : (first last : ℕ) (waits : List (ℕ × List ℕ)) → first ≤ last
    → numbered_from first waits ≡ [] → numbered_from last waits ≡ []
remaining-none first last waits le none =
    sym (numbered-again last first waits le) ∙ ap (numbered_from last) none

-- Bodies that are there are there as lists of bytes.
pub some-view : {A : Type 0} (bodies : List (Vec ℕ A)) → bodies ≢ [] → bodies_view bodies ≢ []
some-view [] some e = some refl
some-view (v ∷ bodies) some e = cc

-- Bodies that are kept together, each of which is kept.
use Rattle.std.proofs.Common.{◌≡◌, ◌∙◌, ap, sym, arith, zero, suc, ◌+◌, ◌<◌, true, ℕ, List, []}
use Rattle.std.proofs.Common.{◌∷◌, ◌++◌, append_assoc, length}
use Rattle.std.specs.Prelude.{Option, IfSome, Vec}
use Rattle.std.specs.List.{AllByRecursion, enumerate_from, remove, slice_index_or}
use Rattle.relay_queue.specs.Bodies.{bodies_view}
use Rattle.spool.specs.Disks.{Disk}
use Rattle.spool.specs.Settled.{IsSettled}
use Rattle.spool.specs.declared.state.Spool.{Spool}
use Rattle.relay_store.specs.Fronts.{spool_waiting}
use Rattle.relay_store.specs.Kept.{Kept, PutsAll, PutsAmong}
use Rattle.relay_store.proofs.Basics.{true-false}
use Rattle.relay_store.specs.Holds.{KeepsInHold}
use Rattle.relay_store.specs.Together.{AreKept}

-- What is true of each is true of the one at a place.
pub all-at : {X : Type 0} (P : X → Type 0) (xs : List X) (k : ℕ) (d : X) → k < length xs
    → AllByRecursion P xs → P (slice_index_or xs k d)
all-at P [] k d within all = absurd (omega (arith, within))
all-at P (x ∷ xs) zero d within all = all.0
all-at P (x ∷ xs) (suc k) d within all = all-at P xs k d (omega (arith, within)) all.1

-- What is true of each is true of those that are left without one.
pub all-without : {X : Type 0} (P : X → Type 0) (xs : List X) (k : ℕ) → AllByRecursion P xs
    → AllByRecursion P (remove xs k)
all-without P [] zero all = tt
all-without P [] (suc k) all = tt
all-without P (x ∷ xs) zero all = all.1
all-without P (x ∷ xs) (suc k) all = (all.0, all-without P xs k all.1)

-- What is true of each and of one more is true of all of these.
pub all-push : {X : Type 0} (P : X → Type 0) (xs : List X) (x : X) → AllByRecursion P xs → P x
    → AllByRecursion P (xs ++ x ∷ [])
all-push P [] x all p = (p, tt)
all-push P (y ∷ xs) x all p = (all.0, all-push P xs x all.1 p)

-- What follows of each.
all-map : {X : Type 0} (P Q : X → Type 0) (xs : List X) → ((x : X) → P x → Q x)
    → AllByRecursion P xs → AllByRecursion Q xs
all-map P Q [] f all = tt
all-map P Q (x ∷ xs) f all = (f x all.0, all-map P Q xs f all.1)

module _ {D : Type 0} (known : Type 0) (files : D → Disk) (moment : D → ℕ)
    (left_at : D → ℕ → Disk → Type 0) where
  -- these bodies wait after some that were put with them
  record PutsLast {A : Type 0} (bodies : List (Vec ℕ A)) (old new : Option (Spool D)) : Type 0 where
    number : ℕ
    before : List (ℕ × List ℕ)
    waits : spool_waiting files new
        ≡ spool_waiting files old ++ (before ++ enumerate_from number (bodies_view bodies))
    settled : IfSome new (IsSettled files moment left_at)

  puts-each : {A : Type 0} (bodies : List (Vec ℕ A)) (old new : Option (Spool D))
      → (known → PutsLast bodies old new)
      → AllByRecursion (λ (v : Vec ℕ A). known → PutsAmong files moment left_at v.items old new)
      bodies
  puts-each [] old new puts = tt
  puts-each {A} (v ∷ bodies) old new puts = (
    (λ k. record {
      number = (puts k).number;
      before = (puts k).before;
      later = enumerate_from ((puts k).number + 1) (bodies_view bodies);
      waits = (puts k).waits;
      settled = (puts k).settled;
    }),
    puts-each bodies old new (λ k. record {
      number = (puts k).number + 1;
      before = (puts k).before ++ ((puts k).number, v.items) ∷ [];
      waits = (puts k).waits
          ∙ ap (λ (l : List (ℕ × List ℕ)). spool_waiting files old ++ l)
          (sym (append_assoc (puts k).before (((puts k).number, v.items) ∷ [])
          (enumerate_from ((puts k).number + 1) (bodies_view bodies))));
      settled = (puts k).settled;
    }),
  )

  -- Bodies that are put together in a hold are kept in it.
  pub kept-together : {A : Type 0} (bodies : List (Vec ℕ A)) (old new : Kept D)
      → old.is_spooled ≡ true
      → (known → PutsAll files moment left_at (bodies_view bodies) old.spool new.spool)
      → AreKept known files moment left_at bodies
  kept-together {A} bodies old new spooled puts =
      all-map (λ (v : Vec ℕ A). known → PutsAmong files moment left_at v.items old.spool new.spool)
      (λ (v : Vec ℕ A). KeepsInHold known files moment left_at v.items) bodies
      (λ v among. record {
        old = old;
        new = new;
        spans = 0;
        admitted = λ is. absurd (true-false (sym spooled ∙ is));
        put = λ is k. among k;
      })
      (puts-each bodies old.spool new.spool (λ k. record {
        number = (puts k).first;
        before = [];
        waits = (puts k).waits;
        settled = (puts k).settled;
      }))

-- What the fields of what the server's thread keeps bodies with show, and what is true of them.
use Rattle.std.specs.Prelude.{◌≡◌, ◌⊎◌, ℕ, ◌+◌, ◌++◌, List, [], ◌∷◌, sum_by}
use Rattle.spool.specs.Disks.{Disk}
use Rattle.relay_queue.specs.Bodies.{bodies_view}
use Rattle.relay_store.specs.Holds.{KeepsInHold}
use Rattle.relay_store.specs.Together.{AreKept, AreReadable}
use Rattle.relay_store.specs.Accounts.{posted_in, posts}
use Rattle.relay_store.specs.declared.keeper.SharedKeeper.TheInside.{Inside}

-- The bodies that were kept through a keeper, in order; those of them that were kept together and
-- not recalled since; and those that were collected, to be kept together.
pub record Keeper : Type 0 where
  pub posted : List (List ℕ)
  pub recallable : List (List ℕ)
  pub collected : List (List ℕ)

abbrev pub keeper_view : {J R D : Type 0} → Inside J R D → Keeper
keeper_view k = record {
  posted = posted_in k.account;
  recallable = bodies_view k.recallable.items;
  collected = bodies_view k.collected.items;
}

-- The account is one of bodies that were kept; those that were collected are read, and those that
-- may be recalled are read and were kept.
pub record IsSharing {J R D : Type 0} (known : Type 0) (files : D → Disk) (moment : D → ℕ)
    (left_at : D → ℕ → Disk → Type 0) (k : Inside J R D) : Type 0 where
  pub is_posts : k.account ≡ posts (posted_in k.account)
  pub collected : AreReadable k.collected.items
  pub readable : AreReadable k.recallable.items
  pub kept : AreKept known files moment left_at k.recallable.items

-- A body was collected, after the others.
abbrev pub CollectsBody : Keeper → List ℕ → Keeper → Type 0
CollectsBody old body new = new ≡ record old { collected = old.collected ++ body ∷ [] }

-- The bodies that were collected were kept together, in a hold, or none of them was. Those that
-- were kept may be recalled, and no others.
pub record KeepsCollected (old new : Keeper) : Type 0 where
  pub bodies : List (List ℕ)
  pub all_or_none : (bodies ≡ old.collected) ⊎ (bodies ≡ [])
  pub new_is : new ≡ record {
    posted = old.posted ++ bodies;
    recallable = bodies;
    collected = [];
  }

-- A body was kept in a hold, and is answered for: it is one more of those that were kept through
-- the keeper and may not be recalled, whatever of them is added up.
pub record Answers {D : Type 0} (known : Type 0) (files : D → Disk) (moment : D → ℕ)
    (left_at : D → ℕ → Disk → Type 0) (body : List ℕ) (old new : Keeper) : Type 0 where
  pub keeps : KeepsInHold known files moment left_at body
  pub one_more : (f : List ℕ → ℕ) → sum_by f new.posted + sum_by f old.recallable
      ≡ sum_by f old.posted + sum_by f new.recallable + f body

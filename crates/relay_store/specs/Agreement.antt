-- How what is kept agrees with the accounts of those who share it. (profile)
use Rattle.std.specs.Prelude.{◌≡◌, ◌≢◌, ℕ, ◌+◌, ◌≤◌, Bool, true, false, List, [], ◌∷◌, map, length}
use Rattle.std.specs.Prelude.{◌++◌, sum_by, if◌then◌else◌, Option, is_some}
use Rattle.model_body.specs.Histories.{Turn, idle, is_out, again}
use Rattle.model_body.specs.Desks.{BodyDesk}
use Rattle.spool.specs.Disks.{Disk}
use Rattle.relay_store.specs.Kept.{Kept, remaining_in}
use Rattle.relay_store.specs.Accounts.{Said, Sent, posts, sends, closes, given_up, last_batch}

-- the bodies of the last batch, while it is out or is to be sent again
abbrev pub batch_by : Turn → List (List ℕ) → List (List ℕ)
batch_by idle bodies = []
batch_by is_out bodies = bodies
batch_by again bodies = bodies

-- the bodies that came to the desk: those that were kept, or, with a spool, those that were read
-- from it
abbrev pub came_of : Bool → List (List ℕ) → Sent → List (List ℕ)
came_of is_spooled posted sent = if is_spooled then sent.read else posted

-- Each body that came to the desk ended, or went back to the spool, or was given up, or is kept
-- there, as often as it came. As lists without order both sides are the same: any sum over them is
-- equal.
abbrev pub AddsUp : List (List ℕ) → Sent → List (List ℕ) → List (List ℕ) → Type 0
AddsUp came sent gave kept =
    (f : List ℕ → ℕ) → sum_by f came
    ≡ sum_by f (map (λ e. e.0) sent.ended) + sum_by f sent.returned + sum_by f gave
    + sum_by f kept

-- What is at the desk agrees with these accounts: unless all was given up, the batch that the
-- sender knows is the one of the desk; and the bodies add up.
pub record Agrees (desk : BodyDesk) (is_spooled is_closed : Bool) (posted : List (List ℕ))
    (sent : Sent) (gave : Option (List (List ℕ))) : Type 0 where
  pub closed : is_closed ≡ is_some gave
  pub turn : is_closed ≡ false → sent.turn ≡ desk.turn
  pub batch : is_closed ≡ false → sent.batch ≡ batch_by desk.turn (last_batch desk)
  pub within : desk.turn ≢ idle → desk.size ≤ length desk.kept
  pub none : is_closed ≡ true → (is_spooled ≡ false) × (desk.kept ≡ []) × (desk.turn ≡ idle)
  pub adds_up : AddsUp (came_of is_spooled posted sent) sent (given_up gave) desk.kept

-- The bodies that waited at the start, followed by those that were kept, are those that ended,
-- followed by these, which wait.
abbrev pub AreInOrder : List (List ℕ) → Sent → List (List ℕ) → Type 0
AreInOrder posted sent waits =
    sent.at_start ++ posted ≡ map (λ e. e.0) sent.ended ++ waits

-- It holds of a spool of a known device that hasn't failed and was never opened again.
abbrev pub IsInOrder : {D : Type 0} → Type 0 → (D → Disk) → Kept D → Bool → List (List ℕ) → Sent
    → Type 0
IsInOrder known files kept is_reopened posted sent =
    known → kept.is_spooled ≡ true → kept.has_failed ≡ false → is_reopened ≡ false
    → AreInOrder posted sent (remaining_in files kept)

-- What the lock keeps of the three accounts; `order` is what is known of the order of bodies.
pub record AreKnown (desk : BodyDesk) (is_spooled is_closed : Bool)
    (order : List (List ℕ) → Sent → Type 0) (book : List Said) : Type 0 where
  pub posted : List (List ℕ)
  pub sent : Sent
  pub gave : Option (List (List ℕ))
  pub book_is : book ≡ posts posted ∷ sends sent ∷ closes gave ∷ []
  pub agrees : Agrees desk is_spooled is_closed posted sent gave
  pub in_order : order posted sent

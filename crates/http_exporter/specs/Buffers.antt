-- Links that read through a buffer. (profile)
use Rattle.std.specs.Prelude.{◌≡◌, ◌≢◌, ℕ, Bool, false, List, []}

-- the link below, and the bytes that were read from it and aren't given yet
pub record BufferedLink (L : Type 0) : Type 0 where
  pub link : L
  pub unread : List ℕ

-- A link is ready for another request if nothing is in its buffer, and the link below is; where
-- something is, that isn't asked.
pub data RenewsBuffered {L : Type 0} (renews : L → Bool → L → Type 0) (old : BufferedLink L)
    (answer : Bool) (new : BufferedLink L) : Type 0 where
  empty : old.unread ≡ [] → renews old.link answer new.link
      → new ≡ record old { link = new.link } → RenewsBuffered renews old answer new
  full : old.unread ≢ [] → answer ≡ false → new ≡ old → RenewsBuffered renews old answer new

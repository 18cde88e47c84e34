-- Names on their way to the log of a service. (profile)
use Rattle.std.specs.Prelude.{◌≡◌, ◌⊎◌, ℕ, ◌+◌, List, [], ◌∷◌, ◌++◌, Bool, Option, true, false}
use Rattle.otlp_span.specs.Dropped.{entry_view}
use Rattle.otlp_span.specs.declared.slip.Entry.{Entry}
use Rattle.drop_ledger.specs.Lines.{LineSink, TakesLine}
use Rattle.drop_ledger.specs.ReasonCounts.{capped}
use Rattle.rtrb.specs.Ring.{known_free, known_items, received, sent}
use Rattle.rtrb.specs.declared.consumer.Consumer.{Consumer}
use Rattle.traced_service.specs.Lines.{line_of}
use Rattle.traced_service.specs.declared.names.ThreadNames.{ThreadNames}

-- the name is the newest of those that were put into the ring
pub record Puts (entry : Entry) (old new : ThreadNames) : Type 0 where
  pub newest : sent new.ring ≡ sent old.ring ++ entry ∷ []
  pub same_count : new.left_out ≡ old.left_out

-- the ring is full, and the name is only counted
pub record LeavesOut (old new : ThreadNames) : Type 0 where
  pub is_full : known_free new.ring ≡ 0
  pub same_names : sent new.ring ≡ sent old.ring
  pub counted : new.left_out ≡ capped (old.left_out + 1)

-- the name is put into the ring, or counted where that is full
abbrev pub PutsOrCounts : Entry → ThreadNames → ThreadNames → Type 0
PutsOrCounts entry old new = Puts entry old new ⊎ LeavesOut old new

-- The oldest name of the ring was taken out, and its line written, if no write has failed; or the
-- ring had none, and nothing was written.
abbrev pub WritesNext : {W A P : Type 0} → (W → Option (List ℕ)) → Bool → Consumer Entry A P
    → Consumer Entry A P → LineSink W → LineSink W → Type 0
WritesNext contents true old new lines after =
    (entry : Entry) × (received new ≡ received old ++ entry ∷ [])
    × TakesLine contents (line_of (entry_view entry)) lines after
WritesNext contents false old new lines after =
    (received new ≡ received old) × (known_items new ≡ []) × (after ≡ lines)

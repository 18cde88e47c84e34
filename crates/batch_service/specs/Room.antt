-- Room that is taken before any thread begins.
use Rattle.std.specs.Prelude.{◌≡◌, ℕ, ◌≤◌, [], vec_capacity}
use Rattle.batch_service.specs.declared.threads.Room.{Room}

-- There is room for this number of threads, and nothing in it yet.
pub record IsRoomFor {P L T : Type 0} (threads : ℕ) (room : Room P L T) : Type 0 where
  pub lanes : threads ≤ vec_capacity room.lanes
  pub no_lane : room.lanes.items ≡ []
  pub passes : threads ≤ vec_capacity room.passes
  pub no_pass : room.passes.items ≡ []
  pub outputs : threads ≤ vec_capacity room.outputs
  pub no_output : room.outputs.items ≡ []

-- What bodies, settings and the last batch are in the model, and when a batch may be taken.
use Rattle.std.specs.Prelude.{◌≡◌, ◌≢◌, ◌⊎◌, ℕ, List, [], map}
use Rattle.std.specs.declared.vec.Vec.{Vec}
use Rattle.model_body.specs.Histories as histories
use Rattle.model_body.specs.Desks as desks
use Rattle.model_body.specs.Desks.{BodyDesk, IsNext}
use Rattle.relay_queue.specs.declared.config.BodyConfig.{BodyConfig}
use Rattle.relay_queue.specs.declared.turn.Turn.{Turn}
use Rattle.relay_queue.specs.declared.turn.Turn.TheVariants as turns

-- the bytes of each body
abbrev pub bodies_view : {A : Type 0} → List (Vec ℕ A) → List (List ℕ)
bodies_view bodies = map (λ body. body.items) bodies

abbrev pub config_view : BodyConfig → desks.BodyConfig
config_view c = record { batch_bytes = c.batch_bytes; memory_bytes = c.memory_bytes }

abbrev pub turn_view : Turn → histories.Turn
turn_view turns.Idle = histories.idle
turn_view turns.Out = histories.is_out
turn_view turns.Again = histories.again

-- how many bodies are in the batch that is out, or is to be sent again
abbrev pub batch_size : histories.Turn → ℕ → ℕ
batch_size histories.idle n = 0
batch_size histories.is_out n = n
batch_size histories.again n = n

-- No batch may be taken: no body is kept, or a batch is out. (profile)
abbrev pub MayNotTake : BodyDesk → Type 0
MayNotTake desk = (desk.kept ≡ []) ⊎ (desk.turn ≡ histories.is_out)

-- A batch of so many bodies may be taken. (profile)
abbrev pub MayTake : BodyDesk → ℕ → Type 0
MayTake desk n = (desk.kept ≢ []) × IsNext desk.turn desk n

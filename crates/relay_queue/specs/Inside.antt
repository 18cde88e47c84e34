-- What the fields of a desk of bodies show, and what is true of them.
use Rattle.std.specs.Prelude.{◌≡◌, ◌+◌, ◌≤◌, [], length, vec_capacity}
use Rattle.model_body.specs.Desks as model
use Rattle.model_body.specs.Desks.{memory_of}
use Rattle.relay_queue.specs.Bodies.{batch_size, config_view, turn_view}
use Rattle.relay_queue.specs.declared.desk.BodyDesk.TheInside.{Inside}

abbrev pub desk_view : {A : Type 0} → Inside A → model.BodyDesk
desk_view d = record {
  config = config_view d.config;
  kept = d.line;
  turn = turn_view d.turn;
  size = d.size;
  alone = d.alone;
  admitted = d.admitted;
  delivered = d.delivered;
  lost = d.lost;
}

-- what is true of the fields
pub record IsSound {A : Type 0} (d : Inside A) : Type 0 where
  -- the bodies of the batch that is out are kept, and there is room to hand them out
  pub within : batch_size (turn_view d.turn) d.size ≤ length d.line
  pub room : batch_size (turn_view d.turn) d.size ≤ vec_capacity d.ended
  pub empty : d.ended.items ≡ []
  pub memory : memory_of d.line ≤ d.config.memory_bytes
  pub counts : d.admitted ≡ d.delivered + d.lost + length d.line

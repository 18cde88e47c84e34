-- What the fields of a desk show, and what is true of them.
use Rattle.std.specs.Prelude.{◌≡◌, option_map, is_some}
use Rattle.model_desk.specs.Desks as model
use Rattle.batch_desk.specs.Counts.{AreCounts}
use Rattle.drop_ledger.specs.Counts.{drop_counts_view}
use Rattle.batch_desk.specs.Views.{out_view, fate_counts_view}
use Rattle.batch_desk.specs.declared.desk.Desk.TheInside.{Inside}

abbrev pub desk_view : {A : Type 0} → Inside A → model.Desk
desk_view d = record {
  config = record { queue = d.ring.queue; batch = d.ring.batch; delay_ms = d.delay_ms };
  waiting = d.ring.items;
  out = option_map out_view d.out;
  ledger = d.ledger;
  lost = d.lost;
  next_ticket = d.next_ticket;
  taken = d.taken;
  batches = d.batches;
  asked = d.asked;
  closed = d.closed;
  last_moment = d.last_moment;
  handed = d.handed;
  lost_count = d.lost_count;
  late = d.late;
  dropped = drop_counts_view d.dropped;
  fates = fate_counts_view d.fates;
}

-- what is true of the fields
pub record IsSound {A : Type 0} (d : Inside A) : Type 0 where
  pub run_out : d.ring.run_out ≡ is_some d.out
  pub counts : AreCounts (desk_view d)

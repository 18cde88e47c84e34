-- How the counts of a desk agree with each other.
use Rattle.std.specs.Prelude.{◌≡◌, ℕ, ◌+◌, ◌-◌, ◌^◌, ◌<◌, ◌≤◌, true, false, if◌then◌else◌, length}
use Rattle.std.specs.Prelude.{Option, None, Some}
use Rattle.model_desk.specs.Desks.{Desk, FateCounts, OutBatch, accepted_count, in_hand_size}
use Rattle.model_desk.specs.Desks.{out_size, worker_drops}

-- how many batches are out
abbrev pub out_count : Option OutBatch → ℕ
out_count None = 0
out_count (Some batch) = 1

-- how many spans are with the exporter
abbrev pub handed_size : Option OutBatch → ℕ
handed_size None = 0
handed_size (Some batch) = if batch.is_handed then batch.size else 0

-- how many of the handed batches have ended
abbrev pub fate_count : FateCounts → ℕ
fate_count c = c.delivered + c.partial + c.refused + c.bad_reply + c.given_up + c.abandoned

-- What was accepted was taken or waits; what was taken was handed, dropped or is in hand; what is
-- lost was handed.
pub record AreCounts (desk : Desk) : Type 0 where
  pub within : length desk.waiting ≤ desk.config.queue
  pub tickets : accepted_count desk + desk.dropped.queue_full ≡ desk.next_ticket
  pub last_ticket : desk.next_ticket < 2 ^ 64
  pub admits : desk.closed ≡ false → desk.next_ticket < 2 ^ 64 - 1
  -- after a shutdown all were asked for
  pub asked : desk.closed ≡ true → desk.next_ticket < 2 ^ 64 - 1
      → desk.asked ≡ accepted_count desk
  pub taken : desk.taken
      ≡ desk.handed + worker_drops desk.dropped + in_hand_size desk.out
  pub out : out_size desk.out ≤ desk.taken
  pub ledger : length desk.ledger ≤ desk.dropped.queue_full + worker_drops desk.dropped
  pub lost : length desk.lost ≤ desk.lost_count
  pub lost_handed : desk.lost_count + handed_size desk.out ≤ desk.handed
  pub batches : desk.batches ≤ desk.taken
  pub fates : fate_count desk.fates + out_count desk.out ≤ desk.batches

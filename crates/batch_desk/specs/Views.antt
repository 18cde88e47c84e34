-- What sizes and counts are in the model.
use Rattle.model_desk.specs.Desks as desks
use Rattle.batch_desk.specs.declared.config.DeskConfig.{DeskConfig}
use Rattle.batch_desk.specs.declared.desk.TakenBatch.{TakenBatch}
use Rattle.batch_desk.specs.declared.totals.FateCounts.{FateCounts}

abbrev pub config_view : DeskConfig → desks.DeskConfig
config_view c = record { queue = c.queue; batch = c.batch; delay_ms = c.delay_ms }

abbrev pub out_view : TakenBatch → desks.OutBatch
out_view b = record { number = b.number; size = b.size; is_handed = b.is_handed }

abbrev pub fate_counts_view : FateCounts → desks.FateCounts
fate_counts_view c = record {
  delivered = c.delivered;
  partial = c.partial;
  refused = c.refused;
  bad_reply = c.bad_reply;
  given_up = c.given_up;
  abandoned = c.abandoned;
}

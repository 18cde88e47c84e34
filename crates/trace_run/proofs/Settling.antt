-- When a batch that is out can be settled.
use Rattle.std.proofs.Common.{true, length, sym, ap}
use Rattle.std.specs.Prelude.{option_map}
use Rattle.model_desk.specs.Retries.{Fate}
use Rattle.model_desk.specs.Desks.{Desk, OutBatch, out_size}
use Rattle.batch_desk.specs.Batch.{BatchView}
use Rattle.batch_desk.specs.Desk.{CanSettle, IsOut}

-- A batch that was handed, with all its spans, can be settled.
pub can-settle : (d : Desk) (b : BatchView) (fate : Fate) → IsOut true d b
    → CanSettle d fate b.number b.room (length b.spans)
can-settle d b fate o = record {
  out = ap (option_map (λ (x : OutBatch). (x.number, x.is_handed))) o.out;
  fits = o.room;
  whole = λ loss. sym (ap out_size o.out);
}

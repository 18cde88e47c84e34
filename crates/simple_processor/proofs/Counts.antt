-- One more is counted.
use Rattle.std.proofs.Common.{◌≡◌, ◌+◌, ap, ◌∙◌, arith}
use Rattle.model_desk.specs.Desks as model
use Rattle.model_desk.specs.Desks.{with_drops}
use Rattle.otlp_span.specs.Dropped.{reason_view}
use Rattle.otlp_proto.specs.Bodies.{reason_of}
use Rattle.otlp_proto.specs.declared.encoder.EncodeFault.{EncodeFault}
use Rattle.otlp_proto.specs.declared.encoder.EncodeFault.TheVariants as faults
use Rattle.drop_ledger.specs.Counts.{drop_counts_view}
use Rattle.drop_ledger.specs.declared.counts.DropCounts.{DropCounts}
use Rattle.simple_processor.specs.ExportStates.{CountsOne}

-- A span without a body is counted once, for the reason of its fault.
pub counts_one : (fault : EncodeFault) (old new : DropCounts)
    → drop_counts_view new ≡ with_drops (reason_view (reason_of fault)) 1 (drop_counts_view old)
    → CountsOne (reason_view (reason_of fault)) old new
counts_one faults.OutOfMemory old new is =
    let memory : new.encode_memory ≡ old.encode_memory + 1 =
    ap (λ (d : model.DropCounts). d.encode_memory) is in
    let large : new.too_large ≡ old.too_large = ap (λ (d : model.DropCounts). d.too_large) is in
    record {
      sum = omega arith;
      others = λ o. record {
        queue_full = ap (λ (d : model.DropCounts). d.queue_full) is ∙ o.queue_full;
        abandoned = ap (λ (d : model.DropCounts). d.abandoned) is ∙ o.abandoned;
      };
      state = λ s i. record s { encode_memory = memory i; too_large = large i };
    }
counts_one faults.TooLarge old new is =
    let memory : new.encode_memory ≡ old.encode_memory =
    ap (λ (d : model.DropCounts). d.encode_memory) is in
    let large : new.too_large ≡ old.too_large + 1 = ap (λ (d : model.DropCounts). d.too_large) is in
    record {
      sum = omega arith;
      others = λ o. record {
        queue_full = ap (λ (d : model.DropCounts). d.queue_full) is ∙ o.queue_full;
        abandoned = ap (λ (d : model.DropCounts). d.abandoned) is ∙ o.abandoned;
      };
      state = λ s i. record s { encode_memory = memory i; too_large = large i };
    }

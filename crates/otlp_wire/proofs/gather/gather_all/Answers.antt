use Rattle.std.proofs.Common.{◌≡◌, Err, [], arith}
use Rattle.model_message.specs.Messages.{value, max_depth}
use Rattle.otlp_wire.proofs.GatherSteps.{part-names}
use Rattle.otlp_wire.proofs.Finished.{message-is}
use Rattle.otlp_wire.proofs.gather.gather_all.Goals as goal

pub returns-in_err-gather-clause-err : goal.returns-in_err-gather-clause-err
returns-in_err-gather-clause-err g c =
    let told : c.from_residual.result ≡ Err c.in_err-gather.field-0.0 = grind arith in
    rw told
    (part-names
    (value max_depth) g.G.GatherFields.table [] [] c.args.content.now c.in_err-gather.field-0.0
    (c.in_err-gather.ensures.err _ _))

pub returns-clause-ok : goal.returns-clause-ok
returns-clause-ok g c =
    message-is (value max_depth) g.G.GatherFields.table (g.G.GatherFields.gathered c.args.empty)
    (g.G.GatherFields.gathered c.gather.new.gathered) c.args.content.now c.requires
    c.in_ok-gather.ensures.ok c.in_ok-gather.ensures.whole

use Rattle.std.proofs.Common.{arith}
use Rattle.model_message.specs.Tables
use Rattle.otlp_read.specs.Spans.{link_gathered}
use Rattle.otlp_read.proofs.TableSteps.{finish-fails}
use Rattle.otlp_read.proofs.span.LinkPartsGatherFields.finish.Goals as goal

pub returns-in_err-read_text-clause-err : goal.returns-in_err-read_text-clause-err
returns-in_err-read_text-clause-err g c =
    finish-fails 2 Tables.link (link_gathered c.args.self) c.in_err-read_text.ensures.err
    (grind arith)

use Rattle.std.proofs.Common.{arith}
use Rattle.model_message.specs.Tables
use Rattle.otlp_read.specs.Spans.{span_gathered}
use Rattle.otlp_read.proofs.TableSteps.{finish-fails}
use Rattle.otlp_read.proofs.span.SpanPartsGatherFields.finish.Goals as goal

pub returns-in_err-read_text-clause-err : goal.returns-in_err-read_text-clause-err
returns-in_err-read_text-clause-err g c =
    finish-fails 2 Tables.span (span_gathered c.args.self) c.in_err-read_text.ensures.err
    (grind arith)

pub returns-in_err-read_text-2-clause-err : goal.returns-in_err-read_text-2-clause-err
returns-in_err-read_text-2-clause-err g c =
    finish-fails 4 Tables.span (span_gathered c.args.self) c.in_err-read_text-2.ensures.err
    (grind arith)

pub returns-in_err-finish-clause-err : goal.returns-in_err-finish-clause-err
returns-in_err-finish-clause-err g c =
    finish-fails 14 Tables.span (span_gathered c.args.self) c.in_err-finish.ensures.err
    (grind arith)

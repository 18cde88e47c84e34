use Rattle.std.proofs.Common.{string_bytes}
use Rattle.trace_script.proofs.Read.{if-ok}
use Rattle.trace_script.proofs.Runs.{run-is}
use Rattle.trace_script.proofs.Steps.{words-are}
use Rattle.trace_script.proofs.text.text_of_script.Goals as goal

pub returns : goal.returns
returns g c = λ read means.
    let report = c.in_ok-report.report in
    let said = c.in_ok-report.ensures in
    let words = words-are c.args.script.words.items in
    if-ok c.text_of_run-text.result
    (λ text lines. run-is c.args.script read report.answers report.desk c.run.new.exporter.handed
    (string_bytes text) means
    (rw c.as_slice.ensures.value at said.count)
    (rw (
      c.as_slice.ensures.value,
      c.new-2.ensures,
      words,
      c.new.ensures,
      c.default.ensures,
      c.unwrap_or.ensures,
    ) at said.answered)
    (rw (
      c.as_slice.ensures.value,
      c.new-2.ensures,
      words,
      c.new.ensures,
      c.default.ensures,
      c.unwrap_or.ensures,
    ) at said.desk)
    (rw (
      c.as_slice.ensures.value,
      c.new-2.ensures,
      words,
      c.new.ensures,
      c.default.ensures,
      c.unwrap_or.ensures,
      c.new-exporter.ensures,
    ) at said.headline)
    (rw (c.as_slice-2.ensures.value, c.handed.ensures) at lines)) c.text_of_run-text.ensures

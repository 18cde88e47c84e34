use Rattle.std.proofs.Common.{rules, ◌≡◌, ap, of_z, to_z, w64}
use Rattle.std.proofs.lemmas.Str.{is_utf8-from_IsUtf8}
use Rattle.model_desk.specs.Retries.{Outcome}
use Rattle.http_exporter.proofs.FailureLemmas.{not_in_part}
use Rattle.http_exporter.proofs.failure.rejection.Goals as goal

pub returns-in-Ok-clause-outcome : goal.returns-in-Ok-clause-outcome
returns-in-Ok-clause-outcome c =
    let same : to_z w64 (of_z w64 c.args.rejected) ≡ c.args.rejected = search rules in
    rw (is_utf8-from_IsUtf8 c.args.message.now c.in-Ok.ensures.cases.1) (ap Outcome.partial same)

pub returns-in-Err-clause-outcome : goal.returns-in-Err-clause-outcome
returns-in-Err-clause-outcome c = not_in_part c.args.message.now _ c.in-Err.ensures.cases.0

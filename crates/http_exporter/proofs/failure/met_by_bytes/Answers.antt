use Rattle.std.proofs.Common.{rules, ◌≡◌, ◌∙◌, ap, if◌then◌else◌, int_lt, pos, false, true}
use Rattle.std.proofs.Common.{of_z, to_z, w64}
use Rattle.std.specs.Str.{is_utf8}
use Rattle.model_message.specs.Tables
use Rattle.model_message.specs.Tables.{◌▸◌}
use Rattle.model_message.specs.Messages.{meaning}
use Rattle.model_desk.specs.Retries.{Outcome, delivered}
use Rattle.http_exporter.proofs.FailureLemmas.{taken_faulty, taken_in_part, taken_whole}
use Rattle.http_exporter.proofs.failure.met_by_bytes.Goals as goal

pub returns-then-rejected-gt0-clause-outcome : goal.returns-then-rejected-gt0-clause-outcome
returns-then-rejected-gt0-clause-outcome c =
    let is : (meaning Tables.response c.args.body.now).value
    ≡ ((c.in-Ok.rejected ▸ c.in-Ok.message.now ▸ tt) ▸ tt) =
    search rules in
    let above : int_lt (pos 0) c.in-Ok.rejected ≡ true = search rules in
    let same : to_z w64 (of_z w64 c.in-Ok.rejected) ≡ c.in-Ok.rejected = search rules in
    c.rejection.ensures.outcome
    ∙ ap (λ r. if is_utf8 c.in-Ok.message.now then Outcome.partial r else delivered) same
    ∙ taken_in_part c.args.body.now _ _ is c.in-Ok.ensures.whole above

pub returns-clause-outcome : goal.returns-clause-outcome
returns-clause-outcome c =
    let is : (meaning Tables.response c.args.body.now).value
    ≡ ((c.in-Ok.rejected ▸ c.in-Ok.message.now ▸ tt) ▸ tt) =
    search rules in
    let none : int_lt (pos 0) c.in-Ok.rejected ≡ false = search rules in
    taken_whole c.args.body.now _ _ is none

pub returns-in_default-clause-outcome : goal.returns-in_default-clause-outcome
returns-in_default-clause-outcome c =
    taken_faulty c.args.body.now (search rules)

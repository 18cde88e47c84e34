use Rattle.std.proofs.Common.{◌≡◌, arith, rules, codes}
use Rattle.std.proofs.lemmas.Slice.Eq.{text_from_reads}
use Rattle.trace_script.specs.Outcomes.{numbered_outcome_of}
use Rattle.trace_script.proofs.outcome.parse_numbered_outcome.Goals as goal

pub returns-in_ok-integer-in-partial : goal.returns-in_ok-integer-in-partial
unfolding numbered_outcome_of
returns-in_ok-integer-in-partial c =
    let e : c.args.name.now ≡ codes "partial" =
    text_from_reads c.args.name.now (codes "partial") (omega arith) (search rules) in
    rw e (search rules)

pub returns-in_ok-http_status-in-refused : goal.returns-in_ok-http_status-in-refused
unfolding numbered_outcome_of
returns-in_ok-http_status-in-refused c =
    let e : c.args.name.now ≡ codes "refused" =
    text_from_reads c.args.name.now (codes "refused") (omega arith) (search rules) in
    rw e (search rules)

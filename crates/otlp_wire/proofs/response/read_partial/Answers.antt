use Rattle.std.proofs.Common.{arith}
use Rattle.otlp_wire.proofs.ResponseMeaning.{row-fault, text-fault, not-none, is-read}
use Rattle.otlp_wire.proofs.response.read_partial.Goals as goal

pub returns-in_err-counted-clause-err : goal.returns-in_err-counted-clause-err
returns-in_err-counted-clause-err c =
    let bad = row-fault c.args.body.now _ c.in_err-counted.ensures.err in
    grind (arith, bad)

pub returns-in_err-counted-clause-faulty : goal.returns-in_err-counted-clause-faulty
returns-in_err-counted-clause-faulty c =
    let bad = not-none _ _ (row-fault c.args.body.now _ c.in_err-counted.ensures.err) in
    grind (arith, bad)

pub returns-in-Err-clause-err : goal.returns-in-Err-clause-err
returns-in-Err-clause-err c =
    text-fault c.args.body.now c.in_ok-counted.counted c.in_ok-counted.ensures.ok
    c.in-Err.ensures.cases.0

pub returns-in-Err-clause-faulty : goal.returns-in-Err-clause-faulty
returns-in-Err-clause-faulty c =
    not-none _ _
    (text-fault c.args.body.now c.in_ok-counted.counted c.in_ok-counted.ensures.ok
    c.in-Err.ensures.cases.0)

pub returns-in-Ok-clause-ok : goal.returns-in-Ok-clause-ok
returns-in-Ok-clause-ok c =
    is-read c.args.body.now c.in_ok-counted.counted _ c.in_ok-counted.ensures.ok
    c.in_ok-counted.ensures.whole c.in-Ok.ensures.cases.1 c.in-Ok.ensures.cases.0

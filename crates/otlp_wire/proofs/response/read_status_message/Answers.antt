use Rattle.std.proofs.Common.{refl, [], arith}
use Rattle.otlp_wire.proofs.ResponseMeaning.{counts-none, status-row-fault, status-text-fault}
use Rattle.otlp_wire.proofs.ResponseMeaning.{status-is-read, not-none}
use Rattle.otlp_wire.proofs.response.read_status_message.Goals as goal

pub returns-in_err-counted-clause-err : goal.returns-in_err-counted-clause-err
returns-in_err-counted-clause-err c =
    let bad = status-row-fault c.args.body.now _ c.in_err-counted.ensures.err in
    grind (arith, bad)

pub returns-in_err-counted-clause-faulty : goal.returns-in_err-counted-clause-faulty
returns-in_err-counted-clause-faulty c =
    let bad = not-none _ _ (status-row-fault c.args.body.now _ c.in_err-counted.ensures.err) in
    grind (arith, bad)

pub returns-in-Err-clause-err : goal.returns-in-Err-clause-err
returns-in-Err-clause-err c =
    let counts = c.in_ok-counted.ensures.ok [] (counts-none refl refl) in
    status-text-fault c.args.body.now c.in_ok-counted.counted counts c.in-Err.ensures.cases.0

pub returns-in-Err-clause-faulty : goal.returns-in-Err-clause-faulty
returns-in-Err-clause-faulty c =
    let counts = c.in_ok-counted.ensures.ok [] (counts-none refl refl) in
    not-none _ _
    (status-text-fault c.args.body.now c.in_ok-counted.counted counts c.in-Err.ensures.cases.0)

pub returns-in-Ok-clause-ok : goal.returns-in-Ok-clause-ok
returns-in-Ok-clause-ok c =
    let counts = c.in_ok-counted.ensures.ok [] (counts-none refl refl) in
    status-is-read c.args.body.now c.in_ok-counted.counted _ counts c.in_ok-counted.ensures.whole
    c.in-Ok.ensures.cases.1 c.in-Ok.ensures.cases.0

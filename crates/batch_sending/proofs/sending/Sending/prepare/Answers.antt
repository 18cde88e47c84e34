use Rattle.batch_sending.proofs.Bodies.{body_is}
use Rattle.batch_sending.proofs.sending.Sending.prepare.Goals as goal

pub returns-clause-body : goal.returns-clause-body
returns-clause-body g c =
    body_is c.args.spans.now c.in_ok-body.body.items c.in_ok-body.ensures.meaning
    c.in_ok-body.ensures.canonical

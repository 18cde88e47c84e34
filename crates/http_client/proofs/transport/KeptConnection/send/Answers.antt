use Rattle.std.proofs.Common.{◌∙◌, sym}
use Rattle.http_client.proofs.KeptSends.{got-answer, got-nothing, sent-again, sent-anew}
use Rattle.http_client.proofs.transport.KeptConnection.send.Goals as goal

pub returns-in_default : goal.returns-in_default
returns-in_default g c =
    sent-anew _ _ _ _ _ _ c.args.self.now c.take.new.self c.take.result c.ready.result
    c.send_anew.new.self _ c.take.ensures.link c.take.ensures.others c.ready.ensures
    c.in_default.is c.send_anew.ensures

pub returns-in-Answer : goal.returns-in-Answer
returns-in-Answer g c =
    got-answer _ _ _ _ _ _ c.args.self.now c.take.new.self c.take.result c.ready.result
    c.in-Some.link c.exchange_kept.new.link c.keep.new.self c.in-Answer.lasts _
    c.take.ensures.link c.take.ensures.others c.ready.ensures c.in-Some.is c.in-Answer.ensures
    c.keep.ensures.kept c.keep.ensures.dial

pub returns-then-not-is_idempotent : goal.returns-then-not-is_idempotent
returns-then-not-is_idempotent g c =
    got-nothing _ _ _ _ _ _ c.args.self.now c.take.new.self c.take.result c.ready.result
    c.in-Some.link c.exchange_kept.new.link c.in-Nothing.fault
    c.take.ensures.link c.take.ensures.others c.ready.ensures c.in-Some.is c.in-Nothing.ensures
    (sym c.is_idempotent.ensures ∙ c.if-not-is_idempotent.true)

pub returns-else-not-is_idempotent : goal.returns-else-not-is_idempotent
returns-else-not-is_idempotent g c =
    sent-again _ _ _ _ _ _ c.args.self.now c.take.new.self c.take.result c.ready.result
    c.in-Some.link c.exchange_kept.new.link c.in-Nothing.fault c.send_anew-in-Nothing.new.self _
    c.take.ensures.link c.take.ensures.others c.ready.ensures c.in-Some.is c.in-Nothing.ensures
    (sym c.is_idempotent.ensures ∙ c.if-not-is_idempotent.false) c.send_anew-in-Nothing.ensures

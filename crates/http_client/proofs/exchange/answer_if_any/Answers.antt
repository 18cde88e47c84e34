use Rattle.std.proofs.Common.{refl}
use Rattle.http_client.specs.KeptLinks.{ended, failed}
use Rattle.http_client.proofs.Sent.{answered-after}
use Rattle.http_client.proofs.exchange.answer_if_any.Goals as goal

pub returns-in-Err : goal.returns-in-Err
returns-in-Err g c = failed c.peek.ensures.kept c.in-Err.ensures.counted refl

pub returns-then-not-begins : goal.returns-then-not-begins
returns-then-not-begins g c =
    ended c.peek.ensures.kept (c.in-Ok.ensures.end c.if-not-begins.true) refl

pub returns : goal.returns
returns g c =
    answered-after _ _ _ c.peek.new.self _ _ _ c.peek.ensures.kept c.in-Ok.ensures.counted
    c.read_answer-result.ensures

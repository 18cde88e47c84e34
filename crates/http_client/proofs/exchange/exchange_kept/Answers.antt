use Rattle.std.proofs.Common.{refl}
use Rattle.http_client.specs.KeptLinks.{stopped}
use Rattle.http_client.proofs.Sent.{comes-to}
use Rattle.http_client.proofs.exchange.exchange_kept.Goals as goal

pub returns-in-Ok : goal.returns-in-Ok
returns-in-Ok g c =
    comes-to _ _ _ _ c.send_text.new.link _ c.answer_if_any.result c.in-Ok.ensures.sent
    c.answer_if_any.ensures

pub returns-in-Err : goal.returns-in-Err
returns-in-Err g c = stopped c.in-Err.ensures.stopped refl

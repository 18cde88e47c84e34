use Rattle.http_client.proofs.Sent.{sent-whole, stopped-within}
use Rattle.http_client.proofs.exchange.send_text.Goals as goal

pub returns-in-Ok-clause-sent : goal.returns-in-Ok-clause-sent
returns-in-Ok-clause-sent g c =
    sent-whole _ _ _ _ _ c.in-Ok.ensures.ok c.in-Ok.ensures.counted

pub returns-in-Err-clause-stopped : goal.returns-in-Err-clause-stopped
returns-in-Err-clause-stopped g c =
    let stop = c.in-Err.ensures in
    stopped-within _ _ _ _ _ _ stop.within stop.stopped stop.counted

use Rattle.http_client.specs.Exchanges.{linked}
use Rattle.http_client.proofs.transport.NewConnections.send.Goals as goal

pub returns : goal.returns
returns g c =
    rw (← c.self.view_is)
    (linked c.in-Some.link c.exchange-result.new.link c.exchange-result.result.1
    (rw (← c.host.ensures.value, ← c.port.ensures) c.in-Some.ensures) c.exchange-result.ensures)

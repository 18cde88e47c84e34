use Rattle.std.proofs.Common.{inr}
use Rattle.http_client.proofs.transport.KeptConnectionTransport.ask.Goals as goal

pub returns-in-Ok : goal.returns-in-Ok
returns-in-Ok g c =
    inr (rw (c.deref.ensures.value, c.in-Ok.ensures, c.connection_for-connection.ensures)
    at c.send.ensures)

use Rattle.std.proofs.Common.{refl}
use Rattle.http_client.specs.Exchanges.{replied, stopped}
use Rattle.http_client.proofs.exchange.exchange.Goals as goal

pub returns-in-Ok : goal.returns-in-Ok
returns-in-Ok g c = replied c.send_text.new.link c.in-Ok.ensures.sent c.read_answer.ensures

pub returns-in-Err : goal.returns-in-Err
returns-in-Err g c = stopped c.in-Err.ensures.stopped refl refl

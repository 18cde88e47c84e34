use Rattle.http_connection.specs.Runs.{asks_head}
use Rattle.http_connection.proofs.RunLemmas.{refused_run}
use Rattle.http_connection.proofs.connection.Connection.refuse.Goals as goal

pub returns-in-Ok-clause-runs : goal.returns-in-Ok-clause-runs
returns-in-Ok-clause-runs g c = λ place may.
    refused_run _ _ _ _ place c.args.refusal _ (asks_head c.args.self.now.request) _ _ _ _ _ may
    c.in-Ok.ensures.ok c.send_refusal.ensures.place c.send_refusal.ensures.text

use Rattle.http_connection.proofs.Dates.{is-dated}
use Rattle.http_connection.proofs.date.add_date.Goals as goal

pub returns-clause-added : goal.returns-clause-added
returns-clause-added c =
    is-dated _ _ _ c.in-Ok.date _ _ _ c.in-Ok.ensures.value c.from_static.ensures
    c.to_bytes.ensures c.in-Ok-from_bytes.ensures.ok c.in_ok-add_header.ensures.headers

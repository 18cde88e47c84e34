use Rattle.http_connection.proofs.RunLemmas.{stops_never_stalls}
use Rattle.http_connection.proofs.connection.Connection.advance_to_whole.Goals as goal

pub returns-clause-rests : goal.returns-clause-rests
returns-clause-rests g c = stops_never_stalls _ _ _ _ _ c.go_on.ensures.stops

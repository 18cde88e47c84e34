use Rattle.http_connection.proofs.RunLemmas.{stops_answered, stops_never_stalls}
use Rattle.http_connection.proofs.connection.Connection.advance.Goals as goal

pub returns-clause-rests : goal.returns-clause-rests
returns-clause-rests g c = stops_never_stalls _ _ _ _ _ c.go_on.ensures.stops

pub returns-clause-answered : goal.returns-clause-answered
returns-clause-answered g c = stops_answered _ _ _ c.go_on.ensures.stops

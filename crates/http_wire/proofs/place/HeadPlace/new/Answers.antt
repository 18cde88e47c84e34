use Rattle.http_wire.proofs.PlaceLemmas.{place_new}
use Rattle.http_wire.proofs.place.HeadPlace.new.Goals as goal

pub returns : goal.returns
returns c = place_new

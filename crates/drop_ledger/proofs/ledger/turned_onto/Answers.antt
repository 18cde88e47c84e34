use Rattle.drop_ledger.proofs.Tally.{fewer-below}
use Rattle.drop_ledger.proofs.ledger.turned_onto.Goals as goal

pub loop-rest-smaller : goal.loop-rest-smaller
loop-rest-smaller g c =
    fewer-below c.loop-rest.rest c.relink-rest.result c.in-Some.slip
    c.loop-rest.invariant.rest_named c.in-Some.is c.relink-rest.ensures.below

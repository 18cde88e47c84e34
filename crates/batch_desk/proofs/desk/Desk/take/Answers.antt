use Rattle.std.proofs.Common.{arith, rules}
use Rattle.std.proofs.lemmas.Grind.{common_steps}
use Rattle.batch_desk.proofs.Histories.{taken_follows}
use Rattle.batch_desk.proofs.desk.Desk.take.Goals as goal

pub invariant_of-self : goal.invariant_of-self
invariant_of-self g c = record {
  run_out = grind (arith, common_steps);
  counts = record {
    within = grind (arith, common_steps);
    tickets = grind (arith, common_steps);
    last_ticket = grind (arith, common_steps);
    admits = grind (arith, common_steps);
    asked = grind (arith, common_steps);
    taken = grind (arith, common_steps);
    out = grind (arith, common_steps);
    ledger = grind (arith, common_steps);
    lost = grind (arith, common_steps);
    lost_handed = grind (arith, common_steps);
    batches = grind (arith, common_steps);
    fates = grind (arith, common_steps);
  };
}

pub returns-clause-history : goal.returns-clause-history
returns-clause-history g c =
    taken_follows _ _ _ _ (search rules) (search rules) (search rules) (search rules)

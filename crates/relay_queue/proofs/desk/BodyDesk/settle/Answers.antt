use Rattle.std.proofs.Common.{◌≤◌, ap, arith, length, length-drop, rules}
use Rattle.model_body.specs.Desks.{memory_of}
use Rattle.model_body.proofs.Sound.{memory-dropped}
use Rattle.retry_core.specs.Retries.{fate_view}
use Rattle.relay_queue.proofs.Histories.{settled_follows}
use Rattle.relay_queue.proofs.Steps.{settled_split, settled_whole}
use Rattle.relay_queue.proofs.desk.BodyDesk.settle.Goals as goal

pub returns-then-is_split-clause-history : goal.returns-then-is_split-clause-history
returns-then-is_split-clause-history g c =
    settled_follows _ _ (fate_view c.args.fate) c.requires
    (settled_split (fate_view c.args.fate) c.args.self.now _ (search rules) (search rules))

pub invariant_of-self-2 : goal.invariant_of-self-2
invariant_of-self-2 g c =
    let fits : c.self.inside.size ≤ length c.self.inside.line = search rules in
    let left = c.move_first.ensures.line in
    record {
      within = search rules;
      room = search rules;
      empty = search rules;
      memory =
          omega (
            arith,
            memory-dropped c.self.inside.size c.self.inside.line,
            ap memory_of left,
            c.self.invariant.memory,
          );
      counts =
          omega (
            arith,
            fits,
            ap length left,
            length-drop c.self.inside.size c.self.inside.line,
            c.counts_after-delivered.ensures.sum,
            c.self.invariant.counts,
          );
    }

pub returns-clause-history : goal.returns-clause-history
returns-clause-history g c =
    settled_follows _ _ (fate_view c.args.fate) c.requires
    (settled_whole (fate_view c.args.fate) c.args.self.now _ (search rules) (search rules))

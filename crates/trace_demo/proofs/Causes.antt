-- Why words ask for no run.
use Rattle.std.proofs.Common.{◌≡◌, List, inl, inr, ℕ, arith, codes, subst, sym}
use Rattle.std.specs.Prelude.{Err, IfErr, Ok, Result, String}
use Rattle.std.proofs.lemmas.Bool.{cases_lt}
use Rattle.program_args.specs.Faults.{IsMistake}
use Rattle.program_args.specs.Words as given
use Rattle.program_args.specs.Words.{IsTaken, IsWithin, number_in}
use Rattle.program_args.specs.declared.fault.ArgFault.{ArgFault}
use Rattle.program_args.specs.declared.fault.ArgFault.TheVariants as faults
use Rattle.trace_demo.specs.Args.{IsInRange}
use Rattle.trace_demo.specs.Command.{HaveLargeBatch, IsCause, batch_in, command, queue_in}

-- A fault of the command line alone is a fault of the program.
pub cause-of : {A T : Type 0} (words : List (String A)) (r : Result T ArgFault)
    → IfErr r (given.IsCause command words) → IfErr r (IsCause words)
cause-of words (Ok value) cause = tt
cause-of words (Err (faults.Help text)) cause = cause
cause-of words (Err (faults.Version text)) cause = cause
cause-of words (Err (faults.Mistake text)) cause = inl cause
cause-of words (Err faults.OutOfMemory) cause = tt

-- A mistake where the batch is above the queue is a fault of the program.
pub cause-of-batch : {A : Type 0} (words : List (String A)) (fault : ArgFault) → IsMistake fault
    → HaveLargeBatch words → IsCause words fault
cause-of-batch words (faults.Help text) mistake large = absurd mistake
cause-of-batch words (faults.Version text) mistake large = absurd mistake
cause-of-batch words (faults.Mistake text) mistake large = inr large
cause-of-batch words faults.OutOfMemory mistake large = tt

-- Numbers that are each within their bounds, and refused together, have a batch above the queue.
pub large-batch : {A : Type 0} (words : List (String A)) (threads spans queue batch : ℕ)
    → ¬ IsInRange threads spans queue batch → IsTaken command words
    → threads ≡ number_in command (codes "threads") 4 words
    → spans ≡ number_in command (codes "spans") 1000 words → queue ≡ queue_in words
    → batch ≡ batch_in words
    → IsWithin 1 63 (number_in command (codes "threads") 4 words)
    → IsWithin 1 1_000_000 (number_in command (codes "spans") 1000 words)
    → IsWithin 1 65_536 (queue_in words) → IsWithin 1 65_536 (batch_in words) → HaveLargeBatch words
large-batch words threads spans queue batch refused taken t_is s_is q_is b_is t s q b =
    elim (cases_lt queue batch) [
      | inl large ↦ (taken, omega (arith, large, q_is, b_is))
      | inr fits ↦
          absurd (refused (
            subst (IsWithin 1 63) (sym t_is) t,
            subst (IsWithin 1 1_000_000) (sym s_is) s,
            subst (IsWithin 1 65_536) (sym q_is) q,
            (omega (arith, b_is, b.0), fits),
          ))
    ]

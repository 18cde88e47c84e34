-- What was refused to the spans of several threads.
use Rattle.std.specs.Prelude.{◌≡◌, ℕ, ◌+◌, List, fold}
use Rattle.thread_tracer.specs.Counts.{counted}
use Rattle.thread_tracer.specs.declared.tracer.Refused.{Refused}
use Rattle.traced_service.specs.declared.work.ThreadDone.{ThreadDone}

abbrev pub not_started_after : {T : Type 0} → ℕ → ThreadDone T → ℕ
not_started_after count thread = counted (count + thread.refused.not_started)

abbrev pub left_out_after : {T : Type 0} → ℕ → ThreadDone T → ℕ
left_out_after count thread = counted (count + thread.refused.left_out)

-- the sums of both counts, which stop at the greatest number of 64 bits
pub record Sums {T : Type 0} (threads : List (ThreadDone T)) (refused : Refused) : Type 0 where
  pub not_started : refused.not_started ≡ fold not_started_after 0 threads
  pub left_out : refused.left_out ≡ fold left_out_after 0 threads

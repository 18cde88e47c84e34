use Rattle.std.proofs.Common.{◌≡◌, length, List, All}
use Rattle.std.specs.List.{flat_map}
use Rattle.std.specs.Io.KnownBytes.{Consumes}
use Rattle.httparse.specs.Grammar.{ResponseHead, print_response}
use Rattle.otlp_http.specs.Heads.{IsInterim}
use Rattle.otlp_http.proofs.head.read_final_head.Given as goal

-- `_skipped` interim heads were read, and nothing failed
abbrev pub invariant-loop-skipped : goal.invariant-loop-skipped
invariant-loop-skipped g l =
    let remaining = g.R.FaultRead.remaining in
    let failures = g.R.FaultRead.failures in
    ((interims : List ResponseHead) × (length interims ≡ l._skipped)
    × All (IsInterim l.limits) interims
    × Consumes (remaining l.initial.reader) (remaining l.reader) (flat_map print_response interims))
    × (length l.spans ≡ l.limits.fields) × (failures l.reader ≡ failures l.initial.reader)

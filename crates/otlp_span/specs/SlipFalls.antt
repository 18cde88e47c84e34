-- A slip has more names than what is linked below it.
use Rattle.std.specs.Prelude.{◌≤◌, max, length, None, Some}
use Rattle.std.specs.declared.alloc.Allocator.{Ghosts}
use Rattle.std.proofs.Common.{arith}
use Rattle.otlp_span.specs.declared.slip.SlipNode.{SlipNode}
use Rattle.otlp_span.specs.declared.slip.SlipNode.TheVariants as nodes
use Rattle.otlp_span.specs.declared.slip.Slip.TheDeep.{deep-SlipNode}
use Rattle.otlp_span.specs.Slips.{node_entries}

-- nothing below is deeper than there are names
pub depth-le-length : (A : Type 0) (G : Ghosts A) (n : SlipNode A)
    → max (deep-SlipNode A G n) 0 ≤ length (node_entries n)
depth-le-length A G nodes.Blank = omega arith
depth-le-length A G (nodes.Named e None) = omega arith
depth-le-length A G (nodes.Named e (Some es)) = omega arith

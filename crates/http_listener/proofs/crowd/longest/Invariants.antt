use Rattle.slab.specs.Slab.{entries}
use Rattle.http_listener.proofs.Looking.{Looked}
use Rattle.http_listener.proofs.crowd.longest.Given as goal

-- of the peers so far, the longest is found
abbrev pub invariant-loop-key : goal.invariant-loop-key
invariant-loop-key g l = Looked l.only_idle (entries l.peers) l.key-iterator l.longest.found

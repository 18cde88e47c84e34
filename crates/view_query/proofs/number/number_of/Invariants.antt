use Rattle.std.proofs.Common.{◌≡◌, drop}
use Rattle.view_query.specs.Numbers.{number_after}
use Rattle.view_query.proofs.number.number_of.Given as goal

-- the digits that are left go on with the number
abbrev pub invariant-loop-byte : goal.invariant-loop-byte
invariant-loop-byte l = number_after l.number (drop l.byte-index l.text) ≡ number_after 0 l.text

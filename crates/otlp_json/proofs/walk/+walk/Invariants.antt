use Rattle.std.proofs.Common.{◌≡◌, ℕ, suc, ◌+◌, ◌-◌, ◌*◌, ◌≤◌, ◌<◌, length}
use Rattle.otlp_json.specs.Bodies.{object, members, items}
use Rattle.otlp_json.specs.Writing.{appended}
use Rattle.otlp_json.proofs.walk.+walk.Given as goal

abbrev pub decreases-object : goal.decreases-object
decreases-object g l = 5 * l.depth

abbrev pub decreases-nested : goal.decreases-nested
decreases-nested g l = 5 * l.depth + 1

abbrev pub decreases-each : goal.decreases-each
decreases-each g l = 5 * l.depth + 2

abbrev pub decreases-value : goal.decreases-value
decreases-value g l = 5 * l.depth + 3

abbrev pub decreases-member : goal.decreases-member
decreases-member g l = 5 * l.depth + 4

-- the members that were read are written, and those that are left are still to be read, in no more
-- turns than tokens
abbrev pub invariant-object-members : goal.invariant-object-members
invariant-object-members g l =
    (turns : ℕ) × (length l.reader < turns) × (length l.reader ≤ length l.initial.reader)
    × (appended l.initial.out.items (members (object (l.depth - 1)) l.message
    (suc (length l.initial.reader)) l.initial.reader)
    ≡ appended l.out.items (members (object (l.depth - 1)) l.message turns l.reader))

abbrev pub decreases-object-members : goal.decreases-object-members
decreases-object-members g l = length l.reader

-- the same of items
abbrev pub invariant-each-items : goal.invariant-each-items
invariant-each-items g l =
    (turns : ℕ) × (length l.reader < turns) × (length l.reader ≤ length l.initial.reader)
    × (appended l.initial.out.items (items (object l.depth) l.number l.message
    (suc (length l.initial.reader)) l.initial.reader)
    ≡ appended l.out.items (items (object l.depth) l.number l.message turns l.reader))

abbrev pub decreases-each-items : goal.decreases-each-items
decreases-each-items g l = length l.reader

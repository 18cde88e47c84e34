use Rattle.std.proofs.Common.{◌≡◌, map, take, string_bytes}
use Rattle.trace_api.proofs.lent.copy_strings.Given as goal

-- The texts so far are copied.
abbrev pub invariant-loop-text : goal.invariant-loop-text
invariant-loop-text g l =
    map string_bytes l.copied.items ≡ map string_bytes (take l.text-index l.texts)

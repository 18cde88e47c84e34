use Rattle.std.proofs.Common.{map, take, All}
use Rattle.httparse.specs.Spans.{header_bytes}
use Rattle.http_wire.specs.Fields.{IsTaken, KeepsFields}
use Rattle.http_wire.proofs.fields.keep_fields.Given as goal

-- the fields below the index are kept
abbrev pub invariant-loop-span : goal.invariant-loop-span
invariant-loop-span l =
    let fields = map (header_bytes l.text) (take l.span-index l.spans) in
    KeepsFields l.kept fields × All IsTaken fields

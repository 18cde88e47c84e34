use Rattle.std.proofs.Common.{◌≡◌, ◌++◌, flat_map, take}
use Rattle.http_client.specs.Requests.{field_line, lent_fields}
use Rattle.http_client.proofs.request.push_lent.Given as goal

-- the lines of the fields below the index are added
abbrev pub invariant-loop-name : goal.invariant-loop-name
invariant-loop-name l =
    l.text.items
    ≡ l.initial.text.items ++ flat_map field_line (lent_fields (take l.name-index l.fields))

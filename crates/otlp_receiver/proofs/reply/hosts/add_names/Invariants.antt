use Rattle.std.proofs.Common.{◌≡◌, ◌++◌, map, take, string_bytes}
use Rattle.std.specs.Prelude.{flat_map}
use Rattle.otlp_receiver.specs.Hosts.{as_given}
use Rattle.otlp_receiver.proofs.reply.hosts.add_names.Given as goal

-- those of the names so far are there
abbrev pub invariant-loop-name : goal.invariant-loop-name
invariant-loop-name l =
    map string_bytes l.texts.items
    ≡ map string_bytes l.fn.texts.items
    ++ flat_map (λ name. as_given l.port (string_bytes name)) (take l.name-index l.names)

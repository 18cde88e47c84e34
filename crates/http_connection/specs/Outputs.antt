-- What waits to be written.
use Rattle.std.specs.Prelude.{ℕ, List, drop}
use Rattle.http_connection.specs.declared.output.Output.{Output}

-- the bytes that wait, after those that were written
abbrev pub waiting : Output → List ℕ
waiting o = drop o.sent o.bytes.items

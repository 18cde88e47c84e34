-- Where a connection is with a request.
use Rattle.std.specs.Prelude.{ℕ, List, Option, Some, None}
use Rattle.http.specs.declared.request.Request.{Request}
use Rattle.http_connection.specs.declared.connection.Stage.{Stage}
use Rattle.http_connection.specs.declared.connection.Stage.TheVariants as At

-- the whole request at which it stopped, if it did
abbrev pub whole_at : {P : Type 0} → Stage P → Option (Request (List ℕ))
whole_at At.Head = None
whole_at At.Body = None
whole_at (At.Whole request) = Some request
whole_at (At.Pieces p) = None
whole_at (At.Discard left) = None
whole_at At.Closing = None
whole_at At.Aborted = None

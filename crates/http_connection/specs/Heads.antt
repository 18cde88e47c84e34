-- The head of a request.
use Rattle.std.specs.Prelude.{ℕ, List, Option, Some, None}
use Rattle.http.specs.Request.{head_of}
use Rattle.http.specs.declared.request.Parts.{Parts}
use Rattle.http.specs.declared.request.Request.{Request as HttpRequest}

-- the head of a request, if it is known
abbrev pub head_in : Option (HttpRequest (List ℕ)) → Option Parts
head_in (Some request) = Some (head_of request)
head_in None = None

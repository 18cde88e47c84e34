-- What a request carries of its caller's context. (W3C Trace Context, Trace Context HTTP Headers
-- Format)
use Rattle.std.specs.Prelude.{ℕ, List, map, Option}
use Rattle.std.specs.Borrow.{Bor}
use Rattle.http_header.specs.FieldValue.{FieldValue}
use Rattle.http_header.specs.HeaderMap.{Entries, pairs}
use Rattle.model_span.specs.Spans.{Context}
use Rattle.trace_context.specs.Carriers.{Field, extracted}

-- the names and the values of the fields, in order
abbrev pub fields_of : Entries FieldValue → List Field
fields_of headers = map (λ p. (p.0, p.1.bytes)) (pairs headers)

-- the same, where they are lent
abbrev pub lent_fields : List (Bor (List ℕ) × Bor (List ℕ)) → List Field
lent_fields list = map (λ p. (p.0.now, p.1.now)) list

-- the context of the caller, if the fields carry one
abbrev pub carried : Entries FieldValue → Option Context
carried headers = extracted (fields_of headers)

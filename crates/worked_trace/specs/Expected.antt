-- Messages that the examples expect, written out field by field.
use Rattle.std.specs.Prelude.{ℕ, ℤ, pos, List, [], ◌∷◌, codes}
use Prim.Native.String.{String}
use Rattle.model_message.specs.AnyValue.{AnyValue, as_values, KeyValues, as_pairs}
use Rattle.model_message.specs.Tables
use Rattle.model_message.specs.Tables.{Message, ◌▸◌}

abbrev pub key_value : String → AnyValue → Message Tables.key_value
key_value key value = codes key ▸ value ▸ tt

abbrev pub array_of : List AnyValue → AnyValue
array_of values = AnyValue.array (as_values values)

abbrev pub pairs_of : List (Message Tables.key_value) → KeyValues
pairs_of pairs = as_pairs pairs

abbrev pub resource_of : List (Message Tables.key_value) → Message Tables.resource
resource_of attributes = attributes ▸ 0 ▸ tt

abbrev pub scope_named : String → Message Tables.scope
scope_named name = codes name ▸ [] ▸ [] ▸ 0 ▸ tt

-- a status's message and code
abbrev pub status_of : String → ℕ → Message Tables.status
status_of message code = codes message ▸ pos code ▸ tt

-- a span of which all but the name is left out
abbrev pub span_named : String → Message Tables.span
span_named name =
    [] ▸ [] ▸ [] ▸ [] ▸ codes name ▸ pos 0 ▸ 0 ▸ 0 ▸
    [] ▸ 0 ▸ [] ▸ 0 ▸ [] ▸ 0 ▸ status_of "" 0 ▸ 0 ▸ tt

-- a span of which all but the flags are left out
abbrev pub span_of_flags : ℕ → Message Tables.span
span_of_flags flags =
    [] ▸ [] ▸ [] ▸ [] ▸ [] ▸ pos 0 ▸ 0 ▸ 0 ▸
    [] ▸ 0 ▸ [] ▸ 0 ▸ [] ▸ 0 ▸ status_of "" 0 ▸ flags ▸ tt

-- a span of which all but the kind is left out
abbrev pub span_of_kind : ℤ → Message Tables.span
span_of_kind kind =
    [] ▸ [] ▸ [] ▸ [] ▸ [] ▸ kind ▸ 0 ▸ 0 ▸
    [] ▸ 0 ▸ [] ▸ 0 ▸ [] ▸ 0 ▸ status_of "" 0 ▸ 0 ▸ tt

-- a request of one resource and one scope
abbrev pub request_of : Message Tables.resource → Message Tables.scope → List (Message Tables.span)
    → Message Tables.request
request_of resource scope spans =
    ((resource ▸ ((scope ▸ spans ▸ [] ▸ tt) ∷ []) ▸ [] ▸ tt) ∷ []) ▸ tt

-- a request of one resource, in which there are no scopes
abbrev pub resource_alone : Message Tables.resource → Message Tables.request
resource_alone resource = ((resource ▸ [] ▸ [] ▸ tt) ∷ []) ▸ tt

abbrev pub no_spans : Message Tables.request
no_spans = [] ▸ tt

-- how many spans were rejected, and a message
abbrev pub response_of : ℤ → String → Message Tables.response
response_of rejected message = (rejected ▸ codes message ▸ tt) ▸ tt

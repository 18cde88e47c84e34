-- What a text of OTLP's JSON means: the fields of the message that it is, and their bytes. A member
-- of an object is a field under the number that its name has. (opentelemetry-proto, "JSON Protobuf
-- Encoding"; Protocol Buffers, "ProtoJSON Format")
use Rattle.std.specs.Prelude.{ℕ, zero, suc, List, [], ◌∷◌, ◌++◌, length, Option, Some, None, Result}
use Rattle.std.specs.Prelude.{Ok, Err, Bool, true, false, if◌then◌else◌}
use Rattle.std.specs.Str.{is_utf8}
use Rattle.json.specs.Json.{after_end_array}
use Rattle.json.specs.Lex.{tokens}
use Rattle.json.specs.Token.{Token, begin_object, begin_array, null}
use Rattle.model_message.specs.Wire.{Payload, Field}
use Rattle.model_message.specs.Canon.{message_field, row_bytes}
use Rattle.otlp_json.specs.Fronts.{Front, give, fail, ◌>>=◌, next_token, next_name, skipped}
use Rattle.otlp_json.specs.Leaves.{payload, mismatch}
use Rattle.otlp_json.specs.Names.{member_named}
use Rattle.otlp_json.specs.declared.fault.JsonFault.{JsonFault}
use Rattle.otlp_json.specs.declared.fault.JsonFault.TheVariants as faults
use Rattle.otlp_json.specs.declared.names.Kind.{Kind}
use Rattle.otlp_json.specs.declared.names.Kind.TheVariants as kinds
use Rattle.otlp_json.specs.declared.names.Member.{Member}
use Rattle.otlp_json.specs.declared.names.Message.{Message}
use Rattle.otlp_json.specs.declared.names.Message.TheVariants as messages

-- the fields that objects of a message have, after the brace that opens them
abbrev pub Objects : Type 0
Objects = Message → Front (List Field)

-- the one field of this number that holds the payload, or its fault
abbrev pub leaf_field : ℕ → Result Payload JsonFault → Front (List Field)
leaf_field n (Ok p) = give (record { number = n; payload = p } ∷ [])
leaf_field n (Err fault) = fail fault

-- a message as one field, whose object this token opens
abbrev pub nested : Objects → ℕ → Message → Token → Front (List Field)
nested objects n message begin_object =
    objects message >>= λ fields. give (message_field n fields ∷ [])
nested objects n message t = fail (mismatch t)

-- these fields, and those of what comes after them
abbrev pub before : Front (List Field) → List Field → Front (List Field)
before more first = more >>= λ others. give (first ++ others)

-- the end of a list, or an item and what comes after it
abbrev pub items_step : Front (List Field) → Front (List Field) → Option (List Token)
    → Front (List Field)
items_step item more (Some rest) ts = Ok ([], rest)
items_step item more None ts = (item >>= before more) ts

-- The items of a list, each a message. The number bounds the turns: one more than the tokens are is
-- enough.
unfoldable pub items : Objects → ℕ → Message → ℕ → Front (List Field)
items objects n message zero ts = Err faults.Malformed
items objects n message (suc turns) ts =
    items_step (next_token >>= nested objects n message) (items objects n message turns)
    (after_end_array ts) ts

-- a list of messages, which this token opens
abbrev pub each : Objects → ℕ → Message → Token → Front (List Field)
each objects n message begin_array ts = items objects n message (suc (length ts)) ts
each objects n message t ts = Err (mismatch t)

-- the fields that a value is which begins with this token
abbrev pub by_kind : Objects → ℕ → Kind → Token → Front (List Field)
by_kind objects n (kinds.One leaf) t = leaf_field n (payload leaf t)
by_kind objects n (kinds.Nested message) t = nested objects n message t
by_kind objects n (kinds.Each message) t = each objects n message t

-- whether it is null
abbrev pub is_null : Token → Bool
is_null null = true
is_null t = false

-- the fields that a member is whose value begins with this token: null is none (Protocol Buffers,
-- "ProtoJSON Format")
unfoldable pub value : Objects → Member → Token → Front (List Field)
unfolding items
value objects member t =
    if is_null t then give [] else by_kind objects member.number member.kind t

-- a member after its name; one that is unknown is no field
unfoldable pub member : Objects → Option Member → Front (List Field)
unfolding value
member objects None = skipped []
member objects (Some known) = next_token >>= value objects known

-- the end of an object, or a member and what comes after it
abbrev pub members_step : Objects → Message → Front (List Field) → Option (List ℕ)
    → Front (List Field)
members_step objects message more None = give []
members_step objects message more (Some name) =
    member objects (member_named message name) >>= before more

-- the members of an object, with a bound of the turns as above
unfoldable pub members : Objects → Message → ℕ → Front (List Field)
unfolding member
members objects message zero ts = Err faults.Malformed
members objects message (suc turns) ts =
    (next_name >>= members_step objects message (members objects message turns)) ts

-- an object after its brace, where objects nest no deeper than this
unfoldable pub object : ℕ → Objects
unfolding members
object zero message ts = Err faults.TooDeep
object (suc depth) message ts = members (object depth) message (suc (length ts)) ts

-- how deep objects may nest: a value of an attribute of 64 levels takes at most 197 (profile)
abbrev pub max_depth : ℕ
max_depth = 200

-- the request, which this token opens
abbrev pub root : Token → Front (List Field)
root begin_object = object max_depth messages.Request
root t = fail (mismatch t)

-- the fields, if no token is left
abbrev pub if_end : List Field → List Token → Result (List Field) JsonFault
if_end fields [] = Ok fields
if_end fields (t ∷ ts) = Err faults.Malformed

-- after it no token follows
abbrev pub at_end : Result (List Field × List Token) JsonFault → Result (List Field) JsonFault
at_end (Err fault) = Err fault
at_end (Ok x) = if_end x.0 x.1

-- the fields of the request that some tokens are
abbrev pub whole : List Token → Result (List Field) JsonFault
whole ts = at_end ((next_token >>= root) ts)

-- The fields of the request that a text is.
unfoldable pub request_fields : List ℕ → Result (List Field) JsonFault
unfolding object
request_fields text =
    if is_utf8 text then whole (tokens text) else Err faults.NotUtf8

-- their bytes
abbrev pub bytes_after : List ℕ → Result (List Field) JsonFault → Result (List ℕ) JsonFault
bytes_after before (Ok fields) = Ok (before ++ row_bytes fields)
bytes_after before (Err fault) = Err fault

-- The bytes that a text of JSON means, which mean the request in Protocol Buffers.
abbrev pub body_bytes : List ℕ → Result (List ℕ) JsonFault
body_bytes text = bytes_after [] (request_fields text)

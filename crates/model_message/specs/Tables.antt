-- A message's table of fields, and what a message of that table is. (Protocol Buffers, Language
-- Guide: Defining A Message Type; the tables: opentelemetry-proto)
use Rattle.std.specs.Prelude.{ℕ, ℤ, ◌^◌, List, Bool, true, false, ◌&&◌, nat_lt}
use Rattle.model_message.specs.AnyValue.{AnyValue}

mutual
  -- What a field of a table holds. `any` is an AnyValue. (Protocol Buffers, Language Guide: Scalar
  -- Value Types)
  pub data Shape : Type 0 where
    text bytes bool uint32 int64 enum fixed64 fixed32 : Shape
    any : Shape
    message : Table → Shape
    repeated : Shape → Shape

  -- the fields of a message, by their numbers
  pub data Table : Type 0 where
    end : Table
    ◌⦂◌◂◌ : ℕ → Shape → Table → Table

infixr 20 ◌⦂◌◂◌
abbrev mutual
  -- The values of a field. A text is its UTF-8 bytes, `fixed64` a number of 64 bits without a sign
  -- and `fixed32` one of 32.
  pub ValueOf : Shape → Type 0
  ValueOf text = List ℕ
  ValueOf bytes = List ℕ
  ValueOf bool = Bool
  ValueOf uint32 = ℕ
  ValueOf int64 = ℤ
  ValueOf enum = ℤ
  ValueOf fixed64 = ℕ
  ValueOf fixed32 = ℕ
  ValueOf any = AnyValue
  ValueOf (message t) = Message t
  ValueOf (repeated s) = List (ValueOf s)

  -- the messages of a table: a value for each field, in the table's order
  pub Message : Table → Type 0
  Message end = Unit {0}
  Message (n ⦂ s ◂ t) = ValueOf s × Message t

-- the fields of a message, one after the other
infixr 20 ◌▸◌
pattern abbrev pub ◌▸◌ : {A B : Type 0} → A → B → A × B
x ▸ r = (x, r)

-- ---- tables that can be written: numbers rise, from 1 to 2^29 - 1, and only messages and values
-- ---- are repeated (Protocol Buffers, Language Guide: Assigning Field Numbers; the tables of a
-- ---- trace have no packed fields)

-- what may be repeated
abbrev pub is_element : Shape → Bool
is_element any = true
is_element (message t) = true
is_element text = false
is_element bytes = false
is_element bool = false
is_element uint32 = false
is_element int64 = false
is_element enum = false
is_element fixed64 = false
is_element fixed32 = false
is_element (repeated s) = false

-- whether the field, or the table above a number, can be written
abbrev mutual
  pub is_shape : Shape → Bool
  is_shape (message t) = is_table 0 t
  is_shape (repeated s) = is_element s && is_shape s
  is_shape any = true
  is_shape text = true
  is_shape bytes = true
  is_shape bool = true
  is_shape uint32 = true
  is_shape int64 = true
  is_shape enum = true
  is_shape fixed64 = true
  is_shape fixed32 = true

  pub is_table : ℕ → Table → Bool
  is_table low end = true
  is_table low (n ⦂ s ◂ t) = nat_lt low n && (nat_lt n (2 ^ 29) && (is_shape s && is_table n t))

-- ---- the messages of a trace export. Fields that the tables leave out are unknown: entity
-- ---- references of resources. (opentelemetry-proto; which are left out: profile)

-- key, value (common.proto: KeyValue)
abbrev pub key_value : Table
key_value = 1 ⦂ text ◂ 2 ⦂ any ◂ end

-- (common.proto: ArrayValue)
abbrev pub array_value : Table
array_value = 1 ⦂ repeated any ◂ end

-- (common.proto: KeyValueList)
abbrev pub key_value_list : Table
key_value_list = 1 ⦂ repeated (message key_value) ◂ end

-- the attributes, and how many were dropped (resource.proto: Resource)
abbrev pub resource : Table
resource = 1 ⦂ repeated (message key_value) ◂ 2 ⦂ uint32 ◂ end

-- name, version, attributes, how many were dropped (common.proto: InstrumentationScope)
abbrev pub scope : Table
scope = 1 ⦂ text ◂ 2 ⦂ text ◂ 3 ⦂ repeated (message key_value) ◂ 4 ⦂ uint32 ◂ end

-- time, name, attributes, how many were dropped (trace.proto: Span.Event)
abbrev pub event : Table
event = 1 ⦂ fixed64 ◂ 2 ⦂ text ◂ 3 ⦂ repeated (message key_value) ◂ 4 ⦂ uint32 ◂ end

-- trace id, span id, trace state, attributes, how many were dropped, flags (trace.proto: Span.Link)
abbrev pub link : Table
link =
    1 ⦂ bytes ◂ 2 ⦂ bytes ◂ 3 ⦂ text ◂ 4 ⦂ repeated (message key_value) ◂ 5 ⦂ uint32 ◂ 6 ⦂ fixed32 ◂
    end

-- message, code: 0 is Unset, 1 is Ok, 2 is Error (trace.proto: Status)
abbrev pub status : Table
status = 2 ⦂ text ◂ 3 ⦂ enum ◂ end

-- (trace.proto: Span)
abbrev pub span : Table
span =
    1 ⦂ bytes ◂  -- trace id
    2 ⦂ bytes ◂  -- span id
    3 ⦂ text ◂  -- trace state
    4 ⦂ bytes ◂  -- parent's span id
    5 ⦂ text ◂  -- name
    6 ⦂ enum ◂  -- kind
    7 ⦂ fixed64 ◂  -- start
    8 ⦂ fixed64 ◂  -- end
    9 ⦂ repeated (message key_value) ◂
    10 ⦂ uint32 ◂  -- attributes dropped
    11 ⦂ repeated (message event) ◂
    12 ⦂ uint32 ◂  -- events dropped
    13 ⦂ repeated (message link) ◂
    14 ⦂ uint32 ◂  -- links dropped
    15 ⦂ message status ◂
    16 ⦂ fixed32 ◂ end  -- flags

-- scope, spans, schema URL of the scope (trace.proto: ScopeSpans)
abbrev pub scope_spans : Table
scope_spans = 1 ⦂ message scope ◂ 2 ⦂ repeated (message span) ◂ 3 ⦂ text ◂ end

-- resource, its spans by scope, schema URL of the resource (trace.proto: ResourceSpans)
abbrev pub resource_spans : Table
resource_spans = 1 ⦂ message resource ◂ 2 ⦂ repeated (message scope_spans) ◂ 3 ⦂ text ◂ end

-- (trace_service.proto: ExportTraceServiceRequest)
abbrev pub request : Table
request = 1 ⦂ repeated (message resource_spans) ◂ end

-- how many spans were rejected, and a message (trace_service.proto: ExportTracePartialSuccess)
abbrev pub partial_success : Table
partial_success = 1 ⦂ int64 ◂ 2 ⦂ text ◂ end

-- (trace_service.proto: ExportTraceServiceResponse)
abbrev pub response : Table
response = 1 ⦂ message partial_success ◂ end

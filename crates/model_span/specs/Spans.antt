-- What the calls on a span make of it. (Trace API, Span; Trace SDK, Span Limits)
use Rattle.std.specs.Prelude.{◌≡◌, ℕ, ◌-◌, List, [], ◌∷◌, ◌++◌, take, take_while, filter}
use Rattle.std.specs.Prelude.{filter_map, length, Bool, true, false, not, ◌&&◌, ◌==◌, Option, Some}
use Rattle.std.specs.Prelude.{None, codes, if◌then◌else◌}
use Rattle.std.specs.List.{list_any}
use Rattle.model_span.specs.Attributes.{text, Attribute, Kept, Limits, capped_count, attributes}
use Rattle.model_span.specs.Attributes.{is_empty, last_or}

-- Identifiers, flags and trace state of a span, and whether it came from elsewhere. (Trace API,
-- SpanContext; W3C Trace Context)
pub record Context : Type 0 where
  pub trace : List ℕ
  pub span : List ℕ
  pub flags : ℕ
  pub remote : Bool
  pub state : List ℕ

-- (Trace API, SpanKind)
pub data Kind : Type 0 where
  internal server client producer consumer : Kind

-- an error has a description (Trace API, Set Status)
pub data Status : Type 0 where
  unset ok : Status
  error : List ℕ → Status

-- a call on a span (Trace API, Span operations)
pub data Call : Type 0 where
  set_attribute : Attribute → Call
  -- name, moment, pairs
  add_event : List ℕ → ℕ → List Attribute → Call
  -- type, message, stack trace, moment, further pairs
  record_exception : List ℕ → List ℕ → List ℕ → ℕ → List Attribute → Call
  add_link : Context → List Attribute → Call
  set_status : Status → Call
  update_name : List ℕ → Call
  -- the moment
  end : ℕ → Call

-- how many are kept of each, and how many characters a text of their attributes may have (Trace
-- SDK, Span Limits)
pub record SpanLimits : Type 0 where
  pub attributes : ℕ
  pub events : ℕ
  pub links : ℕ
  pub event_attributes : ℕ
  pub link_attributes : ℕ
  pub value_length : Option ℕ

-- 128 of each, and texts of any length (Trace SDK, Span Limits; Common, Attribute Limits)
abbrev pub default_limits : SpanLimits
default_limits = record {
  attributes = 128;
  events = 128;
  links = 128;
  event_attributes = 128;
  link_attributes = 128;
  value_length = None;
}

-- The parent of a span: its span id, and whether it came from elsewhere. (Trace API, SpanContext,
-- IsRemote; opentelemetry-proto, trace.proto: Span)
pub record Parent : Type 0 where
  pub id : List ℕ
  pub remote : Bool

-- whether there is a parent that came from elsewhere; a root has none (opentelemetry-proto,
-- trace.proto: Span)
abbrev pub has_remote_parent : Option Parent → Bool
has_remote_parent None = false
has_remote_parent (Some parent) = parent.remote

-- How a span was started; a root has no parent. Moments are nanoseconds since 1970. (Trace API,
-- Span Creation)
pub record Start : Type 0 where
  pub context : Context
  pub parent : Option Parent
  pub name : List ℕ
  pub kind : Kind
  pub at : ℕ

-- (Trace API, Add Events)
pub record Event : Type 0 where
  pub at : ℕ
  pub name : List ℕ
  pub attributes : Kept Attribute

-- (Trace API, Link)
pub record Link : Type 0 where
  pub context : Context
  pub attributes : Kept Attribute

-- a span, as an exporter gets it (Trace SDK, Additional Span Interfaces)
pub record Span : Type 0 where
  pub context : Context
  pub parent : Option Parent
  pub name : List ℕ
  pub kind : Kind
  pub start : ℕ
  pub end : ℕ
  pub attributes : Kept Attribute
  pub events : Kept Event
  pub links : Kept Link
  pub status : Status

-- ---- which calls count

abbrev pub is_end : Call → Bool
is_end (end at) = true
is_end _ = false

-- The live calls: those before the first end. All others are ignored. (Trace API, End)
abbrev pub live_calls : List Call → List Call
live_calls calls = take_while (λ c. not (is_end c)) calls

-- the moment of an end
abbrev pub end_of : Call → Option ℕ
end_of (end at) = Some at
end_of _ = None

-- ---- attributes, events and links

-- (Trace API, Set Attributes)
abbrev pub attribute_of : Call → Option Attribute
attribute_of (set_attribute p) = Some p
attribute_of _ = None

-- a text under its key
abbrev pub text_pair : List ℕ → List ℕ → Attribute
text_pair k t = record { key = k; value = text t }

-- a text under its key, left out where it is empty (profile)
abbrev pub pair_unless_empty : List ℕ → List ℕ → List Attribute
pair_unless_empty k t = if is_empty t then [] else text_pair k t ∷ []

-- An exception's own pairs, then the caller's, which replace them. (Trace API, Record Exception;
-- Semantic Conventions, Exceptions)
abbrev pub exception_pairs : List ℕ → List ℕ → List ℕ → List Attribute → List Attribute
exception_pairs kind message stack pairs =
    pair_unless_empty (codes "exception.type") kind ++
    (pair_unless_empty (codes "exception.message") message ++
    (pair_unless_empty (codes "exception.stacktrace") stack ++ pairs))

-- the limits of a span's own attributes, of those of an event, and of those of a link (Trace SDK,
-- Span Limits)
abbrev pub attribute_limits : SpanLimits → Limits
attribute_limits limits = record { count = limits.attributes; length = limits.value_length }

abbrev pub event_limits : SpanLimits → Limits
event_limits limits = record { count = limits.event_attributes; length = limits.value_length }

abbrev pub link_limits : SpanLimits → Limits
link_limits limits = record { count = limits.link_attributes; length = limits.value_length }

-- an event with what is kept of its pairs (Trace SDK, Span Limits)
abbrev pub event : SpanLimits → List ℕ → ℕ → List Attribute → Event
event limits name at pairs = record {
  at = at;
  name = name;
  attributes = attributes (event_limits limits) pairs;
}

-- the event that the call adds, if any: an exception is the event `exception` (Trace API, Add
-- Events, Record Exception)
abbrev pub event_of : SpanLimits → Call → Option Event
event_of limits (add_event name at pairs) = Some (event limits name at pairs)
event_of limits (record_exception kind message stack at pairs) =
    Some (event limits (codes "exception") at (exception_pairs kind message stack pairs))
event_of limits _ = None

-- some byte is not 0 (W3C Trace Context, trace-id, parent-id)
abbrev pub is_id : List ℕ → Bool
is_id bs = list_any (λ b. not (b == 0)) bs

-- both identifiers are (Trace API, IsValid)
abbrev pub is_valid : Context → Bool
is_valid c = is_id c.trace && is_id c.span

-- whether there are none; one with an empty key is one
abbrev pub no_pairs : List Attribute → Bool
no_pairs [] = true
no_pairs (p ∷ pairs) = false

-- A link that says nothing is ignored: to an invalid context, without pairs and trace state. (Trace
-- API, Link; that it is not counted: profile)
abbrev pub is_ignored : Context → List Attribute → Bool
is_ignored c pairs = not (is_valid c) && (no_pairs pairs && is_empty c.state)

-- a link with what is kept of its pairs (Trace SDK, Span Limits)
abbrev pub link : SpanLimits → Context → List Attribute → Link
link limits c pairs = record {
  context = c;
  attributes = attributes (link_limits limits) pairs;
}

-- the link that the call adds, if any (Trace API, Add Link)
abbrev pub link_of : SpanLimits → Call → Option Link
link_of limits (add_link context pairs) =
    if is_ignored context pairs then None else Some (link limits context pairs)
link_of limits _ = None

-- The first ones are kept, as many as the limit says, and the others are counted. (Trace SDK, Span
-- Limits; that the first are kept: profile)
abbrev pub first_kept : {A : Type 0} → ℕ → List A → Kept A
first_kept limit items =
    record { items = take limit items; dropped = capped_count (length items - limit) }

-- ---- name and status

-- (Trace API, UpdateName)
abbrev pub name_of : Call → Option (List ℕ)
name_of (update_name name) = Some name
name_of _ = None

-- (Trace API, Set Status)
abbrev pub status_of : Call → Option Status
status_of (set_status s) = Some s
status_of _ = None

abbrev pub is_ok_status : Status → Bool
is_ok_status unset = false
is_ok_status ok = true
is_ok_status (error t) = false

abbrev pub is_error : Status → Bool
is_error unset = false
is_error ok = false
is_error (error t) = true

-- Ok if any was set, else the last error, else Unset. (Trace API, Set Status)
abbrev pub final_status : List Status → Status
final_status set = if list_any is_ok_status set then ok else last_or unset (filter is_error set)

-- ---- the whole

-- the first one, or the default where there is none
abbrev pub first_or : {A : Type 0} → A → List A → A
first_or d [] = d
first_or d (x ∷ xs) = x

-- The span of a start and of the calls on it: what the live calls set, and the moment of the first
-- end. Where it has not ended, its end is its start. (Trace API, Span operations; Trace SDK, Span
-- Limits; such an end: profile)
unfoldable pub span : SpanLimits → Start → List Call → Span
unfolding attributes
span limits start calls = let counts = live_calls calls in record {
  context = start.context;
  parent = start.parent;
  name = last_or start.name (filter_map name_of counts);
  kind = start.kind;
  start = start.at;
  end = first_or start.at (filter_map end_of calls);
  attributes = attributes (attribute_limits limits) (filter_map attribute_of counts);
  events = first_kept limits.events (filter_map (event_of limits) counts);
  links = first_kept limits.links (filter_map (link_of limits) counts);
  status = final_status (filter_map status_of counts);
}

-- ---- a span with what it belongs to

-- What made the telemetry; equal where all fields are. (Resource SDK)
pub record Resource : Type 0 where
  pub attributes : List Attribute
  pub schema : List ℕ

-- The instrumentation scope; its attributes have no limits. (Common, Instrumentation Scope; no
-- limits: profile)
pub record Scope : Type 0 where
  pub name : List ℕ
  pub version : List ℕ
  pub attributes : List Attribute
  pub schema : List ℕ

-- A span that has ended, with its resource and scope. The ticket is its number among the spans that
-- were admitted, from 0 on, and 0 until it is admitted. (profile: the ticket)
pub record SpanData : Type 0 where
  pub resource : Resource
  pub scope : Scope
  pub span : Span
  pub ticket : ℕ

-- the same span, admitted under this number
abbrev pub with_ticket : ℕ → SpanData → SpanData
with_ticket n ended = record ended { ticket = n }

-- A span on which calls still count, with the limits that it keeps. (Trace API, IsRecording; Trace
-- SDK, Span Limits)
pub record SpanRecord : Type 0 where
  pub limits : SpanLimits
  pub resource : Resource
  pub scope : Scope
  pub span : Span

-- What is recorded is the value of these calls, of which none is an end.
pub record Records (r : SpanRecord) (start : Start) (calls : List Call) : Type 0 where
  pub none_ends : live_calls calls ≡ calls
  pub is : r.span ≡ span r.limits start calls

-- The limits, the resource and the scope stay as they were.
pub record KeepsPlace (old new : SpanRecord) : Type 0 where
  pub limits : new.limits ≡ old.limits
  pub resource : new.resource ≡ old.resource
  pub scope : new.scope ≡ old.scope

-- One more call: what was the value of some live calls is that of the calls with this one at their
-- end.
pub record Adds (call : Call) (old new : SpanRecord) : Type 0 where
  pub place : KeepsPlace old new
  pub value : (start : Start) (calls : List Call) → Records old start calls
      → Records new start (calls ++ call ∷ [])

-- The end of what is recorded: the value of its calls with the end after them. (Trace API, End)
pub record Ends (at : ℕ) (r : SpanRecord) (ended : SpanData) : Type 0 where
  pub resource : ended.resource ≡ r.resource
  pub scope : ended.scope ≡ r.scope
  pub ticket : ended.ticket ≡ 0
  pub value : (start : Start) (calls : List Call) → Records r start calls
      → ended.span ≡ span r.limits start (calls ++ end at ∷ [])

-- The spans of the examples, and what they belong to.
use Rattle.std.specs.Prelude.{ℕ, List, [], ◌∷◌, ◌++◌, replicate, Bool, true, false, Option, None}
use Rattle.std.specs.Prelude.{Some, codes}
use Rattle.std.specs.Str.{chars}
use lib.Utf8.{encode}
use Prim.Native.String.{String}
use Rattle.model_span.specs.Attributes.{Value, Attribute, attributes, Kept}
use Rattle.model_span.specs.Spans.{Context, internal, error, Call, SpanLimits, default_limits}
use Rattle.model_span.specs.Spans.{Start, span, Resource, Scope, SpanData}
use Rattle.worked_trace.specs.Hex.{hex}

-- ---- identifiers and contexts

abbrev pub trace_id : List ℕ
unfolding hex
trace_id = hex "01 02 03 04 05 06 07 08 09 0a 0b 0c 0d 0e 0f 10"

abbrev pub span_id : List ℕ
unfolding hex
span_id = hex "11 12 13 14 15 16 17 18"

abbrev pub child_id : List ℕ
unfolding hex
child_id = hex "21 22 23 24 25 26 27 28"

-- in the trace, sampled and local, with a trace state
abbrev pub context_of : List ℕ → String → Context
unfolding hex
context_of id state =
    record { trace = trace_id; span = id; flags = 1; remote = false; state = codes state }

-- no identifier is valid
abbrev pub zero_context : Context
zero_context =
    record { trace = replicate 16 0; span = replicate 8 0; flags = 0; remote = false; state = [] }

-- ---- attributes

abbrev pub pair : String → Value → Attribute
pair key value = record { key = codes key; value = value }

-- what is kept of pairs: at most this many pairs, and texts of at most this many characters
unfoldable pub kept : ℕ → Option ℕ → List Attribute → Kept Attribute
unfolding attributes chars encode
kept count length pairs = attributes (record { count = count; length = length }) pairs

-- ---- calls

abbrev pub set : String → Value → Call
set key value = Call.set_attribute (pair key value)

abbrev pub set_error : String → Call
set_error text = Call.set_status (error (codes text))

abbrev pub rename : String → Call
rename name = Call.update_name (codes name)

-- ---- what spans belong to

abbrev pub no_resource : Resource
no_resource = record { attributes = []; schema = [] }

abbrev pub resource_with : List Attribute → Resource
resource_with attributes = record { attributes = attributes; schema = [] }

abbrev pub scope_s : Scope
scope_s = record { name = codes "s"; version = []; attributes = []; schema = [] }

-- of version 1, with the schema URL u
abbrev pub scope_t : Scope
scope_t = record { name = codes "t"; version = codes "1"; attributes = []; schema = codes "u" }

-- ---- spans

-- a root named a, started at 1
abbrev pub start_a : Start
unfolding hex
start_a =
    record {
      context = context_of span_id "";
      parent = None;
      name = codes "a";
      kind = internal;
      at = 1;
    }

-- its child named b, which has it as a remote parent or not, with a trace state
abbrev pub start_b : Bool → String → Start
unfolding hex
start_b remote state =
    record {
      context = context_of child_id state;
      parent = Some (record { id = span_id; remote = remote });
      name = codes "b";
      kind = internal;
      at = 1;
    }

-- a span on which these calls were made, and then its end at 2
unfoldable pub ended_span_of : Resource → Scope → SpanLimits → Start → List Call → SpanData
unfolding span chars encode
ended_span_of resource scope limits start calls =
    record {
      resource = resource;
      scope = scope;
      span = span limits start (calls ++ Call.end 2 ∷ []);
      ticket = 0;
    }

-- span a of scope s, after some calls
abbrev pub span_a : List Call → SpanData
unfolding hex
span_a calls = ended_span_of no_resource scope_s default_limits start_a calls

-- its child, span b, of the same process
abbrev pub span_b : String → SpanData
unfolding hex
span_b state = ended_span_of no_resource scope_s default_limits (start_b false state) []

-- likewise, of another process
abbrev pub remote_span_b : SpanData
unfolding hex
remote_span_b = ended_span_of no_resource scope_s default_limits (start_b true "") []

-- span a, of another scope or another resource
abbrev pub span_in : Resource → Scope → SpanData
unfolding hex
span_in resource scope = ended_span_of resource scope default_limits start_a []

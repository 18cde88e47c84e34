-- The list of traces, and what is counted, in JSON. (profile)
use Rattle.std.specs.Prelude.{ℕ, Bool, nat_lt, if◌then◌else◌, Option, Some, None, List, [], ◌∷◌}
use Rattle.std.specs.Prelude.{◌++◌, length, codes, map}
use Rattle.std.specs.Fmt.{take_chars}
use Rattle.std.specs.Int.{w128, to_be_bytes}
use Rattle.std.specs.List.{flat_map}
use Rattle.hex.specs.Hex.{encode_lower}
use Rattle.trace_lines.specs.declared.summary.Summary.{Summary}
use Rattle.json.specs.Token.{Token, begin_array, begin_object, end_array, end_object, key, string}
use Rattle.view_json.specs.declared.list.Stats.{Stats}
use Rattle.otlp_json.specs.Seen.{hex_member, long_member, number_member, text_member}

-- that a text is only the beginning of a longer one: '…' (U+2026) in UTF-8
abbrev pub mark : Bool → List ℕ
mark is_longer = if is_longer then 0xE2 ∷ 0x80 ∷ 0xA6 ∷ [] else []

-- a text of the list: its first 120 characters, and a mark where it has more
unfoldable pub short : List ℕ → List ℕ
short text = take_chars 120 text ++ mark (nat_lt (length (take_chars 120 text)) (length text))

-- what a trace of the list is called
unfoldable pub name_members : Summary → List Token
name_members summary = hex_member (codes "traceId") (to_be_bytes w128 summary.trace)
    ++ text_member (codes "service") (short summary.service.now)
    ++ text_member (codes "name") (short summary.name.now)

-- its time, and what is counted of it
unfoldable pub count_members : Summary → List Token
count_members summary = long_member (codes "startTimeUnixNano") summary.start_time_unix_nano
    ++ long_member (codes "endTimeUnixNano") summary.end_time_unix_nano
    ++ number_member (codes "spans") summary.span_count
    ++ number_member (codes "errors") summary.error_count

-- a trace of the list
unfoldable pub summary_tokens : Summary → List Token
summary_tokens summary =
    begin_object ∷ (name_members summary ++ count_members summary ++ end_object ∷ [])

-- the list
unfoldable pub list_tokens : List Summary → List Token
list_tokens summaries = begin_object ∷ key (codes "traces") ∷ begin_array
    ∷ (flat_map summary_tokens summaries ++ end_array ∷ end_object ∷ [])

-- what is counted of spans
unfoldable pub span_counts : Stats → List Token
span_counts stats = number_member (codes "received") stats.received
    ++ number_member (codes "kept") stats.kept
    ++ number_member (codes "evicted") stats.evicted

-- what is counted of traces
unfoldable pub trace_counts : Stats → List Token
trace_counts stats = number_member (codes "traces") stats.traces
    ++ number_member (codes "evictedTraces") stats.evicted_traces

-- the identifier of a trace: its 16 bytes in hexadecimal
abbrev pub trace_token : ℕ → Token
trace_token trace = string (encode_lower (to_be_bytes w128 trace))

-- the traces that were evicted last
unfoldable pub evicted_member : List ℕ → List Token
evicted_member traces = key (codes "lastEvicted") ∷ begin_array
    ∷ (map trace_token traces ++ end_array ∷ [])

-- how many bytes are pending, where that is known
unfoldable pub pending_member : Option ℕ → List Token
pending_member None = []
pending_member (Some bytes) = number_member (codes "pendingBytes") bytes

-- what is counted, and the traces that were evicted last
unfoldable pub stats_tokens : Stats → List ℕ → List Token
stats_tokens stats last_evicted = begin_object ∷ (span_counts stats ++ trace_counts stats
    ++ pending_member stats.pending_bytes ++ evicted_member last_evicted ++ end_object ∷ [])

-- Identifiers of traces and spans, drawn from random words, and the flags of a trace. (W3C Trace
-- Context, trace-id, parent-id, trace-flags; Trace SDK, Id Generators)
use Rattle.std.specs.Prelude.{ℕ, ◌+◌, ◌-◌, ◌*◌, ◌%◌, ◌==◌, Bool, if◌then◌else◌, List, flat_map}
use Rattle.std.specs.Prelude.{Option}
use Rattle.std.specs.Option.{option_map, option_map_or}
use Rattle.std.specs.List.{find, range_with_len}
use Rattle.std.specs.Int.{w64, to_be_bytes}
use Rattle.model_span.specs.Spans.{is_id}

-- random words of 64 bits, each at its place, without end (Trace SDK, Id Generators)
abbrev pub Words : Type 0
Words = ℕ → ℕ

-- the bytes of n words from a place on, the high byte of each word first (the order: profile)
abbrev pub bytes_at : Words → ℕ → ℕ → List ℕ
bytes_at words place n = flat_map (λ k. to_be_bytes w64 (words k)) (range_with_len place n)

-- the bytes of a draw of n words: of the words in groups of n, the group with this number, from 0
-- on
abbrev pub draw : ℕ → Words → ℕ → List ℕ
draw n words i = bytes_at words (n * i) n

-- which draw of n words is the first valid one, of eight, if one is (W3C Trace Context: not all
-- bytes are zero; eight: profile)
unfoldable pub first_valid : ℕ → Words → Option ℕ
first_valid n words = find (λ i. is_id (draw n words i)) (range_with_len 0 8)

-- the identifier that is drawn: the first valid draw of n words, of eight
abbrev pub identifier : ℕ → Words → Option (List ℕ)
identifier n words = option_map (draw n words) (first_valid n words)

-- how many words it takes: those up to the end of that draw, or all eight draws
abbrev pub words_spent : ℕ → Words → ℕ
words_spent n words = option_map_or (λ i. n * (i + 1)) (first_valid n words) (n * 8)

-- a trace id has two words, the first one first (W3C Trace Context, trace-id; the order: profile)
abbrev pub trace_id : Words → Option (List ℕ)
trace_id words = identifier 2 words

-- a span id has one (W3C Trace Context, parent-id)
abbrev pub span_id : Words → Option (List ℕ)
span_id words = identifier 1 words

-- the words that are left after this number of them
abbrev pub words_after : ℕ → Words → Words
words_after n words k = words (n + k)

-- bit 0 of the flags (W3C Trace Context, sampled flag)
abbrev pub has_sampled_flag : ℕ → Bool
has_sampled_flag flags = flags % 2 == 1

-- the flags with bit 0 as it is given, and all others as they were (W3C Trace Context, sampled
-- flag, other flags)
abbrev pub with_sampled_flag : Bool → ℕ → ℕ
with_sampled_flag sampled flags = (flags - flags % 2) + (if sampled then 1 else 0)

-- The text of a trace is read back.
use Rattle.std.proofs.Common.{◌≡◌, refl, ap, ◌∙◌, subst, ℕ, false, List, [], ◌∷◌, map}
use Rattle.std.proofs.Common.{Ok, Err, if◌then◌else◌}
use Rattle.std.specs.List.{AllByRecursion}
use Rattle.std.proofs.lemmas.List.Elements.{All-from_recursion}
use Rattle.std.specs.declared.sync.Arc.{Arc}
use Rattle.std.proofs.lemmas.Str.{is_utf8-from_IsUtf8}
use Rattle.json.specs.Lex.{tokens}
use Rattle.json.proofs.Printed.Tokens.{tokens-print}
use Rattle.model_message.specs.Messages.{Triple, body_meaning}
use Rattle.model_message.specs.Reading.{done}
use Rattle.model_message.specs.Canon.{row_bytes}
use Rattle.otlp_json.specs.Bodies.{body_bytes, bytes_after, request_fields, whole}
use Rattle.otlp_json.specs.Posted.{or_mended}
use Rattle.otlp_json.specs.declared.fault.JsonFault.TheVariants as faults
use Rattle.trace_store.specs.declared.span.ViewSpan.{ViewSpan}
use Rattle.view_json.specs.Pieces.{IsJsonText}
use Rattle.otlp_json.specs.Seen.{braces}
use Rattle.law_json.specs.Back.{triple_back}
use Rattle.law_json.specs.Kept.{kept_triple}
use Rattle.law_json.specs.Laws.{ReceivedIsReadBack, TraceIsReadBack, WasRead}
use Rattle.law_json.specs.Sound.{IsSoundTriple}
use Rattle.law_json.proofs.Fronts.{Show, show_seen}
use Rattle.law_json.proofs.Kept.{trace_is}
use Rattle.law_json.proofs.ReadSound.{read_is_sound}
use Rattle.law_json.proofs.Requests.{request_back, request_row, request_seen, whole_takes}

all_sound : {A : Type 0} (spans : List (Arc (ViewSpan A) A))
    → AllByRecursion (λ kept. IsSoundTriple (kept_triple kept)) spans
    → AllByRecursion IsSoundTriple (map kept_triple spans)
all_sound [] h = tt
all_sound (kept ∷ spans) h = (h.0, all_sound spans h.1)

back_again : {A : Type 0} (spans : List (Arc (ViewSpan A) A))
    → map triple_back (map kept_triple spans) ≡ map (λ kept. triple_back (kept_triple kept)) spans
back_again [] = refl
back_again (kept ∷ spans) = ap (λ l. triple_back (kept_triple kept) ∷ l) (back_again spans)

-- A text of which a request is seen means the bytes of its fields.
text_means : (triples : List Triple) (text : List ℕ) → AllByRecursion IsSoundTriple triples
    → IsJsonText false (braces (request_seen triples)) text
    → body_bytes text ≡ Ok (row_bytes (request_row triples))
unfolding request_fields
text_means triples text h json =
    ap (λ b. bytes_after [] (if b then whole (tokens text) else Err faults.NotUtf8))
    (is_utf8-from_IsUtf8 text json.utf8)
    ∙ ap (λ l. bytes_after [] (whole l))
    (ap tokens json.printed ∙ tokens-print json.tokens json.are_printable)
    ∙ ap (bytes_after [])
    (whole_takes triples h json.tokens
    (subst (λ what. Show what json.tokens) json.seen_is (show_seen json.tokens json.are_printable)))

-- The law.
pub trace_is_read_back : (A : Type 0) → TraceIsReadBack A
trace_is_read_back A spans text sound json =
    let triples = map kept_triple spans in
    let all = all_sound spans sound in (
      row_bytes (request_row triples),
      ap (λ read. or_mended read text)
          (text_means triples text all
          (subst (λ what. IsJsonText false what text) (trace_is spans) json)),
      λ small. request_back triples all small ∙ ap done (back_again spans),
    )

-- A span that was read is sound.
sound_where_read : (t : Triple) → WasRead t → IsSoundTriple t
sound_where_read t h =
    subst IsSoundTriple h.is_in.2
    (All-from_recursion IsSoundTriple (body_meaning h.body).value
    (read_is_sound h.body h.are_bytes h.no_fault) h.is_in.0 t h.is_in.1)

all_read : {A : Type 0} (spans : List (Arc (ViewSpan A) A))
    → AllByRecursion (λ kept. WasRead (kept_triple kept)) spans
    → AllByRecursion (λ kept. IsSoundTriple (kept_triple kept)) spans
all_read [] h = tt
all_read (kept ∷ spans) h = (sound_where_read (kept_triple kept) h.0, all_read spans h.1)

-- The law of what was read.
pub received_is_read_back : (A : Type 0) → ReceivedIsReadBack A
received_is_read_back A spans text read json =
    trace_is_read_back A spans text (all_read spans read) json

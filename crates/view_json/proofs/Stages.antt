-- What is left of a trace, stage after stage.
use Rattle.std.proofs.Common.{◌≡◌, refl, sym, ap, ◌∙◌, ℕ, ◌+◌, ◌<◌, ◌≤◌, Bool, true, false, not}
use Rattle.std.proofs.Common.{nat_lt, List, [], ◌∷◌, ◌++◌, append_assoc, arith, codes, drop, length}
use Rattle.std.proofs.Common.{subst}
use Rattle.std.proofs.Math.ListN.{get_or, drop_of_length-le}
use Rattle.std.proofs.lemmas.Bool.{lt-ltb}
use Rattle.std.proofs.lemmas.List.{drop_more}
use Rattle.std.specs.List.{flat_map}
use Rattle.std.specs.Str.{IsUtf8}
use Rattle.std.proofs.lemmas.Str.{IsUtf8-append, IsUtf8-nil}
use Rattle.std.specs.declared.sync.Arc.{Arc}
use Rattle.json.proofs.Printed.Utf8.{IsUtf8-are_ascii}
use Rattle.json.specs.Lex.{tokens}
use Rattle.json.specs.Print.{ArePrintable, escape_byte, print, print_from}
use Rattle.json.specs.Token.{Token, begin_array, begin_object, end_array, end_object, key}
use Rattle.trace_store.specs.declared.span.ViewSpan.{ViewSpan}
use Rattle.view_json.specs.Pieces.{IsJsonText, IsLeft, IsPieceBetween, comma_if, is_end, left_seen}
use Rattle.otlp_json.specs.Seen.{Seen, Other, seen}
use Rattle.view_json.specs.Spans.{kept_seen, resource_spans_seen}
use Rattle.view_json.specs.declared.pieces.Stage.{Stage}
use Rattle.view_json.specs.declared.pieces.Stage.TheVariants.{Head, Spans, End}
use Rattle.view_json.proofs.Printed.{object_piece, some_bytes}

-- what is before the spans
head_then : (left : List Seen)
    → IsPieceBetween (IsJsonText false
    (Other begin_object ∷ Other (key (codes "resourceSpans")) ∷ Other begin_array ∷ left))
    (IsJsonText false left) (codes "{\"resourceSpans\":[")
unfolding ArePrintable print_from escape_byte
head_then left more h = record {
  tokens = begin_object ∷ key (codes "resourceSpans") ∷ begin_array ∷ h.tokens;
  are_printable = (tt, (tt, (tt, h.are_printable)));
  printed = ap (λ l. codes "{\"resourceSpans\":[" ++ l) h.printed;
  seen_is =
      ap (λ l. Other begin_object ∷ Other (key (codes "resourceSpans")) ∷ Other begin_array ∷ l)
      h.seen_is;
  utf8 =
      IsUtf8-append (codes "{\"resourceSpans\":[") more
      (IsUtf8-are_ascii (codes "{\"resourceSpans\":[") refl) h.utf8;
}

-- what is after them
tail_then : (b : Bool)
    → IsPieceBetween (IsJsonText b (Other end_array ∷ Other end_object ∷ [])) (IsJsonText true [])
    (codes "]}")
unfolding ArePrintable print_from
tail_then true more h = record {
  tokens = end_array ∷ end_object ∷ h.tokens;
  are_printable = (tt, (tt, h.are_printable));
  printed = ap (λ l. codes "]}" ++ l) h.printed;
  seen_is = ap (λ l. Other end_array ∷ Other end_object ∷ l) h.seen_is;
  utf8 = IsUtf8-append (codes "]}") more (IsUtf8-are_ascii (codes "]}") refl) h.utf8;
}
tail_then false more h = record {
  tokens = end_array ∷ end_object ∷ h.tokens;
  are_printable = (tt, (tt, h.are_printable));
  printed = ap (λ l. codes "]}" ++ l) h.printed;
  seen_is = ap (λ l. Other end_array ∷ Other end_object ∷ l) h.seen_is;
  utf8 = IsUtf8-append (codes "]}") more (IsUtf8-are_ascii (codes "]}") refl) h.utf8;
}

module _ {A : Type 0} (spans : List (Arc (ViewSpan A) A)) where
  -- What comes before the spans is the first piece of the text.
  pub head_piece : IsPieceBetween (IsLeft spans Head) (IsLeft spans (Spans 0))
      (codes "{\"resourceSpans\":[")
  head_piece more h =
      let all = flat_map kept_seen spans in
      subst (λ what. IsJsonText false what (codes "{\"resourceSpans\":[" ++ more))
      (ap (λ l. Other begin_object ∷ Other (key (codes "resourceSpans")) ∷ Other begin_array ∷ l)
      (sym (append_assoc all (Other end_array ∷ []) (Other end_object ∷ []))))
      (head_then (left_seen spans (Spans 0)) more h)

  -- The text of a span, after a comma where one is due, is the piece of that span.
  pub span_piece : (at : ℕ) (kept : Arc (ViewSpan A) A) (ts : List Token) → at < length spans
      → kept ≡ get_or spans at kept → tokens (print ts) ≡ ts → seen ts ≡ kept_seen kept
      → IsUtf8 (print ts)
      → IsPieceBetween (IsLeft spans (Spans at)) (IsLeft spans (Spans (at + 1)))
      (comma_if (nat_lt 0 at) ++ print ts)
  unfolding resource_spans_seen
  span_piece at kept ts within is back sees utf8 more h =
      let left = left_seen spans (Spans (at + 1)) in
      let after : nat_lt 0 (at + 1) ≡ true = lt-ltb 0 (at + 1) (omega arith) in
      let all : kept_seen kept ++ left ≡ left_seen spans (Spans at) =
      sym (append_assoc (kept_seen kept) (flat_map kept_seen (drop (at + 1) spans))
      (Other end_array ∷ Other end_object ∷ []))
      ∙ ap (λ l. flat_map kept_seen l ++ Other end_array ∷ Other end_object ∷ [])
      (ap (λ y. y ∷ drop (at + 1) spans) is ∙ sym (drop_more spans at kept within)) in
      subst
      (λ what. IsJsonText (nat_lt 0 at) what ((comma_if (nat_lt 0 at) ++ print ts) ++ more)) all
      (object_piece (nat_lt 0 at) ts _ back sees utf8 left more
      (subst (λ b. IsJsonText b left more) after h))

  -- After the last span the rest of the text is what closes the list and the object.
  pub tail_piece : (at : ℕ) → length spans ≤ at
      → IsPieceBetween (IsLeft spans (Spans at)) (IsLeft spans End) (codes "]}")
  tail_piece at past more h =
      subst (λ l. IsJsonText (nat_lt 0 at)
      (flat_map kept_seen l ++ Other end_array ∷ Other end_object ∷ []) (codes "]}" ++ more))
      (sym (drop_of_length-le spans past))
      (tail_then (nat_lt 0 at) more h)

  nothing_left : IsLeft spans End []
  unfolding ArePrintable print_from
  nothing_left = record {
    tokens = [];
    are_printable = tt;
    printed = refl;
    seen_is = refl;
    utf8 = IsUtf8-nil;
  }

  -- At the end nothing is left to be written.
  pub end_left : (stage : Stage) → is_end stage ≡ true → IsLeft spans stage []
  end_left Head h = cc
  end_left (Spans at) h = cc
  end_left End h = nothing_left

-- What is not false is true.
pub not_false : (b : Bool) → not b ≡ false → b ≡ true
not_false true h = refl
not_false false h = cc

-- a span takes some bytes
pub span_some : {A : Type 0} (kept : Arc (ViewSpan A) A) (ts : List Token)
    → seen ts ≡ kept_seen kept → 0 < length (print ts)
unfolding resource_spans_seen
span_some kept ts is = some_bytes ts _ is

-- A client's span on which it is said, at its end, which version of HTTP its connection spoke.
use Rattle.std.proofs.Common.{◌≡◌, refl, sym, ◌∙◌, ap, subst, ℕ, List, [], ◌∷◌, ◌++◌, append_assoc}
use Rattle.std.proofs.Common.{codes, map, Option, Some, None, IfSome, Bool, true, false, Result}
use Rattle.std.proofs.lemmas.List.{append-nil}
use Rattle.std.proofs.lemmas.List.Folds.{list_any-append}
use Rattle.std.specs.List.{list_any}
use Rattle.model_span.specs.Attributes.{Attribute}
use Rattle.model_span.specs.Spans.{Call, SpanData, end, is_end, set_attribute}
use Rattle.model_span.specs.Starts.{Does, HeldSpan, held_span}
use Rattle.otlp_http.specs.Replies.{HttpReply}
use Rattle.trace_api.specs.Endings.{ending_calls, text_pair}
use Rattle.trace_api.specs.Ends.{EndsAs, Handed}
use Rattle.trace_api.specs.ExtCalls.{DoesAll}
use Rattle.trace_api.specs.declared.pass.Ended.{Ended}
use Rattle.http_client.specs.declared.fault.SendFault.{SendFault}
use Rattle.traced_http.specs.ClientSpans.{closing_calls, ending_of, version_calls, version_of}
use Rattle.traced_http.specs.Starts.{text_pairs}

-- the calls that say a version, if there is one
abbrev pub said : Option (List ℕ) → List Call
said version = map set_attribute (text_pairs (codes "network.protocol.version") version)

-- Where there is no version, nothing is said.
pub says_nothing : (version : Option (List ℕ)) (span : HeldSpan) → version ≡ None
    → DoesAll (said version) span span
says_nothing version span none = subst (λ v. DoesAll (said v) span span) (sym none) (record {
  context = refl;
  value = λ s calls h. h ∙ ap (held_span s) (sym (append-nil calls));
})

-- Where there is one, the call says it.
pub says_version : (version : Option (List ℕ)) (text : List ℕ) (old new : HeldSpan)
    → version ≡ Some text
    → Does (set_attribute (text_pair (codes "network.protocol.version") text)) old new
    → DoesAll (said version) old new
says_version version text old new some does =
    subst (λ v. DoesAll (said v) old new) (sym some)
    (record { context = does.context; value = does.value })

-- no attribute is an end
none-ends : (pairs : List Attribute) → list_any is_end (map set_attribute pairs) ≡ false
none-ends [] = refl
none-ends (p ∷ pairs) = none-ends pairs

module _ {P : Type 0} (admits : P → SpanData → Ended → P → Type 0) where
  -- a span that ended after more calls, none of which is an end, ended with these too
  ends-after : (more last : List Call) (at : ℕ) (old new : HeldSpan) (before after : P)
      → list_any is_end more ≡ false → DoesAll more old new
      → EndsAs admits last at new before after → EndsAs admits (more ++ last) at old before after
  ends-after more last at old new before after none does ends = record {
    value = λ s calls h unended.
        subst (λ (all : List Call). Handed admits s (all ++ end at ∷ []) before after)
        (append_assoc calls more last)
        (ends.value s (calls ++ more) (does.value s calls h)
        (list_any-append is_end calls more ∙ rw (unended, none) refl));
  }

  -- A span that ended once its version was said ended with all that is said at its end.
  pub closes : (result : Result HttpReply SendFault) (has_ended : Bool)
      (span closing : Option HeldSpan) (at : ℕ) (before after : P)
      → IfSome closing (λ new. (held : HeldSpan) × (span ≡ Some held)
      × DoesAll (version_calls result) held new)
      → (has_ended ≡ true → (held : HeldSpan) × (closing ≡ Some held)
      × EndsAs admits (ending_calls (ending_of result)) at held before after)
      → has_ended ≡ true → (held : HeldSpan) × (span ≡ Some held)
      × EndsAs admits (closing_calls result) at held before after
  closes result has_ended span None at before after says ends done =
      let e = ends done in
      let none : None ≡ Some e.0 = e.1 in cc
  closes result has_ended span (Some new) at before after says ends done =
      let e = ends done in
      let same : new ≡ e.0 = cc in (
        says.0,
        says.1,
        ends-after (version_calls result) (ending_calls (ending_of result)) at says.0 new before
            after (none-ends (text_pairs (codes "network.protocol.version") (version_of result)))
            says.2
            (subst (λ h. EndsAs admits (ending_calls (ending_of result)) at h before after)
            (sym same)
            e.2),
      )

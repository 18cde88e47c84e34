-- Interim heads, and the head after them.
use Rattle.std.proofs.Common.{◌≡◌, ℕ, ◌≤◌, List, [], ◌∷◌, ◌++◌, length, All, sym, ap, subst, ◌∙◌}
use Rattle.std.proofs.Common.{append-nil, arith, inl, inr, Option, map, take}
use Rattle.std.specs.List.{flat_map}
use Rattle.std.proofs.lemmas.Grind.{flat_map-append}
use Rattle.std.proofs.lemmas.List.Elements.{All-push}
use Rattle.std.specs.Io.KnownBytes.{Consumes}
use Rattle.std.proofs.KnownBytes.{Consumes-trans}
use Rattle.httparse.specs.Grammar.{ResponseHead, print_response, status_code}
use Rattle.httparse.specs.Spans.{header_bytes}
use Rattle.httparse.specs.declared.spans.HeaderSpan.{HeaderSpan}
use Rattle.httparse.specs.declared.spans.ResponseSpans.{ResponseSpans}
use Rattle.http_wire.specs.declared.fault.HttpFault.{HttpFault}
use Rattle.http_wire.specs.declared.fault.HttpFault.TheVariants as faults
use Rattle.http_wire.specs.declared.limits.HeadLimits.{HeadLimits}
use Rattle.http_wire.specs.Devices.{HasFailed}
use Rattle.otlp_http.specs.Heads.{ComesAfter, IsHeadText, IsInterim, IsInterimStatus, LacksHead}
use Rattle.otlp_http.specs.Heads.{fields_of}
use Rattle.otlp_http.specs.Parses.{CoversHead, HasFinalHead}
use Rattle.http_wire.specs.Fields.{RefusesFields}
use Rattle.otlp_http.specs.Replies.{HasNoReply, RefusesHead}

-- heads that were read, one after another, with nothing between them
pub record Skipped (limits : HeadLimits) (old mid : Option (List ℕ))
    (interims : List ResponseHead) : Type 0 where
  pub each : All (IsInterim limits) interims
  pub taken : Consumes old mid (flat_map print_response interims)

-- The text that is read next comes after the interim heads.
pub comes_next : (limits : HeadLimits) (old mid new : Option (List ℕ))
    (interims : List ResponseHead) (text : List ℕ)
    → Skipped limits old mid interims → length interims ≤ 16 → Consumes mid new text
    → ComesAfter limits old new interims text
comes_next limits old mid new interims text skipped few taken = record {
  each = skipped.each;
  few = few;
  taken = Consumes-trans old mid new _ _ skipped.taken taken;
}

-- A head that covers its text and has an interim status is interim.
pub interim_from : (limits : HeadLimits) (text : List ℕ) (spans : List HeaderSpan)
    (found : ResponseSpans) (head : ResponseHead)
    → CoversHead limits text spans found head → IsInterimStatus found.code → IsInterim limits head
interim_from limits text spans found head covers interim = (
  subst (λ t. IsHeadText limits t head) covers.0.whole covers.0,
  subst IsInterimStatus covers.1.code interim,
)

-- One more interim head is skipped after the others.
pub skip_more : (limits : HeadLimits) (old mid new : Option (List ℕ)) (interims : List ResponseHead)
    (text : List ℕ)
    (spans : List HeaderSpan) (found : ResponseSpans) (head : ResponseHead)
    → Skipped limits old mid interims → Consumes mid new text
    → CoversHead limits text spans found head → IsInterimStatus found.code
    → Skipped limits old new (interims ++ head ∷ [])
skip_more limits old mid new interims text spans found head skipped taken covers interim =
    let printed : flat_map print_response (interims ++ head ∷ [])
    ≡ flat_map print_response interims ++ text =
    flat_map-append print_response interims (head ∷ [])
    ∙ ap (λ t. flat_map print_response interims ++ t)
    (append-nil (print_response head) ∙ sym covers.0.whole) in
    record {
      each =
          All-push (IsInterim limits) interims head skipped.each
          (interim_from limits text spans found head covers interim);
      taken =
          subst (Consumes old new) (sym printed)
          (Consumes-trans old mid new _ _ skipped.taken taken);
    }

-- Where the next head doesn't come, there is no reply, for the same fault.
pub final_fault : (limits : HeadLimits) (old mid new : Option (List ℕ))
    (interims : List ResponseHead) (text : List ℕ)
    (first before after : ℕ) (fault : HttpFault)
    → Skipped limits old mid interims → length interims ≤ 16 → Consumes mid new text
    → before ≡ first
    → LacksHead limits text new (HasFailed before after) fault
    → HasNoReply limits old new (HasFailed first after) fault
final_fault limits old mid new interims text first before after fault skipped few taken same lacks =
    record {
      interims = interims;
      text = text;
      comes = comes_next limits old mid new interims text skipped few taken;
      cause = inl (subst (λ f. LacksHead limits text new (HasFailed f after) fault) same lacks);
    }

-- The first head that isn't interim is the final head.
pub final_head : (limits : HeadLimits) (old mid new : Option (List ℕ))
    (interims : List ResponseHead) (text : List ℕ)
    (spans : List HeaderSpan) (found : ResponseSpans) (head : ResponseHead)
    → Skipped limits old mid interims → length interims ≤ 16 → Consumes mid new text
    → CoversHead limits text spans found head → ¬ (IsInterimStatus found.code)
    → HasFinalHead limits old new text spans found
final_head limits old mid new interims text spans found head skipped few taken covers final =
    record {
      interims = interims;
      head = head;
      comes = comes_next limits old mid new interims text skipped few taken;
      covers = covers;
      final = final;
    }

-- A seventeenth interim head is the fault `BadHead`.
pub final_excess : (limits : HeadLimits) (old mid new : Option (List ℕ))
    (interims : List ResponseHead) (text : List ℕ)
    (spans : List HeaderSpan) (failed : Type 0) (found : ResponseSpans) (head : ResponseHead)
    → Skipped limits old mid interims → length interims ≡ 16 → Consumes mid new text
    → CoversHead limits text spans found head → IsInterimStatus found.code
    → HasNoReply limits old new failed faults.BadHead
final_excess limits old mid new interims text spans failed found head skipped many taken covers
    interim =
    record {
      interims = interims;
      text = text;
      comes = comes_next limits old mid new interims text skipped (omega (arith, many)) taken;
      cause = inr (head, covers.0, inl (many, subst IsInterimStatus covers.1.code interim));
    }

-- Where the fields of the final head are refused, there is no reply, for the same fault.
pub refused_fields : (limits : HeadLimits) (old new : Option (List ℕ)) (text : List ℕ)
    (spans : List HeaderSpan)
    (failed : Type 0) (found : ResponseSpans) (fault : HttpFault)
    → HasFinalHead limits old new text spans found
    → RefusesFields (map (header_bytes text) (take found.headers spans)) fault
    → HasNoReply limits old new failed fault
refused_fields limits old new text spans failed found fault final refuses =
    let head = final.head in
    let interim : ¬ (IsInterimStatus (status_code head)) =
    λ is. final.final (subst IsInterimStatus (sym final.covers.1.code) is) in
    record {
      interims = final.interims;
      text = text;
      comes = final.comes;
      cause =
          inr (
            head,
            final.covers.0,
            refused fault
                (subst (λ fields. RefusesFields fields fault) final.covers.1.fields refuses)
                interim,
          );
    }
  where
    refused : (fault : HttpFault) → RefusesFields (fields_of final.head) fault
        → ¬ (IsInterimStatus (status_code final.head))
        → RefusesHead final.interims final.head fault
    refused faults.BadHead not_taken interim = inr (interim, not_taken)
    refused faults.OutOfMemory _ interim = interim
    refused faults.Ended never interim = never
    refused faults.Device never interim = never
    refused faults.BadLength never interim = never
    refused faults.BadChunk never interim = never
    refused faults.TooLarge never interim = never

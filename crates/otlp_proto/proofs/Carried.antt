-- What is written is read: a body means the spans of the groups that it carries. And facts of
-- answers.
use Rattle.std.proofs.Common.{◌≡◌, ◌≢◌, refl, ap, ◌∙◌, ℕ, ◌<◌, List, [], ◌∷◌, map, length, Result}
use Rattle.std.proofs.Common.{Ok, Err, IfOk, arith}
use Rattle.std.specs.Prelude.{IfErr, IsErrOf}
use Rattle.model_message.specs.Reading.{Reads}
use Rattle.model_message.specs.Tables
use Rattle.model_message.specs.Messages.{meaning, body_meaning, triples}
use Rattle.model_span.specs.Spans.{SpanData}
use Rattle.model_export.specs.Export.{LacksBody, ResourceGroup, body_length, groups_by, groups}
use Rattle.model_export.specs.Export.{grouped_triples, request_message}
use Rattle.model_export.proofs.Grouped.{request-triples}
use Rattle.otlp_span.specs.Dropped.{reason_view}
use Rattle.otlp_proto.specs.Bodies.{reason_of}
use Rattle.otlp_proto.specs.declared.encoder.EncodeFault.{EncodeFault}
use Rattle.otlp_proto.specs.declared.encoder.EncodeFault.TheVariants as faults

-- The body of the groups of some spans means these spans.
pub body-means : (spans : List SpanData) (bs : List ℕ)
    → Reads (meaning Tables.request bs) (request_message (groups spans))
    → Reads (body_meaning bs) (grouped_triples spans)
unfolding body_meaning
body-means spans bs h = (rw h.0 refl, ap triples h.1 ∙ request-triples spans)

-- What holds of the value of an `Ok` may be weakened.
pub if-ok : {T E : Type 0} {P Q : T → Type 0} (r : Result T E) → ((x : T) → P x → Q x) → IfOk r P
    → IfOk r Q
if-ok (Ok x) f h = f x h
if-ok (Err e) f h = tt

-- The reported fault says why there is no body.
pub lacks-body : {T : Type 0} (max : ℕ) (spans : List SpanData) (r : Result T EncodeFault)
    → (IsErrOf r faults.TooLarge → max < body_length (groups spans))
    → IfErr r (λ fault. LacksBody max spans (reason_view (reason_of fault)))
lacks-body max spans (Ok x) larger = tt
lacks-body max spans (Err faults.OutOfMemory) larger = tt
lacks-body max spans (Err faults.TooLarge) larger = larger refl

-- ---- what takes memory

-- A list that has an item is not empty.
pub some_items : {A : Type 0} (xs : List A) (i : ℕ) → i < length xs → xs ≢ []
some_items xs i l e = let none : length xs ≡ 0 = ap length e in omega (arith, l, none)

no-groups : groups [] ≡ []
unfolding groups groups_by
no-groups = refl

-- There are groups only where there are spans.
pub spans_grouped : {A : Type 0} (spans : List SpanData) (gs : List A) (view : A → ResourceGroup)
    → map view gs ≡ groups spans → gs ≢ [] → spans ≢ []
spans_grouped spans [] view e h = absurd (h refl)
spans_grouped [] (g ∷ gs) view e h = let none : view g ∷ map view gs ≡ [] = e ∙ no-groups in cc
spans_grouped (x ∷ xs) (g ∷ gs) view e h = λ i. cc

-- Names that are given while the fields of a message are read.
use Rattle.std.proofs.Common.{◌≡◌, refl, sym, ap, ap₂, subst, ◌∙◌, ℕ, List, [], ◌∷◌, ◌++◌}
use Rattle.std.proofs.Common.{append_assoc}
use Rattle.std.proofs.Common.{append-nil, Some, None}
use Rattle.std.specs.Prelude.{Option, option_map, map, flat_map}
use Rattle.std.proofs.lemmas.List.{map-append}
use Rattle.std.proofs.lemmas.List.Concat.{flat_map-append}
use Rattle.model_message.specs.Reading.{Reading}
use Rattle.model_message.specs.Wire.{Field, Payload, row, len}
use Rattle.model_message.specs.Tables
use Rattle.model_message.specs.Tables.{bytes, message, repeated}
use Rattle.model_message.specs.Messages.{bytes_in, last_bytes, payloads}
use Rattle.model_desk.specs.Retries.{Fate}
use Rattle.model_body.specs.Names.{LostSpan}
use Rattle.otlp_wire.proofs.FieldsRead.{FieldsRead}
use Rattle.otlp_wire.proofs.OnePayload.{payloads-append}
use Rattle.relay_queue.specs.Named.{Gains, lost_span}
use Rattle.relay_queue.specs.Walk.{span_name, scope_names, resource_names, request_names}

-- No name is given.
pub gains-none : (o : Option (List LostSpan)) → Gains [] o o
gains-none None = refl
gains-none (Some had) = ap Some (sym (append-nil had))

-- Some names are given, and then others.
pub gains-both : (more rest : List LostSpan) (a b d : Option (List LostSpan)) → Gains more a b
    → Gains rest b d → Gains (more ++ rest) a d
gains-both more rest None b d e k =
    k ∙ ap (λ o. option_map (λ had. had ++ rest) o) e
gains-both more rest (Some had) b d e k =
    k ∙ ap (λ o. option_map (λ had. had ++ rest) o) e ∙ ap Some (append_assoc had more rest)

-- a step of reading
pub names-more : (names : List Field → List LostSpan)
    → ((xs ys : List Field) → names (xs ++ ys) ≡ names xs ++ names ys)
    → (f : Field) (first now after : Option (List LostSpan)) → Gains (names (f ∷ [])) now after
    → (fields : List Field) → Gains (names fields) first now
    → Gains (names (fields ++ f ∷ [])) first after
names-more names parts f first now after e fields h =
    subst (λ l. Gains l first after) (sym (parts fields (f ∷ [])))
    (gains-both (names fields) (names (f ∷ [])) first now after h e)

-- Where no field is left, whether by a fault or not, the property holds of all fields.
pub read-to-end : (P : List Field → Type 0) (whole left : Reading (List Field))
    → FieldsRead P whole left → left.value ≡ [] → P whole.value
read-to-end P whole left h e =
    subst P
    (sym (h.were_read.value ∙ ap (λ l. h.fields ++ l) e ∙ append-nil h.fields)) h.holds

-- ---- the names of fields, and then of others

-- The names of some fields of a scope and then of others are those of both.
pub scope-parts : (fate : Fate) (xs ys : List Field)
    → scope_names fate (xs ++ ys) ≡ scope_names fate xs ++ scope_names fate ys
scope-parts fate xs ys =
    let name : Payload → LostSpan = λ p. span_name fate (row (bytes_in p)).value in
    let s = repeated (message Tables.span) in
    ap (map name) (payloads-append 2 s xs ys)
    ∙ map-append name (payloads 2 s xs) (payloads 2 s ys)

-- The same of the fields of a resource.
pub resource-parts : (fate : Fate) (xs ys : List Field)
    → resource_names fate (xs ++ ys) ≡ resource_names fate xs ++ resource_names fate ys
resource-parts fate xs ys =
    let names : Payload → List LostSpan = λ p. scope_names fate (row (bytes_in p)).value in
    let s = repeated (message Tables.scope_spans) in
    ap (flat_map names) (payloads-append 2 s xs ys)
    ∙ flat_map-append names (payloads 2 s xs) (payloads 2 s ys)

-- The same of the fields of a request.
pub request-parts : (fate : Fate) (xs ys : List Field)
    → request_names fate (xs ++ ys) ≡ request_names fate xs ++ request_names fate ys
request-parts fate xs ys =
    let names : Payload → List LostSpan = λ p. resource_names fate (row (bytes_in p)).value in
    let s = repeated (message Tables.resource_spans) in
    ap (flat_map names) (payloads-append 1 s xs ys)
    ∙ flat_map-append names (payloads 1 s xs) (payloads 1 s ys)

-- ---- no field

-- Of no field of a scope no name is given.
pub scope-none : (fate : Fate) (o : Option (List LostSpan)) → Gains (scope_names fate []) o o
unfolding payloads
scope-none fate o = gains-none o

-- The same of a resource.
pub resource-none : (fate : Fate) (o : Option (List LostSpan)) → Gains (resource_names fate []) o o
unfolding payloads
resource-none fate o = gains-none o

-- The same of a request.
pub request-none : (fate : Fate) (o : Option (List LostSpan)) → Gains (request_names fate []) o o
unfolding payloads
request-none fate o = gains-none o

-- ---- identifiers

-- These are the identifiers in some fields.
pub record AreIdentifiers (trace span : List ℕ) (fields : List Field) : Type 0 where
  pub trace_is : trace ≡ last_bytes (payloads 1 bytes fields)
  pub span_is : span ≡ last_bytes (payloads 2 bytes fields)

-- In no field both identifiers are empty.
pub no-identifiers : (trace span : List ℕ) → trace ≡ [] → span ≡ []
    → AreIdentifiers trace span []
unfolding payloads
no-identifiers trace span t s = record { trace_is = t; span_is = s }

-- ---- one field, which has a payload or none

module _ (fate : Fate) (f : Field) where
  -- Of a field of a request that is no resource no name is given.
  pub no-request : (o : Option (List LostSpan))
      → payloads 1 (repeated (message Tables.resource_spans)) (f ∷ []) ≡ []
      → Gains (request_names fate (f ∷ [])) o o
  no-request o e =
      subst
      (λ (ps : List Payload).
      Gains (flat_map (λ p. resource_names fate (row (bytes_in p)).value) ps) o o)
      (sym e) (gains-none o)

  -- Of one that is a resource the names of its spans are given.
  pub one-request : (content : List ℕ) (old new : Option (List LostSpan))
      → payloads 1 (repeated (message Tables.resource_spans)) (f ∷ []) ≡ len content ∷ []
      → Gains (resource_names fate (row content).value) old new
      → Gains (request_names fate (f ∷ [])) old new
  one-request content old new e h =
      subst
      (λ (ps : List Payload).
      Gains (flat_map (λ p. resource_names fate (row (bytes_in p)).value) ps) old new)
      (sym e)
      (subst (λ l. Gains l old new) (sym (append-nil (resource_names fate (row content).value))) h)

  -- Of a field of a resource that is no scope no name is given.
  pub no-resource : (o : Option (List LostSpan))
      → payloads 2 (repeated (message Tables.scope_spans)) (f ∷ []) ≡ []
      → Gains (resource_names fate (f ∷ [])) o o
  no-resource o e =
      subst
      (λ (ps : List Payload).
      Gains (flat_map (λ p. scope_names fate (row (bytes_in p)).value) ps) o o)
      (sym e) (gains-none o)

  -- Of one that is a scope the names of its spans are given.
  pub one-resource : (content : List ℕ) (old new : Option (List LostSpan))
      → payloads 2 (repeated (message Tables.scope_spans)) (f ∷ []) ≡ len content ∷ []
      → Gains (scope_names fate (row content).value) old new
      → Gains (resource_names fate (f ∷ [])) old new
  one-resource content old new e h =
      subst
      (λ (ps : List Payload).
      Gains (flat_map (λ p. scope_names fate (row (bytes_in p)).value) ps) old new)
      (sym e)
      (subst (λ l. Gains l old new) (sym (append-nil (scope_names fate (row content).value))) h)

  -- Of a field of a scope that is no span no name is given.
  pub no-scope : (o : Option (List LostSpan))
      → payloads 2 (repeated (message Tables.span)) (f ∷ []) ≡ []
      → Gains (scope_names fate (f ∷ [])) o o
  no-scope o e =
      subst
      (λ (ps : List Payload). Gains (map (λ p. span_name fate (row (bytes_in p)).value) ps) o o)
      (sym e) (gains-none o)

  -- Of one that is a span its name is given.
  pub one-scope : (content trace span : List ℕ) (old new : Option (List LostSpan))
      → payloads 2 (repeated (message Tables.span)) (f ∷ []) ≡ len content ∷ []
      → AreIdentifiers trace span (row content).value
      → Gains (lost_span trace span fate ∷ []) old new
      → Gains (scope_names fate (f ∷ [])) old new
  one-scope content trace span old new e are h =
      subst
      (λ (ps : List Payload).
      Gains (map (λ p. span_name fate (row (bytes_in p)).value) ps) old new)
      (sym e)
      (subst (λ (x : LostSpan). Gains (x ∷ []) old new)
      (ap₂ (λ (t s : List ℕ). lost_span t s fate) are.trace_is are.span_is) h)

-- The spans that are met field by field are those that the body means.
use Rattle.std.proofs.Common.{◌≡◌, refl, ap, ap₂, ◌∙◌, List, [], ◌∷◌, ◌++◌, ℕ, append-nil}
use Rattle.std.specs.Prelude.{map, flat_map}
use Rattle.std.proofs.lemmas.List.{map-append}
use Rattle.model_message.specs.Reading.{each}
use Rattle.model_message.specs.Wire.{Field, Payload, row}
use Rattle.model_message.specs.Tables
use Rattle.model_message.specs.Tables.{Table, Message, message, repeated}
use Rattle.model_message.specs.Messages.{Triple, bytes_in, joined_rows, read, read_table, value}
use Rattle.model_message.specs.Messages.{max_depth, meaning, body_meaning, payloads, scope_triples}
use Rattle.model_message.specs.Messages.{resource_triples}
use Rattle.model_desk.specs.Retries.{Fate}
use Rattle.model_body.specs.Names.{LostSpan, lost_as, names_in, spans_in}
use Rattle.relay_queue.specs.Named.{lost_span}
use Rattle.relay_queue.specs.Walk.{span_name, scope_names, resource_names, request_names}

row-one : (p : Payload) → (joined_rows (p ∷ [])).value ≡ (row (bytes_in p)).value
unfolding joined_rows
row-one p = append-nil (row (bytes_in p)).value

-- the message of these fields, without its faults
abbrev message_of : (t : Table) → List Field → Message t
message_of t fields = (read_table (value max_depth) t fields).value

-- the message of one payload
abbrev message_in : (t : Table) → Payload → Message t
message_in t p = (read (value max_depth) (message t) (p ∷ [])).value

-- the messages of some payloads
abbrev messages_in : (t : Table) → List Payload → List (Message t)
messages_in t ps = (each (λ p. read (value max_depth) (message t) (p ∷ [])) ps).value

one-message : (t : Table) (p : Payload) → message_in t p ≡ message_of t (row (bytes_in p)).value
unfolding read
one-message t p = ap (message_of t) (row-one p)

module _ (fate : Fate) where
  span-fields : (fields : List Field)
      → (let m = message_of Tables.span fields in lost_span m.0 m.1.0 fate) ≡ span_name fate fields
  unfolding read
  span-fields fields = refl

  spans-met : (f : Message Tables.span → Triple) → ((m : Message Tables.span) → (f m).span ≡ m)
      → (ps : List Payload)
      → map (lost_as fate) (map f (messages_in Tables.span ps))
      ≡ map (λ p. span_name fate (row (bytes_in p)).value) ps
  spans-met f same [] = refl
  spans-met f same (p ∷ ps) =
      ap₂ (λ (x : LostSpan) (xs : List LostSpan). x ∷ xs)
      (ap (λ (m : Message Tables.span). lost_span m.0 m.1.0 fate)
      (same (message_in Tables.span p) ∙ one-message Tables.span p)
      ∙ span-fields (row (bytes_in p)).value)
      (spans-met f same ps)

  scope-met : (r : Message Tables.resource) (url : List ℕ) (fields : List Field)
      → map (lost_as fate) (scope_triples r url (message_of Tables.scope_spans fields))
      ≡ scope_names fate fields
  unfolding read
  scope-met r url fields = spans-met _ (λ m. refl) _

  scopes-met : (r : Message Tables.resource) (url : List ℕ) (ps : List Payload)
      → map (lost_as fate) (flat_map (scope_triples r url) (messages_in Tables.scope_spans ps))
      ≡ flat_map (λ p. scope_names fate (row (bytes_in p)).value) ps
  scopes-met r url [] = refl
  scopes-met r url (p ∷ ps) =
      map-append (lost_as fate) (scope_triples r url (message_in Tables.scope_spans p))
      (flat_map (scope_triples r url) (messages_in Tables.scope_spans ps))
      ∙ ap₂ (λ (xs ys : List LostSpan). xs ++ ys)
      (ap (λ m. map (lost_as fate) (scope_triples r url m)) (one-message Tables.scope_spans p)
      ∙ scope-met r url (row (bytes_in p)).value)
      (scopes-met r url ps)

  resource-met : (fields : List Field)
      → map (lost_as fate) (resource_triples (message_of Tables.resource_spans fields))
      ≡ resource_names fate fields
  unfolding read
  resource-met fields = scopes-met _ _ _

  resources-met : (ps : List Payload)
      → map (lost_as fate) (flat_map resource_triples (messages_in Tables.resource_spans ps))
      ≡ flat_map (λ p. resource_names fate (row (bytes_in p)).value) ps
  resources-met [] = refl
  resources-met (p ∷ ps) =
      map-append (lost_as fate) (resource_triples (message_in Tables.resource_spans p))
      (flat_map resource_triples (messages_in Tables.resource_spans ps))
      ∙ ap₂ (λ (xs ys : List LostSpan). xs ++ ys)
      (ap (λ m. map (lost_as fate) (resource_triples m)) (one-message Tables.resource_spans p)
      ∙ resource-met (row (bytes_in p)).value)
      (resources-met ps)

  -- The names of a body are those that are met in the fields of its row.
  pub body-met : (body : List ℕ) → names_in fate body ≡ request_names fate (row body).value
  unfolding spans_in body_meaning meaning read
  body-met body =
      resources-met (payloads 1 (repeated (message Tables.resource_spans)) (row body).value)

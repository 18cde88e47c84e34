-- A whole request, each span of it under a resource and a scope of its own.
use Rattle.std.proofs.Common.{◌≡◌, refl, sym, ap, ap₂, ◌∙◌, subst, ℕ, suc, ◌<◌, ◌≤◌, ◌^◌, List, []}
use Rattle.std.proofs.Common.{◌∷◌, ◌++◌, append-nil, length, map, arith, codes, Ok}
use Rattle.std.specs.List.{flat_map, AllByRecursion}
use Rattle.json.specs.Token.{Token, key, string}
use Rattle.model_message.specs.Reading.{◌>>=◌, done}
use Rattle.model_message.specs.Wire.{Field, len}
use Rattle.model_message.specs.Tables
use Rattle.model_message.specs.Tables.{Message, message}
use Rattle.model_message.specs.Messages.{Triple, body_meaning, meaning, payloads, read, read_table}
use Rattle.model_message.specs.Messages.{resource_triples, triples}
use Rattle.model_message.specs.Canon.{bytes_field, message_field, row_bytes}
use Rattle.model_message.proofs.RowLaws.{row-row_bytes}
use Rattle.model_message.proofs.ReadBack.{utf8-ok}
use Rattle.otlp_json.specs.Bodies.{Objects, at_end, object, max_depth, root, whole}
use Rattle.otlp_json.specs.Names.{member_named, request_member, resource_spans_member}
use Rattle.otlp_json.specs.Names.{scope_spans_member}
use Rattle.otlp_json.specs.LeafNames as leaves
use Rattle.otlp_json.specs.MessageNames as messages
use Rattle.otlp_json.specs.MessageNames.{AnyMessage}
use Rattle.otlp_json.specs.Seen.{Seen, Other, braces, brackets}
use Rattle.law_json.specs.Back.{message_back, triple_back}
use Rattle.law_json.specs.Sound.{IsSoundTriple}
use Rattle.law_json.proofs.Fronts.{Show, TakesItems, TakesMembers, TakesObject, no_items}
use Rattle.law_json.proofs.Fronts.{no_members, object_takes, then_items}
use Rattle.law_json.proofs.Leaves.{text_means}
use Rattle.law_json.proofs.Lists.{rows, rows_read, rows_spelled, rows_take, then_each, then_leaf}
use Rattle.law_json.proofs.Lists.{then_nested}
use Rattle.law_json.proofs.Parts
use Rattle.law_json.proofs.Rows.{both, bytes_below, message_read, spelled_bytes}
use Rattle.law_json.proofs.Spans.{span_back, span_row, span_seen, span_takes}

-- ---- a scope with one span

abbrev pub scope_spans_seen : Triple → List Seen
scope_spans_seen t =
    Other (key (codes "scope")) ∷ (braces (Parts.scope_seen t.scope)
    ++ Other (key (codes "spans")) ∷ (brackets (braces (span_seen t.span))
    ++ Other (key (codes "schemaUrl")) ∷ Other (string t.scope_schema) ∷ []))

abbrev pub scope_spans_row : Triple → List Field
scope_spans_row t =
    message_field 1 (Parts.scope_row t.scope) ∷ message_field 2 (span_row t.span)
    ∷ bytes_field 3 t.scope_schema ∷ []

-- a list of one message
one_item : (objects : Objects) (n : ℕ) (inner : AnyMessage) (what : List Seen) (fields : List Field)
    → TakesObject objects inner what fields
    → TakesItems objects n inner (braces what) (message_field n fields ∷ [])
one_item objects n inner what fields h =
    subst (λ w. TakesItems objects n inner w (message_field n fields ∷ []))
    (append-nil (braces what))
    (then_items objects n inner what [] fields [] h (no_items objects n inner))

scope_spans_takes : (depth : ℕ) (t : Triple) → 191 ≤ depth → IsSoundTriple t
    → TakesObject (object (suc (suc (suc (suc (suc depth)))))) messages.scope_spans
    (scope_spans_seen t) (scope_spans_row t)
unfolding member_named scope_spans_member
scope_spans_takes depth t room h =
    let o = object (suc (suc (suc (suc depth)))) in
    object_takes (suc (suc (suc (suc depth)))) messages.scope_spans (scope_spans_seen t)
    (scope_spans_row t)
    (then_nested o messages.scope_spans (codes "scope") _ _ 1 messages.scope
    (Parts.scope_seen t.scope) (Parts.scope_row t.scope) refl
    (Parts.scope_takes (suc depth) t.scope (omega (arith, room)) h.scope)
    (then_each o messages.scope_spans (codes "spans") _ _ 2 messages.span
    (braces (span_seen t.span))
    (message_field 2 (span_row t.span) ∷ []) refl
    (one_item o 2 messages.span (span_seen t.span) (span_row t.span)
    (span_takes depth t.span room h.span))
    (then_leaf o messages.scope_spans (codes "schemaUrl") [] [] 3 leaves.text
    (Other (string t.scope_schema)) (len t.scope_schema) refl (text_means t.scope_schema)
    (no_members o messages.scope_spans))))

scope_spans_back : (t : Triple) → IsSoundTriple t
    → length (row_bytes (scope_spans_row t)) < 2 ^ 64
    → read Parts.values (message Tables.scope_spans) (len (row_bytes (scope_spans_row t)) ∷ [])
    ≡ done (
      message_back Tables.scope t.scope,
      (message_back Tables.span t.span ∷ [], (t.scope_schema, tt)),
    )
unfolding read payloads
scope_spans_back t h small =
    let a = bytes_below 1 (row_bytes (Parts.scope_row t.scope)) _ (2 ^ 64) small in
    let b = bytes_below 2 (row_bytes (span_row t.span)) _ (2 ^ 64) a.1 in
    let c = bytes_below 3 t.scope_schema [] (2 ^ 64) b.1 in
    message_read Parts.values Tables.scope_spans (scope_spans_row t) _ (
      spelled_bytes 1 _ (omega arith) (omega arith) a.0,
      (
        spelled_bytes 2 _ (omega arith) (omega arith) b.0,
        (spelled_bytes 3 _ (omega arith) (omega arith) c.0, tt),
      ),
    )
    (ap₂ (λ p q. both p q) (Parts.scope_back t.scope h.scope a.0)
    (ap₂ (λ p q. both p (both q (done tt)))
    (ap (λ p. p >>= λ x. done (x ∷ [])) (span_back t.span h.span b.0))
    (utf8-ok t.scope_schema h.scope_schema)))

-- ---- a resource with one span in one scope

abbrev pub resource_spans_seen : Triple → List Seen
resource_spans_seen t =
    Other (key (codes "resource")) ∷ (braces (Parts.resource_seen t.resource)
    ++ Other (key (codes "scopeSpans")) ∷ (brackets (braces (scope_spans_seen t))
    ++ Other (key (codes "schemaUrl")) ∷ Other (string t.resource_schema) ∷ []))

abbrev pub resource_spans_row : Triple → List Field
resource_spans_row t =
    message_field 1 (Parts.resource_row t.resource) ∷ message_field 2 (scope_spans_row t)
    ∷ bytes_field 3 t.resource_schema ∷ []

resource_spans_takes : (depth : ℕ) (t : Triple) → 191 ≤ depth → IsSoundTriple t
    → TakesObject (object (suc (suc (suc (suc (suc (suc depth))))))) messages.resource_spans
    (resource_spans_seen t) (resource_spans_row t)
unfolding member_named resource_spans_member
resource_spans_takes depth t room h =
    let o = object (suc (suc (suc (suc (suc depth))))) in
    object_takes (suc (suc (suc (suc (suc depth))))) messages.resource_spans (resource_spans_seen t)
    (resource_spans_row t)
    (then_nested o messages.resource_spans (codes "resource") _ _ 1 messages.resource
    (Parts.resource_seen t.resource) (Parts.resource_row t.resource) refl
    (Parts.resource_takes (suc (suc depth)) t.resource (omega (arith, room)) h.resource)
    (then_each o messages.resource_spans (codes "scopeSpans") _ _ 2 messages.scope_spans
    (braces (scope_spans_seen t)) (message_field 2 (scope_spans_row t) ∷ []) refl
    (one_item o 2 messages.scope_spans (scope_spans_seen t) (scope_spans_row t)
    (scope_spans_takes depth t room h))
    (then_leaf o messages.resource_spans (codes "schemaUrl") [] [] 3 leaves.text
    (Other (string t.resource_schema)) (len t.resource_schema) refl (text_means t.resource_schema)
    (no_members o messages.resource_spans))))

-- what comes back of it
abbrev group_back : Triple → Message Tables.resource_spans
group_back t = (
  message_back Tables.resource t.resource,
  (
    (
      message_back Tables.scope t.scope,
      (message_back Tables.span t.span ∷ [], (t.scope_schema, tt)),
    )
        ∷ [],
    (t.resource_schema, tt),
  ),
)

resource_spans_back : (t : Triple) → IsSoundTriple t
    → length (row_bytes (resource_spans_row t)) < 2 ^ 64
    → read Parts.values (message Tables.resource_spans)
    (len (row_bytes (resource_spans_row t)) ∷ [])
    ≡ done (group_back t)
unfolding read payloads
resource_spans_back t h small =
    let a = bytes_below 1 (row_bytes (Parts.resource_row t.resource)) _ (2 ^ 64) small in
    let b = bytes_below 2 (row_bytes (scope_spans_row t)) _ (2 ^ 64) a.1 in
    let c = bytes_below 3 t.resource_schema [] (2 ^ 64) b.1 in
    message_read Parts.values Tables.resource_spans (resource_spans_row t) (group_back t) (
      spelled_bytes 1 _ (omega arith) (omega arith) a.0,
      (
        spelled_bytes 2 _ (omega arith) (omega arith) b.0,
        (spelled_bytes 3 _ (omega arith) (omega arith) c.0, tt),
      ),
    )
    (ap₂ (λ p q. both p q) (Parts.resource_back t.resource h.resource a.0)
    (ap₂ (λ p q. both p (both q (done tt)))
    (ap (λ p. p >>= λ x. done (x ∷ [])) (scope_spans_back t h b.0))
    (utf8-ok t.resource_schema h.resource_schema)))

-- ---- a request

abbrev pub request_seen : List Triple → List Seen
request_seen ts =
    Other (key (codes "resourceSpans"))
    ∷ brackets (flat_map (λ t. braces (resource_spans_seen t)) ts)

abbrev pub request_row : List Triple → List Field
request_row ts = rows 1 resource_spans_row ts

-- the whole text, but for its first token
request_takes : (ts : List Triple) → AllByRecursion IsSoundTriple ts
    → TakesObject (object max_depth) messages.request (request_seen ts) (request_row ts)
unfolding member_named request_member
request_takes ts h =
    let o = object 199 in
    let items = flat_map (λ t. braces (resource_spans_seen t)) ts in
    object_takes 199 messages.request (request_seen ts) (request_row ts)
    (subst (λ w. TakesMembers o messages.request (Other (key (codes "resourceSpans")) ∷ w)
    (request_row ts)) (append-nil (brackets items))
    (subst (λ f. TakesMembers o messages.request
    (Other (key (codes "resourceSpans")) ∷ (brackets items ++ [])) f) (append-nil (request_row ts))
    (then_each o messages.request (codes "resourceSpans") [] [] 1 messages.resource_spans items
    (request_row ts) refl
    (rows_take resource_spans_row o 1 messages.resource_spans IsSoundTriple resource_spans_seen
    (λ t k. resource_spans_takes 193 t (omega arith) k) ts h) (no_members o messages.request))))

-- Tokens of which a request is seen mean its fields.
pub whole_takes : (triples : List Triple) → AllByRecursion IsSoundTriple triples
    → (ts : List Token) → Show (braces (request_seen triples)) ts
    → whole ts ≡ Ok (request_row triples)
unfolding TakesObject
whole_takes triples h [] s = absurd s
whole_takes triples h (t ∷ ts) s =
    ap (λ u. at_end (root u ts)) s.0
    ∙ ap (λ l. at_end (object max_depth messages.request l)) (sym (append-nil ts))
    ∙ ap at_end (request_takes triples h ts [] s.1)

-- ---- what its bytes mean

triples_of : (ts : List Triple) → flat_map resource_triples (map group_back ts) ≡ map triple_back ts
triples_of [] = refl
triples_of (t ∷ ts) = ap (λ l. triple_back t ∷ l) (triples_of ts)

groups_read : (ts : List Triple) → AllByRecursion IsSoundTriple ts
    → length (row_bytes (request_row ts)) < 2 ^ 64
    → read_table Parts.values Tables.request (request_row ts) ≡ done (map group_back ts, tt)
unfolding read
groups_read ts h small =
    ap (λ p. both p (done tt))
    (rows_read resource_spans_row Parts.values 1 Tables.resource_spans IsSoundTriple group_back
    resource_spans_back ts h small)

-- The bytes of these fields mean the spans that come back.
pub request_back : (ts : List Triple) → AllByRecursion IsSoundTriple ts
    → length (row_bytes (request_row ts)) < 2 ^ 64
    → body_meaning (row_bytes (request_row ts)) ≡ done (map triple_back ts)
unfolding body_meaning meaning
request_back ts h small =
    ap (λ r.
    (r >>= λ f. read_table Parts.values Tables.request f) >>= λ message. done (triples message))
    (row-row_bytes (request_row ts)
    (rows_spelled resource_spans_row 1 (omega arith) (omega arith) ts small))
    ∙ ap (λ r. r >>= λ message. done (triples message)) (groups_read ts h small)
    ∙ ap done (triples_of ts)

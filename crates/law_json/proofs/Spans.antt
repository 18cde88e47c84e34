-- Links and spans: what is seen of them in JSON, the fields that this means, and what those are
-- read as.
use Rattle.std.proofs.Common.{◌≡◌, refl, ap, ap₂, ◌∙◌, ℕ, suc, ◌<◌, ◌≤◌, ◌^◌, List, []}
use Rattle.std.proofs.Common.{◌∷◌, ◌++◌, append-nil, length, arith, codes, decimal}
use Rattle.std.specs.Int.{w64, cast_unsigned}
use Rattle.std.specs.Fmt.{signed_decimal}
use Rattle.std.specs.List.{flat_map}
use Rattle.hex.specs.Hex.{encode_lower}
use Rattle.json.specs.Token.{key, string}
use Rattle.model_message.specs.Reading.{done}
use Rattle.model_message.specs.Wire.{Field, Payload, varint, i64, len, i32}
use Rattle.model_message.specs.Tables
use Rattle.model_message.specs.Tables.{Message, Shape, message, repeated, key_value, uint32, enum}
use Rattle.model_message.specs.Tables.{text, bytes, fixed64, fixed32}
use Rattle.model_message.specs.Messages.{payloads, read}
use Rattle.model_message.specs.Canon.{bytes_field, message_field, row_bytes}
use Rattle.model_message.proofs.RowLaws.{HaveSpellings}
use Rattle.model_message.proofs.ReadBack.{utf8-ok}
use Rattle.otlp_json.specs.Bodies.{object}
use Rattle.otlp_json.specs.Names.{member_named, link_member, span_member, more_of_span}
use Rattle.otlp_json.specs.LeafNames as leaves
use Rattle.otlp_json.specs.MessageNames as messages
use Rattle.otlp_json.specs.Seen.{Seen, Other, braces, brackets, number_seen}
use Rattle.law_json.specs.Back.{message_back}
use Rattle.law_json.specs.Sound.{IsSoundMessage}
use Rattle.law_json.proofs.Fronts.{TakesObject, no_members, object_takes}
use Rattle.law_json.proofs.Leaves.{enum_means, fixed32_means, id_means, long_means, text_means}
use Rattle.law_json.proofs.Leaves.{uint32_means}
use Rattle.law_json.proofs.Lists.{payloads_both, rows, rows_none, rows_read, rows_spelled}
use Rattle.law_json.proofs.Lists.{rows_take}
use Rattle.law_json.proofs.Lists.{then_each, then_leaf, then_nested}
use Rattle.law_json.proofs.Parts
use Rattle.law_json.proofs.Rows.{both, both_spelled, bytes_below, message_read, parts_below}
use Rattle.law_json.proofs.Rows.{rest_below, spelled_bytes, spelled_payload}

-- ---- a link

abbrev pub link_seen : Message Tables.link → List Seen
link_seen l =
    Other (key (codes "traceId")) ∷ Other (string (encode_lower l.0)) ∷ Other (key (codes "spanId"))
    ∷ Other (string (encode_lower l.1.0)) ∷ Other (key (codes "traceState"))
    ∷ Other (string l.1.1.0) ∷ Other (key (codes "attributes"))
    ∷ (brackets (Parts.pairs_seen l.1.1.1.0)
    ++ Other (key (codes "droppedAttributesCount")) ∷ number_seen (decimal l.1.1.1.1.0)
    ∷ Other (key (codes "flags")) ∷ number_seen (decimal l.1.1.1.1.1.0) ∷ [])

abbrev link_front : Message Tables.link → List Field
link_front l = bytes_field 1 l.0 ∷ bytes_field 2 l.1.0 ∷ bytes_field 3 l.1.1.0 ∷ []

abbrev link_end : Message Tables.link → List Field
link_end l =
    record { number = 5; payload = varint l.1.1.1.1.0 }
    ∷ record { number = 6; payload = i32 l.1.1.1.1.1.0 } ∷ []

abbrev pub link_row : Message Tables.link → List Field
link_row l = link_front l ++ (Parts.pairs_rows 4 l.1.1.1.0 ++ link_end l)

-- A link means its fields.
pub link_takes : (depth : ℕ) (l : Message Tables.link) → 191 ≤ depth → IsSoundMessage Tables.link l
    → TakesObject (object (suc (suc (suc depth)))) messages.link (link_seen l) (link_row l)
unfolding member_named link_member
link_takes depth l room h =
    let o = object (suc (suc depth)) in
    object_takes (suc (suc depth)) messages.link (link_seen l) (link_row l)
    (then_leaf o messages.link (codes "traceId") _ _ 1 leaves.id (Other (string (encode_lower l.0)))
    (len l.0) refl (id_means l.0 h.0)
    (then_leaf o messages.link (codes "spanId") _ _ 2 leaves.id
    (Other (string (encode_lower l.1.0))) (len l.1.0) refl (id_means l.1.0 h.1.0)
    (then_leaf o messages.link (codes "traceState") _ _ 3 leaves.text (Other (string l.1.1.0))
    (len l.1.1.0) refl (text_means l.1.1.0)
    (then_each o messages.link (codes "attributes") _ _ 4 messages.key_value
    (Parts.pairs_seen l.1.1.1.0) (Parts.pairs_rows 4 l.1.1.1.0) refl
    (Parts.pairs_take depth 4 l.1.1.1.0 room h.1.1.1.0)
    (then_leaf o messages.link (codes "droppedAttributesCount") _ _ 5 leaves.uint32
    (number_seen (decimal l.1.1.1.1.0)) (varint l.1.1.1.1.0) refl
    (uint32_means l.1.1.1.1.0 h.1.1.1.1.0)
    (then_leaf o messages.link (codes "flags") [] [] 6 leaves.fixed32
    (number_seen (decimal l.1.1.1.1.1.0)) (i32 l.1.1.1.1.1.0) refl
    (fixed32_means l.1.1.1.1.1.0 h.1.1.1.1.1.0) (no_members o messages.link)))))))

-- The fields of a link are read as what comes back.
pub link_back : (l : Message Tables.link) → IsSoundMessage Tables.link l
    → length (row_bytes (link_row l)) < 2 ^ 64
    → read Parts.values (message Tables.link) (len (row_bytes (link_row l)) ∷ [])
    ≡ done (message_back Tables.link l)
unfolding read payloads message_back
link_back l h small =
    let ps = l.1.1.1.0 in
    let a = bytes_below 1 l.0 _ (2 ^ 64) small in
    let b = bytes_below 2 l.1.0 _ (2 ^ 64) a.1 in
    let c = bytes_below 3 l.1.1.0 _ (2 ^ 64) b.1 in
    let parts = parts_below (Parts.pairs_rows 4 ps) (link_end l) (2 ^ 64) c.1 in
    let beside = λ (n : ℕ) (s : Shape) (other : 4 ≡ n → ⊥).
    Parts.beside n s (link_front l) 4 ps (link_end l) other in
    message_read Parts.values Tables.link (link_row l) _ (
      spelled_bytes 1 l.0 (omega arith) (omega arith) a.0,
      (
        spelled_bytes 2 l.1.0 (omega arith) (omega arith) b.0,
        (
          spelled_bytes 3 l.1.1.0 (omega arith) (omega arith) c.0,
          both_spelled (Parts.pairs_rows 4 ps) (link_end l)
              (rows_spelled Parts.pair_fields 4 (omega arith) (omega arith) ps parts.0) (
                spelled_payload 5 (varint l.1.1.1.1.0) (omega arith) (omega arith)
                    (omega (arith, h.1.1.1.1.0)),
                (
                  spelled_payload 6 (i32 l.1.1.1.1.1.0) (omega arith) (omega arith) h.1.1.1.1.1.0,
                  tt,
                ),
              ),
        ),
      ),
    )
    (ap₂ (λ p q. both p q) (ap (read Parts.values bytes) (beside 1 bytes (λ k. omega (arith, k))))
    (ap₂ (λ p q. both p q) (ap (read Parts.values bytes) (beside 2 bytes (λ k. omega (arith, k))))
    (ap₂ (λ p q. both p q)
    (ap (read Parts.values text) (beside 3 text (λ k. omega (arith, k)))
    ∙ utf8-ok l.1.1.0 h.1.1.0)
    (ap₂ (λ p q. both p q)
    (Parts.within 4 (link_front l) ps (link_end l) refl refl h.1.1.1.0 parts.0)
    (ap₂ (λ p q. both p (both q (done tt)))
    (ap (read Parts.values uint32) (beside 5 uint32 (λ k. omega (arith, k)))
    ∙ Parts.uint32_back l.1.1.1.1.0 h.1.1.1.1.0)
    (ap (read Parts.values fixed32) (beside 6 fixed32 (λ k. omega (arith, k)))))))))

-- ---- a span

abbrev pub events_seen : List (Message Tables.event) → List Seen
events_seen es = flat_map (λ e. braces (Parts.event_seen e)) es

abbrev pub links_seen : List (Message Tables.link) → List Seen
links_seen ls = flat_map (λ l. braces (link_seen l)) ls

abbrev pub span_seen : Message Tables.span → List Seen
span_seen s =
    Other (key (codes "traceId")) ∷ Other (string (encode_lower s.0))
    ∷ Other (key (codes "spanId")) ∷ Other (string (encode_lower s.1.0))
    ∷ Other (key (codes "traceState")) ∷ Other (string s.1.1.0)
    ∷ Other (key (codes "parentSpanId")) ∷ Other (string (encode_lower s.1.1.1.0))
    ∷ Other (key (codes "flags")) ∷ number_seen (decimal s.1.1.1.1.1.1.1.1.1.1.1.1.1.1.1.0)
    ∷ Other (key (codes "name")) ∷ Other (string s.1.1.1.1.0)
    ∷ Other (key (codes "kind")) ∷ number_seen (signed_decimal s.1.1.1.1.1.0)
    ∷ Other (key (codes "startTimeUnixNano")) ∷ Other (string (decimal s.1.1.1.1.1.1.0))
    ∷ Other (key (codes "endTimeUnixNano")) ∷ Other (string (decimal s.1.1.1.1.1.1.1.0))
    ∷ Other (key (codes "attributes")) ∷ (brackets (Parts.pairs_seen s.1.1.1.1.1.1.1.1.0)
    ++ Other (key (codes "droppedAttributesCount")) ∷ number_seen (decimal s.1.1.1.1.1.1.1.1.1.0)
    ∷ Other (key (codes "events")) ∷ (brackets (events_seen s.1.1.1.1.1.1.1.1.1.1.0)
    ++ Other (key (codes "droppedEventsCount")) ∷ number_seen (decimal s.1.1.1.1.1.1.1.1.1.1.1.0)
    ∷ Other (key (codes "links")) ∷ (brackets (links_seen s.1.1.1.1.1.1.1.1.1.1.1.1.0)
    ++ Other (key (codes "droppedLinksCount")) ∷ number_seen (decimal s.1.1.1.1.1.1.1.1.1.1.1.1.1.0)
    ∷ Other (key (codes "status"))
    ∷ (braces (Parts.status_seen s.1.1.1.1.1.1.1.1.1.1.1.1.1.1.0) ++ []))))

abbrev span_front : Message Tables.span → List Field
span_front s =
    bytes_field 1 s.0
    ∷ bytes_field 2 s.1.0
    ∷ bytes_field 3 s.1.1.0
    ∷ bytes_field 4 s.1.1.1.0
    ∷ record { number = 16; payload = i32 s.1.1.1.1.1.1.1.1.1.1.1.1.1.1.1.0 }
    ∷ bytes_field 5 s.1.1.1.1.0
    ∷ record { number = 6; payload = varint (cast_unsigned w64 s.1.1.1.1.1.0) }
    ∷ record { number = 7; payload = i64 s.1.1.1.1.1.1.0 }
    ∷ record { number = 8; payload = i64 s.1.1.1.1.1.1.1.0 } ∷ []

abbrev span_end : Message Tables.span → List Field
span_end s =
    record { number = 14; payload = varint s.1.1.1.1.1.1.1.1.1.1.1.1.1.0 }
    ∷ message_field 15 (Parts.status_row s.1.1.1.1.1.1.1.1.1.1.1.1.1.1.0) ∷ []

abbrev pub span_row : Message Tables.span → List Field
span_row s =
    span_front s
    ++ (Parts.pairs_rows 9 s.1.1.1.1.1.1.1.1.0 ++ (Parts.dropped 10 s.1.1.1.1.1.1.1.1.1.0
    ++ (rows 11 Parts.event_row s.1.1.1.1.1.1.1.1.1.1.0
    ++ (Parts.dropped 12 s.1.1.1.1.1.1.1.1.1.1.1.0
    ++ (rows 13 link_row s.1.1.1.1.1.1.1.1.1.1.1.1.0 ++ span_end s)))))

-- A span means its fields.
pub span_takes : (depth : ℕ) (s : Message Tables.span) → 191 ≤ depth → IsSoundMessage Tables.span s
    → TakesObject (object (suc (suc (suc (suc depth))))) messages.span (span_seen s) (span_row s)
unfolding member_named span_member more_of_span
span_takes depth s room h =
    let o = object (suc (suc (suc depth))) in
    object_takes (suc (suc (suc depth))) messages.span (span_seen s) (span_row s)
    (then_leaf o messages.span (codes "traceId") _ _ 1 leaves.id (Other (string (encode_lower s.0)))
    (len s.0) refl (id_means s.0 h.0)
    (then_leaf o messages.span (codes "spanId") _ _ 2 leaves.id
    (Other (string (encode_lower s.1.0))) (len s.1.0) refl (id_means s.1.0 h.1.0)
    (then_leaf o messages.span (codes "traceState") _ _ 3 leaves.text (Other (string s.1.1.0))
    (len s.1.1.0) refl (text_means s.1.1.0)
    (then_leaf o messages.span (codes "parentSpanId") _ _ 4 leaves.id
    (Other (string (encode_lower s.1.1.1.0))) (len s.1.1.1.0) refl (id_means s.1.1.1.0 h.1.1.1.0)
    (then_leaf o messages.span (codes "flags") _ _ 16 leaves.fixed32
    (number_seen (decimal s.1.1.1.1.1.1.1.1.1.1.1.1.1.1.1.0))
    (i32 s.1.1.1.1.1.1.1.1.1.1.1.1.1.1.1.0) refl
    (fixed32_means s.1.1.1.1.1.1.1.1.1.1.1.1.1.1.1.0 h.1.1.1.1.1.1.1.1.1.1.1.1.1.1.1.0)
    (then_leaf o messages.span (codes "name") _ _ 5 leaves.text (Other (string s.1.1.1.1.0))
    (len s.1.1.1.1.0) refl (text_means s.1.1.1.1.0)
    (then_leaf o messages.span (codes "kind") _ _ 6 leaves.enum
    (number_seen (signed_decimal s.1.1.1.1.1.0)) (varint (cast_unsigned w64 s.1.1.1.1.1.0)) refl
    (enum_means s.1.1.1.1.1.0 h.1.1.1.1.1.0.sfits)
    (then_leaf o messages.span (codes "startTimeUnixNano") _ _ 7 leaves.fixed64
    (Other (string (decimal s.1.1.1.1.1.1.0))) (i64 s.1.1.1.1.1.1.0) refl
    (long_means s.1.1.1.1.1.1.0 h.1.1.1.1.1.1.0)
    (then_leaf o messages.span (codes "endTimeUnixNano") _ _ 8 leaves.fixed64
    (Other (string (decimal s.1.1.1.1.1.1.1.0))) (i64 s.1.1.1.1.1.1.1.0) refl
    (long_means s.1.1.1.1.1.1.1.0 h.1.1.1.1.1.1.1.0)
    (then_each o messages.span (codes "attributes") _ _ 9 messages.key_value
    (Parts.pairs_seen s.1.1.1.1.1.1.1.1.0) (Parts.pairs_rows 9 s.1.1.1.1.1.1.1.1.0) refl
    (Parts.pairs_take (suc depth) 9 s.1.1.1.1.1.1.1.1.0 (omega (arith, room)) h.1.1.1.1.1.1.1.1.0)
    (then_leaf o messages.span (codes "droppedAttributesCount") _ _ 10 leaves.uint32
    (number_seen (decimal s.1.1.1.1.1.1.1.1.1.0)) (varint s.1.1.1.1.1.1.1.1.1.0) refl
    (uint32_means s.1.1.1.1.1.1.1.1.1.0 h.1.1.1.1.1.1.1.1.1.0)
    (then_each o messages.span (codes "events") _ _ 11 messages.event
    (events_seen s.1.1.1.1.1.1.1.1.1.1.0)
    (rows 11 Parts.event_row s.1.1.1.1.1.1.1.1.1.1.0) refl
    (rows_take Parts.event_row o 11 messages.event (λ e. IsSoundMessage Tables.event e)
    Parts.event_seen
    (λ e k. Parts.event_takes depth e room k) s.1.1.1.1.1.1.1.1.1.1.0 h.1.1.1.1.1.1.1.1.1.1.0)
    (then_leaf o messages.span (codes "droppedEventsCount") _ _ 12 leaves.uint32
    (number_seen (decimal s.1.1.1.1.1.1.1.1.1.1.1.0)) (varint s.1.1.1.1.1.1.1.1.1.1.1.0) refl
    (uint32_means s.1.1.1.1.1.1.1.1.1.1.1.0 h.1.1.1.1.1.1.1.1.1.1.1.0)
    (then_each o messages.span (codes "links") _ _ 13 messages.link
    (links_seen s.1.1.1.1.1.1.1.1.1.1.1.1.0)
    (rows 13 link_row s.1.1.1.1.1.1.1.1.1.1.1.1.0) refl
    (rows_take link_row o 13 messages.link (λ l. IsSoundMessage Tables.link l) link_seen
    (λ l k. link_takes depth l room k) s.1.1.1.1.1.1.1.1.1.1.1.1.0 h.1.1.1.1.1.1.1.1.1.1.1.1.0)
    (then_leaf o messages.span (codes "droppedLinksCount") _ _ 14 leaves.uint32
    (number_seen (decimal s.1.1.1.1.1.1.1.1.1.1.1.1.1.0))
    (varint s.1.1.1.1.1.1.1.1.1.1.1.1.1.0) refl
    (uint32_means s.1.1.1.1.1.1.1.1.1.1.1.1.1.0 h.1.1.1.1.1.1.1.1.1.1.1.1.1.0)
    (then_nested o messages.span (codes "status") [] [] 15 messages.status
    (Parts.status_seen s.1.1.1.1.1.1.1.1.1.1.1.1.1.1.0)
    (Parts.status_row s.1.1.1.1.1.1.1.1.1.1.1.1.1.1.0) refl
    (Parts.status_takes
    (suc (suc depth)) s.1.1.1.1.1.1.1.1.1.1.1.1.1.1.0 h.1.1.1.1.1.1.1.1.1.1.1.1.1.1.0)
    (no_members o messages.span)))))))))))))))))

module _ (s : Message Tables.span) where
  -- the payloads of a number where those of the lists are these
  span_payloads : (n : ℕ) (sh : Shape) (p q r : List Payload)
      → payloads n sh (Parts.pairs_rows 9 s.1.1.1.1.1.1.1.1.0) ≡ p
      → payloads n sh (rows 11 Parts.event_row s.1.1.1.1.1.1.1.1.1.1.0) ≡ q
      → payloads n sh (rows 13 link_row s.1.1.1.1.1.1.1.1.1.1.1.1.0) ≡ r
      → payloads n sh (span_row s)
      ≡ payloads n sh (span_front s)
      ++ (p ++ (payloads n sh (Parts.dropped 10 s.1.1.1.1.1.1.1.1.1.0)
      ++ (q
      ++ (payloads n sh (Parts.dropped 12 s.1.1.1.1.1.1.1.1.1.1.1.0)
      ++ (r ++ payloads n sh (span_end s))))))
  span_payloads n sh p q r hp hq hr =
      let d = Parts.dropped 10 s.1.1.1.1.1.1.1.1.1.0 in
      let e = Parts.dropped 12 s.1.1.1.1.1.1.1.1.1.1.1.0 in
      let a = Parts.pairs_rows 9 s.1.1.1.1.1.1.1.1.0 in
      let b = rows 11 Parts.event_row s.1.1.1.1.1.1.1.1.1.1.0 in
      let c = rows 13 link_row s.1.1.1.1.1.1.1.1.1.1.1.1.0 in
      payloads_both n sh (span_front s) (a ++ (d ++ (b ++ (e ++ (c ++ span_end s)))))
      ∙ ap (λ l. payloads n sh (span_front s) ++ l)
      (payloads_both n sh a (d ++ (b ++ (e ++ (c ++ span_end s))))
      ∙ ap₂ (λ k l. k ++ l) hp
      (payloads_both n sh d (b ++ (e ++ (c ++ span_end s)))
      ∙ ap (λ l. payloads n sh d ++ l)
      (payloads_both n sh b (e ++ (c ++ span_end s))
      ∙ ap₂ (λ k l. k ++ l) hq
      (payloads_both n sh e (c ++ span_end s)
      ∙ ap (λ l. payloads n sh e ++ l)
      (payloads_both n sh c (span_end s) ∙ ap (λ l. l ++ payloads n sh (span_end s)) hr)))))

  -- those of a number that no list has
  beside : (n : ℕ) (sh : Shape) → (9 ≡ n → ⊥) → (11 ≡ n → ⊥) → (13 ≡ n → ⊥)
      → payloads n sh (span_row s)
      ≡ payloads n sh (span_front s) ++ (payloads n sh (Parts.dropped 10 s.1.1.1.1.1.1.1.1.1.0)
      ++ (payloads n sh (Parts.dropped 12 s.1.1.1.1.1.1.1.1.1.1.1.0) ++ payloads n sh (span_end s)))
  beside n sh x y z =
      span_payloads n sh [] [] [] (rows_none Parts.pair_fields 9 n sh x s.1.1.1.1.1.1.1.1.0)
      (rows_none Parts.event_row 11 n sh y s.1.1.1.1.1.1.1.1.1.1.0)
      (rows_none link_row 13 n sh z s.1.1.1.1.1.1.1.1.1.1.1.1.0)

-- The fields of a span are read as what comes back.
pub span_back : (s : Message Tables.span) → IsSoundMessage Tables.span s
    → length (row_bytes (span_row s)) < 2 ^ 64
    → read Parts.values (message Tables.span) (len (row_bytes (span_row s)) ∷ [])
    ≡ done (message_back Tables.span s)
unfolding read payloads message_back
span_back s h small =
    let a1 = bytes_below 1 s.0 _ (2 ^ 64) small in
    let a2 = bytes_below 2 s.1.0 _ (2 ^ 64) a1.1 in
    let a3 = bytes_below 3 s.1.1.0 _ (2 ^ 64) a2.1 in
    let a4 = bytes_below 4 s.1.1.1.0 _ (2 ^ 64) a3.1 in
    let a16 =
    rest_below (record { number = 16; payload = i32 s.1.1.1.1.1.1.1.1.1.1.1.1.1.1.1.0 }) _
    (2 ^ 64) a4.1 in
    let a5 = bytes_below 5 s.1.1.1.1.0 _ (2 ^ 64) a16 in
    let a6 =
    rest_below (record { number = 6; payload = varint (cast_unsigned w64 s.1.1.1.1.1.0) }) _
    (2 ^ 64) a5.1 in
    let a7 = rest_below (record { number = 7; payload = i64 s.1.1.1.1.1.1.0 }) _ (2 ^ 64) a6 in
    let a8 = rest_below (record { number = 8; payload = i64 s.1.1.1.1.1.1.1.0 }) _ (2 ^ 64) a7 in
    let p9 = parts_below (Parts.pairs_rows 9 s.1.1.1.1.1.1.1.1.0) _ (2 ^ 64) a8 in
    let p10 = parts_below (Parts.dropped 10 s.1.1.1.1.1.1.1.1.1.0) _ (2 ^ 64) p9.1 in
    let p11 = parts_below (rows 11 Parts.event_row s.1.1.1.1.1.1.1.1.1.1.0) _ (2 ^ 64) p10.1 in
    let p12 = parts_below (Parts.dropped 12 s.1.1.1.1.1.1.1.1.1.1.1.0) _ (2 ^ 64) p11.1 in
    let p13 = parts_below (rows 13 link_row s.1.1.1.1.1.1.1.1.1.1.1.1.0) _ (2 ^ 64) p12.1 in
    let a14 =
    rest_below (record { number = 14; payload = varint s.1.1.1.1.1.1.1.1.1.1.1.1.1.0 }) _
    (2 ^ 64) p13.1 in
    let a15 =
    bytes_below 15 (row_bytes (Parts.status_row s.1.1.1.1.1.1.1.1.1.1.1.1.1.1.0)) [] (2 ^ 64) a14 in
    let ends : HaveSpellings (span_end s) = (
      spelled_payload 14 (varint s.1.1.1.1.1.1.1.1.1.1.1.1.1.0) (omega arith) (omega arith)
          (omega (arith, h.1.1.1.1.1.1.1.1.1.1.1.1.1.0)),
      (
        spelled_bytes 15 (row_bytes (Parts.status_row s.1.1.1.1.1.1.1.1.1.1.1.1.1.1.0))
            (omega arith) (omega arith) a15.0,
        tt,
      ),
    ) in
    let lists =
    both_spelled (Parts.pairs_rows 9 s.1.1.1.1.1.1.1.1.0) _
    (rows_spelled Parts.pair_fields 9 (omega arith) (omega arith) s.1.1.1.1.1.1.1.1.0 p9.0)
    (both_spelled (Parts.dropped 10 s.1.1.1.1.1.1.1.1.1.0) _
    (Parts.dropped_spelled 10 s.1.1.1.1.1.1.1.1.1.0 (omega arith)
    (omega arith) h.1.1.1.1.1.1.1.1.1.0)
    (both_spelled (rows 11 Parts.event_row s.1.1.1.1.1.1.1.1.1.1.0) _
    (rows_spelled Parts.event_row 11 (omega arith) (omega arith) s.1.1.1.1.1.1.1.1.1.1.0 p11.0)
    (both_spelled (Parts.dropped 12 s.1.1.1.1.1.1.1.1.1.1.1.0) _
    (Parts.dropped_spelled 12 s.1.1.1.1.1.1.1.1.1.1.1.0 (omega arith)
    (omega arith) h.1.1.1.1.1.1.1.1.1.1.1.0)
    (both_spelled (rows 13 link_row s.1.1.1.1.1.1.1.1.1.1.1.1.0) (span_end s)
    (rows_spelled link_row 13 (omega arith) (omega arith) s.1.1.1.1.1.1.1.1.1.1.1.1.0 p13.0)
    ends)))) in
    message_read Parts.values Tables.span (span_row s) (message_back Tables.span s) (
      spelled_bytes 1 s.0 (omega arith) (omega arith) a1.0,
      (
        spelled_bytes 2 s.1.0 (omega arith) (omega arith) a2.0,
        (
          spelled_bytes 3 s.1.1.0 (omega arith) (omega arith) a3.0,
          (
            spelled_bytes 4 s.1.1.1.0 (omega arith) (omega arith) a4.0,
            (
              spelled_payload 16 (i32 s.1.1.1.1.1.1.1.1.1.1.1.1.1.1.1.0) (omega arith)
                  (omega arith) h.1.1.1.1.1.1.1.1.1.1.1.1.1.1.1.0,
              (
                spelled_bytes 5 s.1.1.1.1.0 (omega arith) (omega arith) a5.0,
                (
                  spelled_payload 6 (varint (cast_unsigned w64 s.1.1.1.1.1.0)) (omega arith)
                      (omega arith)
                      (Parts.bits_small s.1.1.1.1.1.0 h.1.1.1.1.1.0.sfits),
                  (
                    spelled_payload 7 (i64 s.1.1.1.1.1.1.0) (omega arith)
                        (omega arith) h.1.1.1.1.1.1.0,
                    (
                      spelled_payload 8 (i64 s.1.1.1.1.1.1.1.0) (omega arith)
                          (omega arith) h.1.1.1.1.1.1.1.0,
                      lists,
                    ),
                  ),
                ),
              ),
            ),
          ),
        ),
      ),
    )
    (ap₂ (λ p q. both p q)
    (ap (read Parts.values bytes)
    (beside s 1 bytes (λ k. omega (arith, k)) (λ k. omega (arith, k)) (λ k. omega (arith, k))))
    (ap₂ (λ p q. both p q)
    (ap (read Parts.values bytes)
    (beside s 2 bytes (λ k. omega (arith, k)) (λ k. omega (arith, k)) (λ k. omega (arith, k))))
    (ap₂ (λ p q. both p q)
    (ap (read Parts.values text)
    (beside s 3 text (λ k. omega (arith, k)) (λ k. omega (arith, k)) (λ k. omega (arith, k)))
    ∙ utf8-ok s.1.1.0 h.1.1.0)
    (ap₂ (λ p q. both p q)
    (ap (read Parts.values bytes)
    (beside s 4 bytes (λ k. omega (arith, k)) (λ k. omega (arith, k)) (λ k. omega (arith, k))))
    (ap₂ (λ p q. both p q)
    (ap (read Parts.values text)
    (beside s 5 text (λ k. omega (arith, k)) (λ k. omega (arith, k)) (λ k. omega (arith, k)))
    ∙ utf8-ok s.1.1.1.1.0 h.1.1.1.1.0)
    (ap₂ (λ p q. both p q)
    (ap (read Parts.values enum)
    (beside s 6 enum (λ k. omega (arith, k)) (λ k. omega (arith, k)) (λ k. omega (arith, k)))
    ∙ Parts.enum_back s.1.1.1.1.1.0 h.1.1.1.1.1.0)
    (ap₂ (λ p q. both p q)
    (ap (read Parts.values fixed64)
    (beside s 7 fixed64 (λ k. omega (arith, k)) (λ k. omega (arith, k)) (λ k. omega (arith, k))))
    (ap₂ (λ p q. both p q)
    (ap (read Parts.values fixed64)
    (beside s 8 fixed64 (λ k. omega (arith, k)) (λ k. omega (arith, k)) (λ k. omega (arith, k))))
    (ap₂ (λ p q. both p q)
    (ap (read Parts.values (repeated (message key_value)))
    (span_payloads s 9 (repeated (message key_value))
    (payloads 9 (repeated (message key_value)) (rows 9 Parts.pair_fields s.1.1.1.1.1.1.1.1.0)) [] []
    refl
    (rows_none Parts.event_row 11 9 (repeated (message key_value))
    (λ k. omega (arith, k)) s.1.1.1.1.1.1.1.1.1.1.0)
    (rows_none link_row 13 9 (repeated (message key_value))
    (λ k. omega (arith, k)) s.1.1.1.1.1.1.1.1.1.1.1.1.0)
    ∙ append-nil _)
    ∙ Parts.pairs_back 9 s.1.1.1.1.1.1.1.1.0 h.1.1.1.1.1.1.1.1.0 p9.0)
    (ap₂ (λ p q. both p q)
    (ap (read Parts.values uint32)
    (beside s 10 uint32 (λ k. omega (arith, k)) (λ k. omega (arith, k)) (λ k. omega (arith, k)))
    ∙ Parts.uint32_back s.1.1.1.1.1.1.1.1.1.0 h.1.1.1.1.1.1.1.1.1.0)
    (ap₂ (λ p q. both p q)
    (ap (read Parts.values (repeated (message Tables.event)))
    (span_payloads s 11 (repeated (message Tables.event)) []
    (payloads 11 (repeated (message Tables.event))
    (rows 11 Parts.event_row s.1.1.1.1.1.1.1.1.1.1.0))
    []
    (rows_none Parts.pair_fields 9 11 (repeated (message Tables.event))
    (λ k. omega (arith, k)) s.1.1.1.1.1.1.1.1.0)
    refl
    (rows_none link_row 13 11 (repeated (message Tables.event))
    (λ k. omega (arith, k)) s.1.1.1.1.1.1.1.1.1.1.1.1.0)
    ∙ append-nil _)
    ∙ rows_read Parts.event_row Parts.values 11 Tables.event
    (λ e. IsSoundMessage Tables.event e) (message_back Tables.event) Parts.event_back
    s.1.1.1.1.1.1.1.1.1.1.0 h.1.1.1.1.1.1.1.1.1.1.0 p11.0)
    (ap₂ (λ p q. both p q)
    (ap (read Parts.values uint32)
    (beside s 12 uint32 (λ k. omega (arith, k)) (λ k. omega (arith, k)) (λ k. omega (arith, k)))
    ∙ Parts.uint32_back s.1.1.1.1.1.1.1.1.1.1.1.0 h.1.1.1.1.1.1.1.1.1.1.1.0)
    (ap₂ (λ p q. both p q)
    (ap (read Parts.values (repeated (message Tables.link)))
    (span_payloads s 13 (repeated (message Tables.link)) [] []
    (payloads 13 (repeated (message Tables.link)) (rows 13 link_row s.1.1.1.1.1.1.1.1.1.1.1.1.0))
    (rows_none Parts.pair_fields 9 13 (repeated (message Tables.link))
    (λ k. omega (arith, k)) s.1.1.1.1.1.1.1.1.0)
    (rows_none Parts.event_row 11 13 (repeated (message Tables.link))
    (λ k. omega (arith, k)) s.1.1.1.1.1.1.1.1.1.1.0)
    refl
    ∙ append-nil _)
    ∙ rows_read link_row Parts.values 13 Tables.link
    (λ l. IsSoundMessage Tables.link l) (message_back Tables.link) link_back
    s.1.1.1.1.1.1.1.1.1.1.1.1.0 h.1.1.1.1.1.1.1.1.1.1.1.1.0 p13.0)
    (ap₂ (λ p q. both p q)
    (ap (read Parts.values uint32)
    (beside s 14 uint32 (λ k. omega (arith, k)) (λ k. omega (arith, k)) (λ k. omega (arith, k)))
    ∙ Parts.uint32_back s.1.1.1.1.1.1.1.1.1.1.1.1.1.0 h.1.1.1.1.1.1.1.1.1.1.1.1.1.0)
    (ap₂ (λ p q. both p (both q (done tt)))
    (ap (read Parts.values (message Tables.status))
    (beside s 15 (message Tables.status) (λ k. omega (arith, k)) (λ k. omega (arith, k))
    (λ k. omega (arith, k)))
    ∙ Parts.status_back s.1.1.1.1.1.1.1.1.1.1.1.1.1.1.0 h.1.1.1.1.1.1.1.1.1.1.1.1.1.1.0 a15.0)
    (ap (read Parts.values fixed32)
    (beside s 16 fixed32 (λ k. omega (arith, k)) (λ k. omega (arith, k))
    (λ k. omega (arith, k)))))))))))))))))))

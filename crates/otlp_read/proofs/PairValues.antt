-- What a value and a pair mean, by what counts of their fields.
use Rattle.std.proofs.Common.{◌≡◌, refl, sym, ap, ap₂, subst, ◌∙◌, ℕ, suc, List, [], ◌∷◌, ◌++◌}
use Rattle.std.proofs.Common.{append-nil, filter, reverse, is_some}
use Rattle.std.specs.List.{Contains}
use Rattle.model_message.specs.AnyValue.{AnyValue}
use Rattle.model_message.specs.Reading.{Reading, Reads, done}
use Rattle.model_message.specs.Wire.{Field, Payload, len, row}
use Rattle.model_message.specs.Tables
use Rattle.model_message.specs.Tables.{text, any, message, end, ◌⦂◌◂◌, ◌▸◌}
use Rattle.model_message.specs.Messages.{payloads, joined_rows, read, read_table, value, value_of}
use Rattle.model_message.specs.Messages.{utf8, last_bytes, member_of}
use Rattle.otlp_read.specs.declared.any_value.PairParts.{PairParts}
use Rattle.otlp_wire.specs.declared.fault.ReadFault.{ReadFault}
use Rattle.otlp_wire.specs.Faults.{NamesOne}
use Rattle.otlp_read.specs.Members.{members_from_last, HoldsPair}
use Rattle.otlp_wire.proofs.JoinedRows.{one-faults, one-value}
use Rattle.otlp_wire.proofs.Named.{Within, names-within, within-first, within-others}
use Rattle.otlp_wire.proofs.Named.{message-fields}
use Rattle.otlp_read.proofs.PairSteps.{value-row}

-- A reading that is done reads its value, and any value equal to that.
pub is-done : {r : Reading AnyValue} {v w : AnyValue} → r ≡ done v → w ≡ v → Reads r w
is-done e s = (ap (λ q. q.faults) e, ap (λ q. q.value) e ∙ sym s)

-- A reading reads the value that an equal reading reads.
pub is-reading : {r q : Reading AnyValue} {v w : AnyValue} → r ≡ q → Reads q v → w ≡ v → Reads r w
is-reading e h s = (ap (λ x. x.faults) e ∙ h.0, ap (λ x. x.value) e ∙ h.1 ∙ sym s)

-- ---- a value of one payload

-- A fault in the row of a value's one payload is a fault of the value.
pub row-of-value : (depth : ℕ) (content : List ℕ) (fault : ReadFault)
    → NamesOne (row content).faults fault
    → NamesOne (value (suc depth) (len content ∷ [])).faults fault
row-of-value depth content fault h =
    names-within (row content).faults (value (suc depth) (len content ∷ [])).faults
    (λ x k. value-row depth (len content ∷ []) x
    (subst (λ l. Contains l x) (sym (one-faults (len content))) k))
    fault h

-- A value whose rows have no fault is what its members make.
pub value-members : (depth : ℕ) (ps : List Payload) → (joined_rows ps).faults ≡ []
    → value (suc depth) ps ≡ value_of (value depth) (members_from_last (joined_rows ps).value)
unfolding value members_from_last
value-members depth ps e =
    ap (λ l. record {
      value =
          (value_of (value depth)
          (reverse (filter (λ f. is_some (member_of f)) (joined_rows ps).value))).value;
      faults =
          l
          ++ (value_of (value depth)
          (reverse (filter (λ f. is_some (member_of f)) (joined_rows ps).value))).faults;
    })
    e

-- A value of one payload without a fault in its row is what its members make.
pub one-value-read : (depth : ℕ) (content : List ℕ) → (row content).faults ≡ []
    → value (suc depth) (len content ∷ [])
    ≡ value_of (value depth) (members_from_last (row content).value ++ [])
one-value-read depth content e =
    value-members depth (len content ∷ []) (one-faults (len content) ∙ e)
    ∙ ap (value_of (value depth))
    (ap members_from_last (one-value (len content)) ∙ sym (append-nil _))

-- ---- a pair

module _ {A : Type 0} (depth : ℕ) (parts : PairParts A) where
  -- The value of a pair is read as what its members make, where a level is left.
  pub pair-value : (fields : List Field) → HoldsPair depth parts fields → (d : ℕ) → depth ≡ suc d
      → (v : AnyValue)
      → Reads (value_of (value d) (members_from_last (joined_rows (payloads 2 any fields)).value)) v
      → Reads (value depth (payloads 2 any fields)) v
  pair-value fields h d e v k =
      subst (λ n. Reads (value n (payloads 2 any fields)) v) (sym e)
      (subst (λ r. Reads r v) (sym (value-members d (payloads 2 any fields) h.whole)) k)

  -- The value of a pair is none where no level is left, since it then has no payload.
  pub pair-no-value : (fields : List Field) → HoldsPair depth parts fields → depth ≡ 0
      → Reads (value depth (payloads 2 any fields)) AnyValue.none
  unfolding value
  pair-no-value fields h e =
      subst (λ n. Reads (value n (payloads 2 any fields)) AnyValue.none) (sym e)
      (subst (λ ps. Reads (value 0 ps) AnyValue.none) (sym (h.room e)) (refl, refl))

  module _ (content : List ℕ) (h : HoldsPair depth parts (row content).value) where
    table-within : Within (read_table (value depth) Tables.key_value (row content).value).faults
        (read (value depth) (message Tables.key_value) (len content ∷ [])).faults
    table-within x k =
        message-fields (value depth) Tables.key_value (len content ∷ []) x
        (subst (λ l. Contains (read_table (value depth) Tables.key_value l).faults x)
        (sym (one-value (len content))) k)

    -- A fault of the key of a pair is a fault of the pair.
    pub key-fails : (fault : ReadFault) → NamesOne (utf8 parts.key.now).faults fault
        → NamesOne (read (value depth) (message Tables.key_value) (len content ∷ [])).faults fault
    unfolding read
    key-fails fault k =
        names-within (utf8 parts.key.now).faults
        (read (value depth) (message Tables.key_value) (len content ∷ [])).faults
        (λ x m. table-within x
        (within-first (value depth) 1 text (2 ⦂ any ◂ end) (row content).value x
        (subst (λ t. Contains (utf8 t).faults x) h.key m)))
        fault k

    -- A fault of what the members make of a pair's value is a fault of the pair.
    pub value-fails : (d : ℕ) → depth ≡ suc d → (fault : ReadFault)
        → NamesOne (value_of (value d)
        (members_from_last (joined_rows (payloads 2 any (row content).value)).value)).faults
        fault →
        NamesOne (read (value depth) (message Tables.key_value) (len content ∷ [])).faults fault
    unfolding read
    value-fails d e fault k =
        names-within (value depth (payloads 2 any (row content).value)).faults
        (read (value depth) (message Tables.key_value) (len content ∷ [])).faults
        (λ x m. table-within x
        (within-others (value depth) 1 text (2 ⦂ any ◂ end) (row content).value x
        (within-first (value depth) 2 any end (row content).value x m)))
        fault
        (subst (λ n. NamesOne (value n (payloads 2 any (row content).value)).faults fault) (sym e)
        (subst (λ r. NamesOne r.faults fault)
        (sym (value-members d (payloads 2 any (row content).value) h.whole)) k))

    -- A pair whose row, key and value have no fault is read as that key with that value.
    pub pair-read : (row content).faults ≡ [] → (key : List ℕ) (v : AnyValue)
        → Reads (utf8 parts.key.now) key
        → Reads (value depth (payloads 2 any (row content).value)) v →
        Reads (read (value depth) (message Tables.key_value) (len content ∷ [])) (key ▸ v ▸ tt)
    unfolding read
    pair-read good key v k m =
        let fields = (row content).value in
        let first : (utf8 (last_bytes (payloads 1 text fields))).faults ≡ [] =
        ap (λ t. (utf8 t).faults) (sym h.key) ∙ k.0 in
        let second : (value depth (payloads 2 any fields)).faults ++ ([] ++ []) ≡ [] =
        append-nil _ ∙ m.0 in
        subst (λ l. Reads (record {
          value = (read_table (value depth) Tables.key_value l).value;
          faults =
              (joined_rows (len content ∷ [])).faults
              ++ (read_table (value depth) Tables.key_value l).faults;
        })
        (key ▸ v ▸ tt))
        (sym (one-value (len content))) (
          ap₂ (λ a b. a ++ b) (one-faults (len content) ∙ good)
              (ap₂ (λ a b. a ++ b) first (append-nil _ ∙ second)),
          ap₂ (λ a b. a ▸ b ▸ tt) (sym h.key ∙ k.1) m.1,
        )

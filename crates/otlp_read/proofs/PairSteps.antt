-- The fields of a pair, one after another.
use Rattle.std.proofs.Common.{◌≡◌, refl, sym, ap, subst, ◌∙◌, ℕ, zero, suc, List, [], ◌∷◌, ◌++◌}
use Rattle.std.specs.Borrow.{Bor}
use Rattle.std.specs.List.{Contains}
use Rattle.std.proofs.lemmas.List.Elements.{Contains-push}
use Rattle.model_message.specs.Reading.{Fault, too_deep}
use Rattle.model_message.specs.Wire.{Field, Payload, len, row}
use Rattle.model_message.specs.Tables
use Rattle.model_message.specs.Tables.{end, ◌⦂◌◂◌, text, any}
use Rattle.model_message.specs.Messages.{PayloadReading, payloads, joined_rows, last_bytes, read}
use Rattle.model_message.specs.Messages.{read_table, value}
use Rattle.model_message.specs.AnyValue.{AnyValue}
use Rattle.otlp_read.specs.declared.any_value.Member.{Member}
use Rattle.otlp_read.specs.declared.any_value.Member.TheVariants.{Empty}
use Rattle.otlp_read.specs.declared.any_value.PairParts.{PairParts}
use Rattle.otlp_wire.specs.declared.fault.ReadFault.{ReadFault}
use Rattle.otlp_wire.specs.Faults.{NamesOne}
use Rattle.otlp_read.specs.Members.{members_from_last, Holds, HoldsPair}
use Rattle.otlp_wire.proofs.LastPayloads.{same-payloads, one-payload, payloads-between}
use Rattle.otlp_wire.proofs.JoinedRows.{joined-faults, joined-value, one-faults, one-value}
use Rattle.otlp_read.proofs.MemberSteps.{members-append}
use Rattle.otlp_wire.proofs.Named.{Within, names-within, within-joined, within-left, within-first}
use Rattle.otlp_wire.proofs.Named.{within-others}

-- The key is right after one more field.
abbrev KeyMore : {A : Type 0} → PairParts A → Bor (List ℕ) → Field → Type 0
KeyMore old key f =
    (fields : List Field) → old.key.now ≡ last_bytes (payloads 1 text fields)
    → key.now ≡ last_bytes (payloads 1 text (fields ++ f ∷ []))

-- A field that holds no value leaves the value of a pair as it is.
pub pair-skips : {A : Type 0} (depth : ℕ) (old : PairParts A) (key : Bor (List ℕ)) (f : Field)
    → KeyMore old key f → payloads 2 any (f ∷ []) ≡ [] →
    (fields : List Field) → HoldsPair depth old fields
    → HoldsPair depth (record { key = key; value = old.value }) (fields ++ f ∷ [])
pair-skips depth old key f more skip fields h =
    let same = sym (same-payloads 2 any fields f skip) in record {
      key = more fields h.key;
      whole = subst (λ ps. (joined_rows ps).faults ≡ []) same h.whole;
      value = subst (λ ps. Holds old.value (members_from_last (joined_rows ps).value)) same h.value;
      room = λ z. subst (λ ps. ps ≡ []) same (h.room z);
    }

-- A field that holds a value adds its members to those that count of the pair's value.
pub pair-more : {A : Type 0} (depth : ℕ) (old : PairParts A) (key : Bor (List ℕ)) (new : Member A)
    (f : Field) (content : List ℕ)
    → KeyMore old key f → payloads 2 any (f ∷ []) ≡ len content ∷ [] → (depth ≡ 0 → ⊥) →
    (row content).faults ≡ []
    → ((back : List Field) → Holds old.value back
    → Holds new (members_from_last (row content).value ++ back)) →
    (fields : List Field) → HoldsPair depth old fields
    → HoldsPair depth (record { key = key; value = new }) (fields ++ f ∷ [])
pair-more depth old key new f content more found deep good step fields h =
    let ps = payloads 2 any fields in
    let all = sym (one-payload 2 any fields f (len content) found) in record {
      key = more fields h.key;
      whole =
          subst (λ l. (joined_rows l).faults ≡ []) all
          (joined-faults ps (len content ∷ [])
          ∙ ap (λ l. l ++ (joined_rows (len content ∷ [])).faults) h.whole
          ∙ one-faults (len content) ∙ good);
      value = subst (λ l. Holds new (members_from_last (joined_rows l).value)) all
          (subst (Holds new)
          (sym (ap members_from_last
          (joined-value ps (len content ∷ [])
          ∙ ap (λ l. (joined_rows ps).value ++ l) (one-value (len content)))
          ∙ members-append (joined_rows ps).value (row content).value))
          (step (members_from_last (joined_rows ps).value) h.value));
      room = λ z. absurd (deep z);
    }

-- ---- faults of the value

-- A fault of the joined rows of a value is a fault of the value.
pub value-row : (depth : ℕ) (ps : List Payload)
    → Within (joined_rows ps).faults (value (suc depth) ps).faults
unfolding value
value-row depth ps x h = within-left (joined_rows ps).faults _ x h

-- Where no level is left, a value that has a payload is too deep.
pub is-too-deep : (before : List Payload) (p : Payload) (after : List Payload)
    → Contains (value 0 (before ++ p ∷ after)).faults too_deep
unfolding value
is-too-deep [] p after = Contains-push [] too_deep
is-too-deep (q ∷ before) p after = Contains-push [] too_deep

abbrev pub pair_faults : ℕ → List Field → List Fault
pair_faults depth fields = (read_table (value depth) Tables.key_value fields).faults

within-value : (values : PayloadReading AnyValue) (fields : List Field)
    → Within (values (payloads 2 any fields)).faults
    (read_table values Tables.key_value fields).faults
unfolding read
within-value values fields x h =
    within-others values 1 text (2 ⦂ any ◂ end) fields x (within-first values 2 any end fields x h)

-- Where no level is left, a pair with a field that holds a value is too deep.
pub pair-too-deep : (f : Field) (content : List ℕ) → payloads 2 any (f ∷ []) ≡ len content ∷ []
    → (depth : ℕ) → depth ≡ 0 → (before after : List Field)
    → Contains (pair_faults depth (before ++ f ∷ after)) too_deep
pair-too-deep f content found depth z before after =
    subst (λ d. Contains (pair_faults d (before ++ f ∷ after)) too_deep) (sym z)
    (within-value (value 0) (before ++ f ∷ after) too_deep
    (subst (λ ps. Contains (value 0 ps).faults too_deep)
    (sym (payloads-between 2 any before after f (len content) found))
    (is-too-deep (payloads 2 any before) (len content) (payloads 2 any after))))

-- A fault in the row of a pair's value is a fault of the pair.
pub pair-row-fault : (f : Field) (content : List ℕ) → payloads 2 any (f ∷ []) ≡ len content ∷ []
    → (depth : ℕ) → (depth ≡ 0 → ⊥) → (fault : ReadFault) → NamesOne (row content).faults fault →
    (before after : List Field) → NamesOne (pair_faults depth (before ++ f ∷ after)) fault
pair-row-fault f content found zero deep fault h before after = absurd (deep refl)
pair-row-fault f content found (suc depth) deep fault h before after =
    names-within (row content).faults (pair_faults (suc depth) (before ++ f ∷ after)) (λ x k.
    within-value (value (suc depth)) (before ++ f ∷ after) x
    (value-row depth (payloads 2 any (before ++ f ∷ after)) x
    (subst (λ ps. Contains (joined_rows ps).faults x)
    (sym (payloads-between 2 any before after f (len content) found))
    (within-joined (payloads 2 any before) (payloads 2 any after) content x k)))) fault h

-- ---- before the first field

-- Before its first field, a pair has an empty key and no value.
pub pair-none : {A : Type 0} (depth : ℕ) (parts : PairParts A) → parts.key.now ≡ []
    → parts.value ≡ Empty → HoldsPair depth parts []
unfolding payloads joined_rows members_from_last
pair-none depth parts k e =
    record { key = k; whole = refl; value = subst (λ m. Holds m []) (sym e) refl; room = λ _. refl }

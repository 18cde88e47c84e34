-- The fields of a message, gathered one after another.
use Rattle.std.proofs.Common.{◌≡◌, ◌≢◌, ◌+◌, arith, length, refl, sym, ap, subst, ◌∙◌, ℕ, List, []}
use Rattle.std.proofs.Common.{◌∷◌, ◌++◌, append_assoc, append-nil, inl, inr}
use Rattle.std.specs.List.{Contains}
use Rattle.std.proofs.lemmas.List.{length-append}
use Rattle.std.proofs.lemmas.List.Elements.{Contains-append_cases}
use Rattle.model_message.specs.AnyValue.{AnyValue}
use Rattle.model_message.specs.Reading.{Reading, Fault, Reads, each}
use Rattle.model_message.specs.Wire.{Field, Payload, put, len, row, row_after}
use Rattle.model_message.specs.Tables.{Shape, message, repeated, Table, ValueOf}
use Rattle.model_message.specs.Messages.{PayloadReading, payloads, joined_rows, read, read_table}
use Rattle.otlp_wire.specs.declared.fault.ReadFault.{ReadFault}
use Rattle.otlp_wire.specs.Faults.{NamesOne}
use Rattle.otlp_wire.specs.Gathering.{Gathered, IsKept, IsGathered, GathersRow, part_faults}
use Rattle.otlp_wire.proofs.JoinedRows.{joined-faults, joined-value, one-faults, one-value}
use Rattle.otlp_wire.proofs.LastPayloads.{same-payloads, one-payload, payloads-between}
use Rattle.otlp_wire.proofs.FieldsRead.{FieldsRead, read-fault, read-split}
use Rattle.otlp_wire.proofs.Named.{Within, names-within, within-left, within-right, within-joined}
use Rattle.otlp_wire.proofs.Named.{message-row, message-fields}

-- After any fields of which the old value was gathered, the new value is gathered of those and
-- these fields.
abbrev pub After : {X : Type 0} → (X → List Field → Type 0) → X → X → List Field → Type 0
After Q old new fields = (others : List Field) → Q old others → Q new (others ++ fields)

-- After no field, what was gathered is as before.
pub later-none : {X : Type 0} (Q : X → List Field → Type 0) (x : X) → After Q x x []
later-none Q x others h = subst (Q x) (sym (append-nil others)) h

-- One field more adds to what was gathered after other fields.
pub after-more : {X : Type 0} (Q : X → List Field → Type 0) (old mid new : X) (f : Field)
    → ((fields : List Field) → Q mid fields → Q new (fields ++ f ∷ [])) → (fields : List Field)
    → After Q old mid fields → After Q old new (fields ++ f ∷ [])
after-more Q old mid new f step fields h others k =
    subst (Q new) (append_assoc others fields (f ∷ [])) (step (others ++ fields) (h others k))

-- ---- faults

-- A fault in the place of a field is a fault of the part, whatever fields surround the part.
pub row-fails : (values : PayloadReading AnyValue) (t : Table) (P : List Field → Type 0)
    (content : List ℕ) (left : Reading (List Field)) (x : Fault)
    → FieldsRead P (row content) left → left ≡ record { value = []; faults = x ∷ [] } →
    (before after : List Field) → Contains (part_faults values t before content after) x
row-fails values t P content left x h e before after =
    within-left (row content).faults
    (read_table values t (before ++ (row content).value ++ after)).faults x
    (read-fault P (row content) left x h e)

regroup : (before a : List Field) (f : Field) (b after : List Field)
    → before ++ (a ++ f ∷ b) ++ after ≡ (before ++ a) ++ f ∷ (b ++ after)
regroup before a f b after =
    append_assoc before (a ++ f ∷ b) after ∙ ap (λ l. before ++ l) (append_assoc a (f ∷ b) after)
    ∙ sym (append_assoc before a (f ∷ (b ++ after)))

-- A fault of one field of a part is a fault of the part, whatever fields surround the part.
pub field-fails : (values : PayloadReading AnyValue) (t : Table) (P : List Field → Type 0)
    (content : List ℕ) (left new : Reading (List Field)) (f : Field)
    → FieldsRead P (row content) left → left ≡ put f new → (fault : ReadFault) →
    ((before after : List Field)
    → NamesOne (read_table values t (before ++ f ∷ after)).faults fault)
    → (before after : List Field) → NamesOne (part_faults values t before content after) fault
field-fails values t P content left new f h e fault bad before after =
    names-within (read_table values t (before ++ (row content).value ++ after)).faults
    (part_faults values t before content after) (within-right (row content).faults _) fault
    (subst (λ l. NamesOne (read_table values t l).faults fault)
    (sym (ap (λ l. before ++ l ++ after) (read-split P (row content) left new f h e)
    ∙ regroup before h.fields f new.value after))
    (bad (before ++ h.fields) (new.value ++ after)))

-- Bytes of which a field was read are not empty.
pub has-bytes : (P : List Field → Type 0) (content : List ℕ) (left new : Reading (List Field))
    (f : Field)
    → FieldsRead P (row content) left → left ≡ put f new → content ≢ []
unfolding row row_after
has-bytes P content left new f h e none =
    let whole : (row content).value ≡ h.fields ++ f ∷ new.value =
    read-split P (row content) left new f h e in
    let empty : (row content).value ≡ [] = ap (λ bs. (row bs).value) none in
    let size : length (h.fields ++ f ∷ new.value) ≡ length h.fields + length (f ∷ new.value) =
    length-append h.fields (f ∷ new.value) in
    absurd (omega (arith, ap length empty, ap length whole, size))

-- ---- a part of a message

joined-between : (before after : List Payload) (content : List ℕ)
    → (joined_rows (before ++ len content ∷ after)).value
    ≡ (joined_rows before).value ++ (row content).value ++ (joined_rows after).value
joined-between before after content =
    joined-value before (len content ∷ after)
    ∙ ap (λ l. (joined_rows before).value ++ l)
    (joined-value (len content ∷ []) after
    ∙ ap (λ l. l ++ (joined_rows after).value) (one-value (len content)))
    ∙ sym (append_assoc (joined_rows before).value (row content).value (joined_rows after).value)

within-both : (a b c : List Fault) → Within a c → Within b c → Within (a ++ b) c
within-both a b c l r x h = elim (Contains-append_cases a b x h) [ inl k ↦ l x k | inr k ↦ r x k ]

-- A fault of one part of a message, among the other parts, is a fault of the message.
pub part-names : (values : PayloadReading AnyValue) (t : Table) (before after : List Payload)
    (content : List ℕ) (fault : ReadFault) →
    NamesOne
    (part_faults values t (joined_rows before).value content (joined_rows after).value) fault
    → NamesOne (read values (message t) (before ++ len content ∷ after)).faults fault
part-names values t before after content fault h =
    let ps = before ++ len content ∷ after in
    let whole = (read values (message t) ps).faults in
    names-within
    (part_faults values t (joined_rows before).value content (joined_rows after).value) whole
    (within-both (row content).faults
    (read_table values t
    ((joined_rows before).value ++ (row content).value ++ (joined_rows after).value)).faults
    whole
    (λ x k. message-row values t ps x (within-joined before after content x k))
    (λ x k. message-fields values t ps x
    (subst (λ l. Contains (read_table values t l).faults x)
    (sym (joined-between before after content)) k)))
    fault h

-- What is kept of a message field takes in the fields of one more part without a fault.
pub kept-part : (values : PayloadReading AnyValue) (t : Table) (x y : Gathered t) (content : List ℕ)
    → GathersRow values t x y content → (row content).faults ≡ [] →
    (ps : List Payload) → IsKept values (message t) x ps
    → IsKept values (message t) y (ps ++ len content ∷ [])
kept-part values t x y content step good ps h = (
  joined-faults ps (len content ∷ []) ∙ ap (λ l. l ++ (joined_rows (len content ∷ [])).faults) h.0
      ∙ one-faults (len content) ∙ good,
  subst (IsGathered values t y)
      (sym (joined-value ps (len content ∷ [])
      ∙ ap (λ l. (joined_rows ps).value ++ l) (one-value (len content))))
      (step (joined_rows ps).value h.1),
)

-- ---- a repeated field

module _ {A B : Type 0} (r : A → Reading B) where
  -- The values read of two lists, one after the other, are those of the first and then those of the
  -- second.
  pub each-value : (a b : List A) → (each r (a ++ b)).value ≡ (each r a).value ++ (each r b).value
  each-value [] b = refl
  each-value (x ∷ a) b = ap (λ l. (r x).value ∷ l) (each-value a b)

  -- The faults of two lists, one after the other, are those of the first and then those of the
  -- second.
  pub each-faults : (a b : List A)
      → (each r (a ++ b)).faults ≡ (each r a).faults ++ (each r b).faults
  each-faults [] b = refl
  each-faults (x ∷ a) b =
      ap (λ l. (r x).faults ++ l) (append-nil (each r (a ++ b)).faults ∙ each-faults a b)
      ∙ sym (append_assoc (r x).faults (each r a).faults (each r b).faults)
      ∙ ap (λ l. ((r x).faults ++ l) ++ (each r b).faults) (sym (append-nil (each r a).faults))

  -- The faults of a list of one item are those of the item.
  pub each-one : (x : A) → (each r (x ∷ [])).faults ≡ (r x).faults
  each-one x = append-nil (r x).faults

  -- A fault of an item is a fault of the list that contains the item.
  pub each-between : (before : List A) (x : A) (after : List A)
      → Within (r x).faults (each r (before ++ x ∷ after)).faults
  each-between before x after y h =
      subst (λ l. Contains l y) (sym (each-faults before (x ∷ after)))
      (within-right (each r before).faults (each r (x ∷ after)).faults y
      (subst (λ l. Contains l y) (sym (each-faults (x ∷ []) after))
      (within-left (each r (x ∷ [])).faults (each r after).faults y
      (subst (λ l. Contains l y) (sym (each-one x)) h))))

module _ (values : PayloadReading AnyValue) (n : ℕ) (s : Shape) where
  -- A field that is not this one of the table adds no value to a repeated field.
  pub repeated-skips : (xs : List (ValueOf s)) (fields : List Field) (f : Field)
      → payloads n (repeated s) (f ∷ []) ≡ []
      → IsKept values (repeated s) xs (payloads n (repeated s) fields)
      → IsKept values (repeated s) xs (payloads n (repeated s) (fields ++ f ∷ []))
  repeated-skips xs fields f e h =
      subst (λ ps. IsKept values (repeated s) xs ps)
      (sym (same-payloads n (repeated s) fields f e)) h

  -- A payload that is read without a fault adds its value to a repeated field.
  pub repeated-more : (xs : List (ValueOf s)) (x : ValueOf s) (fields : List Field) (f : Field)
      (p : Payload)
      → payloads n (repeated s) (f ∷ []) ≡ p ∷ [] → Reads (read values s (p ∷ [])) x →
      IsKept values (repeated s) xs (payloads n (repeated s) fields)
      → IsKept values (repeated s) (xs ++ x ∷ []) (payloads n (repeated s) (fields ++ f ∷ []))
  unfolding read
  repeated-more xs x fields f p e k h =
      let r = λ (q : Payload). read values s (q ∷ []) in
      let ps = payloads n (repeated s) fields in
      subst (λ l. IsKept values (repeated s) (xs ++ x ∷ []) l)
      (sym (one-payload n (repeated s) fields f p e)) (
        each-faults r ps (p ∷ []) ∙ ap (λ l. l ++ (each r (p ∷ [])).faults) h.0 ∙ each-one r p
            ∙ k.0,
        each-value r ps (p ∷ []) ∙ ap (λ l. l ++ (each r (p ∷ [])).value) h.1
            ∙ ap (λ y. xs ++ y ∷ []) k.1,
      )

  -- A fault of one payload is a fault of the repeated field.
  pub repeated-fails : (before after : List Field) (f : Field) (p : Payload)
      → payloads n (repeated s) (f ∷ []) ≡ p ∷ [] →
      Within (read values s (p ∷ [])).faults
      (read values (repeated s) (payloads n (repeated s) (before ++ f ∷ after))).faults
  unfolding read
  repeated-fails before after f p e x h =
      subst (λ l. Contains (read values (repeated s) l).faults x)
      (sym (payloads-between n (repeated s) before after f p e))
      (each-between (λ q. read values s (q ∷ [])) (payloads n (repeated s) before) p
      (payloads n (repeated s) after) x h)

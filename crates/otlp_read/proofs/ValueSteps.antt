-- What a value means, by the member that counts; and arrays and lists of pairs, part by part.
use Rattle.std.proofs.Common.{◌≡◌, refl, sym, ap, subst, ◌∙◌, ℕ, suc, ◌<◌, ◌+◌, ◌==◌, List, [], ◌∷◌}
use Rattle.std.proofs.Common.{◌++◌, take, drop, get_or, true, not, Some, None, unwrap_or}
use Rattle.std.proofs.Common.{append-nil, length, drop-cons}
use Rattle.std.specs.Borrow.{Bor}
use Rattle.std.specs.Int.{cast_signed, w64}
use Rattle.std.specs.List.{last_or}
use Rattle.std.proofs.lemmas.List.{map-append, take_more, take-append-drop}
use Rattle.model_message.specs.AnyValue.{AnyValue, as_values, as_pairs}
use Rattle.model_message.specs.Reading.{Reading, Reads, ◌>>=◌, done}
use Rattle.model_message.specs.Wire.{Field, Payload, varint, i64, len, put, row}
use Rattle.model_message.specs.Tables.{Shape, any, message, repeated, Table, end, ◌⦂◌◂◌, ◌▸◌}
use Rattle.model_message.specs.Tables.{ValueOf, array_value, key_value_list}
use Rattle.model_message.specs.Messages.{PayloadReading, payloads, joined_rows, read, read_table}
use Rattle.model_message.specs.Messages.{value_of, last_run, last_bytes, last_number, number_in}
use Rattle.model_message.specs.Messages.{bytes_in, utf8}
use Rattle.otlp_wire.specs.declared.fault.ReadFault.{ReadFault}
use Rattle.otlp_wire.specs.Faults.{NamesOne}
use Rattle.otlp_wire.specs.Gathering.{IsKept, IsGathered, Gathered, GathersRow, part_faults}
use Rattle.otlp_read.specs.Members.{Begins, Runs, parts_view}
use Rattle.otlp_wire.proofs.LastPayloads.{last_or-push}
use Rattle.otlp_read.proofs.MemberSteps.{longer-run}
use Rattle.otlp_wire.proofs.Named.{names-within, within-first}
use Rattle.otlp_wire.proofs.FieldsRead.{FieldsRead}
use Rattle.otlp_wire.proofs.GatherSteps.{repeated-skips, repeated-more, repeated-fails, part-names}
use Rattle.otlp_wire.proofs.GatherSteps.{After, field-fails, kept-part}
use Rattle.otlp_read.proofs.TableSteps.{row-more}

-- ---- the member that counts

last-of-run : (n : ℕ) (p : Payload) (others : List Field) → (n == n) ≡ true
    → last_or None (last_run n (record { number = n; payload = p } ∷ others)) ≡ Some p
last-of-run n p others e =
    ap (last_or None) (longer-run n p others e) ∙ last_or-push None (last_run n others) p

run-bytes : (n : ℕ) (b : List ℕ) (others : List Field) → (n == n) ≡ true
    → last_bytes (last_run n (record { number = n; payload = len b } ∷ others)) ≡ b
run-bytes n b others e = ap (λ o. bytes_in (unwrap_or o (len []))) (last-of-run n (len b) others e)

run-varint : (n v : ℕ) (others : List Field) → (n == n) ≡ true
    → last_number (last_run n (record { number = n; payload = varint v } ∷ others)) ≡ v
run-varint n v others e =
    ap (λ o. number_in (unwrap_or o (varint 0))) (last-of-run n (varint v) others e)

run-fixed64 : (n v : ℕ) (others : List Field) → (n == n) ≡ true
    → last_number (last_run n (record { number = n; payload = i64 v } ∷ others)) ≡ v
run-fixed64 n v others e =
    ap (λ o. number_in (unwrap_or o (varint 0))) (last-of-run n (i64 v) others e)

module _ (deeper : PayloadReading AnyValue) (back : List Field) where
  -- A value whose last member is a text is that text, if it is UTF-8.
  pub member-text : (t : List ℕ) → Begins 1 (len t) back
      → value_of deeper back ≡ (utf8 t >>= λ x. done (AnyValue.text x))
  unfolding read
  member-text t b =
      ap (value_of deeper) b.whole
      ∙ ap (λ x. utf8 x >>= λ y. done (AnyValue.text y)) (run-bytes 1 t b.others refl)

  -- A value whose last member is in field 2 is whether that varint isn't 0.
  pub member-bool : (v : ℕ) → Begins 2 (varint v) back
      → value_of deeper back ≡ done (AnyValue.bool (not (v == 0)))
  unfolding read
  member-bool v b =
      ap (value_of deeper) b.whole
      ∙ ap (λ x. done (AnyValue.bool (not (x == 0)))) (run-varint 2 v b.others refl)

  -- A value whose last member is in field 3 is that varint as a signed number of 64 bits.
  pub member-int : (v : ℕ) → Begins 3 (varint v) back
      → value_of deeper back ≡ done (AnyValue.int (cast_signed w64 v))
  unfolding read
  member-int v b =
      ap (value_of deeper) b.whole
      ∙ ap (λ x. done (AnyValue.int (cast_signed w64 x))) (run-varint 3 v b.others refl)

  -- A value whose last member is in field 4 is a double of those 64 bits.
  pub member-double : (v : ℕ) → Begins 4 (i64 v) back
      → value_of deeper back ≡ done (AnyValue.double v)
  unfolding read
  member-double v b =
      ap (value_of deeper) b.whole
      ∙ ap (λ x. done (AnyValue.double x)) (run-fixed64 4 v b.others refl)

  -- A value whose last member is in field 7 is those bytes.
  pub member-bytes : (v : List ℕ) → Begins 7 (len v) back
      → value_of deeper back ≡ done (AnyValue.bytes v)
  unfolding read
  member-bytes v b =
      ap (value_of deeper) b.whole ∙ ap (λ x. done (AnyValue.bytes x)) (run-bytes 7 v b.others refl)

  -- A value whose last member is in field 5 is the array of the last unbroken run.
  pub member-array : (ps : List Payload) → Runs 5 ps back
      → value_of deeper back
      ≡ (read deeper (message array_value) ps >>= λ x. done (AnyValue.array (as_values x.0)))
  member-array ps r =
      ap (value_of deeper) r.whole
      ∙ ap
      (λ qs. read deeper (message array_value) qs >>= λ x. done (AnyValue.array (as_values x.0)))
      (ap (last_run 5) (sym r.whole) ∙ sym r.run)

  -- A value whose last member is in field 6 is the list of pairs of the last unbroken run.
  pub member-pairs : (ps : List Payload) → Runs 6 ps back
      → value_of deeper back
      ≡ (read deeper (message key_value_list) ps >>= λ x. done (AnyValue.pairs (as_pairs x.0)))
  member-pairs ps r =
      ap (value_of deeper) r.whole
      ∙ ap
      (λ qs. read deeper (message key_value_list) qs >>= λ x. done (AnyValue.pairs (as_pairs x.0)))
      (ap (last_run 6) (sym r.whole) ∙ sym r.run)

-- What is read without a fault is read as its image where a function is applied to it.
pub reads-on : {A B : Type 0} (r : Reading A) (f : A → B) (x : A) → Reads r x
    → Reads (r >>= λ y. done (f y)) (f x)
reads-on r f x h = (append-nil r.faults ∙ h.0, ap f h.1)

-- A fault of what is read is a fault where a function is applied to it.
pub names-on : {A B : Type 0} (r : Reading A) (f : A → B) (fault : ReadFault)
    → NamesOne r.faults fault → NamesOne (r >>= λ y. done (f y)).faults fault
names-on r f fault h = subst (λ l. NamesOne l fault) (sym (append-nil r.faults)) h

-- ---- the one repeated field of a message

abbrev pub List_of : Shape → Table
List_of s = 1 ⦂ repeated s ◂ end

-- The payloads of a value mean what the reading of values says.
pub any-reads : (values : PayloadReading AnyValue) (ps : List Payload)
    → read values any ps ≡ values ps
unfolding read
any-reads values ps = refl

module _ (values : PayloadReading AnyValue) (s : Shape) where
  -- A field that is not the repeated one leaves the list as it is.
  list-skips : (xs : List (ValueOf s)) (f : Field) → payloads 1 (repeated s) (f ∷ []) ≡ []
      → (fields : List Field) → IsGathered values (List_of s) (xs ▸ tt) fields
      → IsGathered values (List_of s) (xs ▸ tt) (fields ++ f ∷ [])
  list-skips xs f e fields h = (repeated-skips values 1 s xs fields f e h.0, tt)

  -- A payload of the repeated field that is read without a fault adds its value to the list.
  list-more : (xs ys : List (ValueOf s)) (x : ValueOf s) (f : Field) (p : Payload)
      → payloads 1 (repeated s) (f ∷ []) ≡ p ∷ [] → Reads (read values s (p ∷ [])) x
      → ys ≡ xs ++ x ∷ [] →
      (fields : List Field) → IsGathered values (List_of s) (xs ▸ tt) fields
      → IsGathered values (List_of s) (ys ▸ tt) (fields ++ f ∷ [])
  list-more xs ys x f p e k same fields h =
      subst (λ l. IsGathered values (List_of s) (l ▸ tt) (fields ++ f ∷ [])) (sym same)
      (repeated-more values 1 s xs x fields f p e k h.0, tt)

  -- A fault of one payload of the repeated field is a fault of the message.
  list-fails : (f : Field) (p : Payload) → payloads 1 (repeated s) (f ∷ []) ≡ p ∷ []
      → (fault : ReadFault) → NamesOne (read values s (p ∷ [])).faults fault →
      (before after : List Field)
      → NamesOne (read_table values (List_of s) (before ++ f ∷ after)).faults fault
  list-fails f p e fault h before after =
      names-within (read values s (p ∷ [])).faults
      (read_table values (List_of s) (before ++ f ∷ after)).faults
      (λ x k. within-first values 1 (repeated s) end (before ++ f ∷ after) x
      (repeated-fails values 1 s before after f p e x k))
      fault h

  -- Before the first payload, the list is empty.
  pub list-none : (xs : List (ValueOf s)) → xs ≡ []
      → IsKept values (message (List_of s)) (xs ▸ tt) []
  unfolding read joined_rows payloads
  list-none xs e =
      subst (λ l. IsKept values (message (List_of s)) (l ▸ tt) []) (sym e)
      (refl, ((refl, refl), tt))

  -- A list that was gathered of some payloads is what these payloads mean.
  pub list-read : (xs : List (ValueOf s)) (ps : List Payload)
      → IsKept values (message (List_of s)) (xs ▸ tt) ps
      → Reads (read values (message (List_of s)) ps) (xs ▸ tt)
  unfolding read
  list-read xs ps h =
      let r = read values (repeated s) (payloads 1 (repeated s) (joined_rows ps).value) in
      let none : r.faults ++ ([] ++ []) ≡ [] = append-nil r.faults ∙ h.1.0.0 in
      (ap (λ l. l ++ (r.faults ++ ([] ++ []))) h.0 ∙ none, ap (λ l. l ▸ tt) h.1.0.1)

  -- The values of a list were read of some fields of a part, after those gathered before the part.
  abbrev pub ListRead : (old xs : List (ValueOf s)) → List ℕ → Reading (List Field) → Type 0
  ListRead old xs content left =
      FieldsRead (After (IsGathered values (List_of s)) (old ▸ tt) (xs ▸ tt)) (row content) left

  -- A field that is not the repeated one leaves the values that were read as they are.
  pub read-skips : (old xs : List (ValueOf s)) (content : List ℕ) (left new : Reading (List Field))
      (f : Field)
      → ListRead old xs content left → left ≡ put f new → payloads 1 (repeated s) (f ∷ []) ≡ []
      → ListRead old xs content new
  read-skips old xs content left new f h next e =
      row-more (IsGathered values (List_of s)) (old ▸ tt) (xs ▸ tt) (xs ▸ tt) (row content) left new
      f h next (list-skips xs f e)

  -- A payload of the repeated field adds its value to those that were read.
  pub read-adds : (old xs ys : List (ValueOf s)) (x : ValueOf s) (content : List ℕ)
      (left new : Reading (List Field)) (f : Field) (p : Payload)
      → ListRead old xs content left → left ≡ put f new
      → payloads 1 (repeated s) (f ∷ []) ≡ p ∷ [] → Reads (read values s (p ∷ [])) x
      → ys ≡ xs ++ x ∷ [] → ListRead old ys content new
  read-adds old xs ys x content left new f p h next e k same =
      row-more (IsGathered values (List_of s)) (old ▸ tt) (xs ▸ tt) (ys ▸ tt) (row content) left new
      f h next (list-more xs ys x f p e k same)

  -- A fault of one payload of the repeated field is a fault of the part.
  pub read-fails : (old xs : List (ValueOf s)) (content : List ℕ)
      (left new : Reading (List Field)) (f : Field) (p : Payload)
      → ListRead old xs content left → left ≡ put f new
      → payloads 1 (repeated s) (f ∷ []) ≡ p ∷ [] → (fault : ReadFault)
      → NamesOne (read values s (p ∷ [])).faults fault →
      (before after : List Field)
      → NamesOne (part_faults values (List_of s) before content after) fault
  read-fails old xs content left new f p h next e fault k =
      field-fails values (List_of s) _ content left new f h next fault (list-fails f p e fault k)

-- ---- the parts of a message

parts-through : (parts : List (Bor (List ℕ))) (i : ℕ) (d : Bor (List ℕ)) → i < length parts
    → parts_view (take (i + 1) parts) ≡ parts_view (take i parts) ++ len (get_or parts i d).now ∷ []
parts-through parts i d l =
    ap parts_view (take_more parts i d l)
    ∙ map-append (λ b. len b.now) (take i parts) (get_or parts i d ∷ [])

parts-split : (parts : List (Bor (List ℕ))) (i : ℕ) (d : Bor (List ℕ)) → i < length parts
    → parts_view parts
    ≡ parts_view (take i parts) ++ len (get_or parts i d).now ∷ parts_view (drop (suc i) parts)
parts-split parts i d l =
    ap parts_view
    (sym (take-append-drop i parts) ∙ ap (λ b. take i parts ++ b) (drop-cons parts i d l))
    ∙ map-append (λ b. len b.now) (take i parts) (get_or parts i d ∷ drop (suc i) parts)

-- What is kept of the parts before an index takes in the fields of the part there.
pub part-added : (values : PayloadReading AnyValue) (t : Table) (parts : List (Bor (List ℕ)))
    (i : ℕ) (d : Bor (List ℕ)) → i < length parts → (x y : Gathered t)
    → GathersRow values t x y (get_or parts i d).now → (row (get_or parts i d).now).faults ≡ []
    → IsKept values (message t) x (parts_view (take i parts))
    → IsKept values (message t) y (parts_view (take (i + 1) parts))
part-added values t parts i d l x y step good h =
    subst (IsKept values (message t) y) (sym (parts-through parts i d l))
    (kept-part values t x y (get_or parts i d).now step good (parts_view (take i parts)) h)

-- A fault of one part of a message is a fault of the message.
pub part-fails : (values : PayloadReading AnyValue) (t : Table) (parts : List (Bor (List ℕ)))
    (i : ℕ) (d : Bor (List ℕ))
    → i < length parts → (fault : ReadFault) →
    ((before after : List Field)
    → NamesOne (part_faults values t before (get_or parts i d).now after) fault)
    → NamesOne (read values (message t) (parts_view parts)).faults fault
part-fails values t parts i d l fault h =
    subst (λ ps. NamesOne (read values (message t) ps).faults fault) (sym (parts-split parts i d l))
    (part-names values t (parts_view (take i parts)) (parts_view (drop (suc i) parts))
    (get_or parts i d).now fault (h _ _))

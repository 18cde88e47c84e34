-- The fields of a response, one after another.
use Rattle.std.proofs.Common.{◌≡◌, refl, sym, ap, subst, ◌∙◌, ℕ, List, [], ◌∷◌, ◌++◌, append_assoc}
use Rattle.std.proofs.Common.{append-nil}
use Rattle.std.specs.List.{Contains}
use Rattle.std.proofs.lemmas.List.Elements.{Contains-append_left, Contains-append_right}
use Rattle.model_message.specs.Reading.{Reading, Fault}
use Rattle.model_message.specs.Wire.{Field, put, len, row}
use Rattle.model_message.specs.Tables
use Rattle.model_message.specs.Tables.{message}
use Rattle.model_message.specs.Messages.{payloads, joined_rows}
use Rattle.otlp_wire.specs.Response.{Counts, partial_row}
use Rattle.otlp_wire.specs.declared.response.PartialFields.{PartialFields}
use Rattle.otlp_wire.proofs.FieldsRead.{WereRead, were-read-more}
use Rattle.otlp_wire.proofs.OnePayload.{payloads-append}
use Rattle.otlp_wire.proofs.JoinedRows.{joined-none, joined-faults, joined-value, one-faults}
use Rattle.otlp_wire.proofs.JoinedRows.{one-value}

-- Some fields of a partial success were read after others.
pub record PartRead (old counted : PartialFields) (whole left : Reading (List Field)) : Type 0 where
  pub fields : List Field
  pub were_read : WereRead whole left fields
  pub counts : (others : List Field) → Counts old others → Counts counted (others ++ fields)

-- One field more of a partial success is read after the others.
pub part-more : (old counted next : PartialFields) (whole left new : Reading (List Field))
    (f : Field)
    → PartRead old counted whole left → left ≡ put f new →
    ((fields : List Field) → Counts counted fields → Counts next (fields ++ f ∷ []))
    → PartRead old next whole new
part-more old counted next whole left new f h e step = record {
  fields = h.fields ++ f ∷ [];
  were_read = were-read-more whole left new h.fields f h.were_read e;
  counts =
      λ others k. subst (Counts next) (append_assoc others h.fields (f ∷ []))
      (step (others ++ h.fields) (h.counts others k));
}

-- Some fields of a response were read, without a fault in its partial successes.
pub record ResponseRead (counted : PartialFields) (whole left : Reading (List Field)) : Type 0 where
  pub fields : List Field
  pub were_read : WereRead whole left fields
  pub no_fault : (partial_row fields).faults ≡ []
  pub counts : Counts counted (partial_row fields).value

partial-none : (partial_row []) ≡ (joined_rows [])
unfolding payloads
partial-none = refl

no-fields : (counted : PartialFields) → counted.rejected_spans ≡ 0 → counted.error_message.now ≡ []
    → Counts counted []
unfolding payloads
no-fields counted e1 e2 = record { rejected_spans = e1; error_message = e2 }

-- Before the first field of a response, the number that counts is 0 and the text is empty.
pub response-none : (counted : PartialFields) (whole left : Reading (List Field))
    → counted.rejected_spans ≡ 0 → counted.error_message.now ≡ [] → whole ≡ left
    → ResponseRead counted whole left
response-none counted whole left e1 e2 e = record {
  fields = [];
  were_read = record { value = ap (λ r. r.value) e; faults = ap (λ r. r.faults) e };
  no_fault = ap (λ r. r.faults) (partial-none ∙ joined-none);
  counts =
      subst (Counts counted) (sym (ap (λ r. r.value) (partial-none ∙ joined-none)))
      (no-fields counted e1 e2);
}

-- A field that is no partial success changes nothing that counts.
pub response-skips : (counted : PartialFields) (whole left new : Reading (List Field)) (f : Field)
    → ResponseRead counted whole left → left ≡ put f new →
    payloads 1 (message Tables.partial_success) (f ∷ []) ≡ [] → ResponseRead counted whole new
response-skips counted whole left new f h e skip =
    let same =
    payloads-append 1 (message Tables.partial_success) h.fields (f ∷ [])
    ∙ ap (λ l. payloads 1 (message Tables.partial_success) h.fields ++ l) skip ∙ append-nil _ in
    record {
      fields = h.fields ++ f ∷ [];
      were_read = were-read-more whole left new h.fields f h.were_read e;
      no_fault = ap (λ ps. (joined_rows ps).faults) same ∙ h.no_fault;
      counts = subst (Counts counted) (sym (ap (λ ps. (joined_rows ps).value) same)) h.counts;
    }

-- The fields of one more partial success without a fault are added to those that count.
pub response-more : (counted next : PartialFields) (whole left new : Reading (List Field))
    (f : Field) (content : List ℕ)
    → ResponseRead counted whole left → left ≡ put f new →
    payloads 1 (message Tables.partial_success) (f ∷ []) ≡ len content ∷ []
    → (row content).faults ≡ [] →
    ((fields : List Field) → Counts counted fields → Counts next (fields ++ (row content).value))
    → ResponseRead next whole new
response-more counted next whole left new f content h e found good step =
    let ps = payloads 1 (message Tables.partial_success) h.fields in
    let more =
    payloads-append 1 (message Tables.partial_success) h.fields (f ∷ [])
    ∙ ap (λ l. ps ++ l) found in
    record {
      fields = h.fields ++ f ∷ [];
      were_read = were-read-more whole left new h.fields f h.were_read e;
      no_fault =
          ap (λ l. (joined_rows l).faults) more ∙ joined-faults ps (len content ∷ [])
          ∙ ap (λ l. l ++ (joined_rows (len content ∷ [])).faults) h.no_fault
          ∙ one-faults (len content) ∙ good;
      counts =
          subst (Counts next)
          (sym (ap (λ l. (joined_rows l).value) more ∙ joined-value ps (len content ∷ [])
          ∙ ap (λ l. (joined_rows ps).value ++ l) (one-value (len content))))
          (step (partial_row h.fields).value h.counts);
    }

-- A fault of one partial success is a fault of the response's rows.
pub response-fails : (counted : PartialFields) (whole left new : Reading (List Field)) (f : Field)
    (content : List ℕ) (fault : Fault)
    → ResponseRead counted whole left → left ≡ put f new →
    payloads 1 (message Tables.partial_success) (f ∷ []) ≡ len content ∷ []
    → Contains (row content).faults fault
    → Contains (whole.faults ++ (partial_row whole.value).faults) fault
response-fails counted whole left new f content fault h e found bad =
    let table = message Tables.partial_success in
    let ps = payloads 1 table h.fields in
    let rest = payloads 1 table new.value in
    let value = h.were_read.value ∙ ap (λ r. h.fields ++ r.value) e in
    let all =
    ap (payloads 1 table) value ∙ payloads-append 1 table h.fields (f ∷ new.value)
    ∙ ap (λ l. ps ++ l) (payloads-append 1 table (f ∷ []) new.value ∙ ap (λ l. l ++ rest) found) in
    let faults =
    ap (λ l. (joined_rows l).faults) all ∙ joined-faults ps (len content ∷ rest)
    ∙ ap (λ l. (joined_rows ps).faults ++ l)
    (joined-faults (len content ∷ []) rest
    ∙ ap (λ l. l ++ (joined_rows rest).faults) (one-faults (len content))) in
    Contains-append_right whole.faults (partial_row whole.value).faults fault
    (subst (λ l. Contains l fault) (sym faults)
    (Contains-append_right (joined_rows ps).faults
    ((row content).faults ++ (joined_rows rest).faults) fault
    (Contains-append_left (row content).faults (joined_rows rest).faults fault bad)))

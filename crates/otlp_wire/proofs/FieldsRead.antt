-- The fields of a row, one after another.
use Rattle.std.proofs.Common.{◌≡◌, sym, ap, subst, ◌∙◌, List, [], ◌∷◌, ◌++◌, append_assoc}
use Rattle.std.proofs.Common.{append-nil}
use Rattle.std.specs.List.{Contains}
use Rattle.std.proofs.lemmas.List.Elements.{Contains-push}
use Rattle.model_message.specs.Reading.{Reading, Fault, done}
use Rattle.model_message.specs.Wire.{Field, put}

-- Some fields of a row were read, and the others are left.
pub record WereRead (whole left : Reading (List Field)) (fields : List Field) : Type 0 where
  pub value : whole.value ≡ fields ++ left.value
  pub faults : whole.faults ≡ left.faults

-- Where some fields of a row were read and one more follows, that field is read after them.
pub were-read-more : (whole left new : Reading (List Field)) (fields : List Field) (f : Field)
    → WereRead whole left fields → left ≡ put f new → WereRead whole new (fields ++ f ∷ [])
were-read-more whole left new fields f h e = record {
  value = h.value ∙ ap (λ r. fields ++ r.value) e ∙ sym (append_assoc fields (f ∷ []) new.value);
  faults = h.faults ∙ ap (λ r. r.faults) e;
}

-- Some fields were read, and a property holds of them.
pub record FieldsRead (P : List Field → Type 0) (whole left : Reading (List Field)) : Type 0 where
  pub fields : List Field
  pub were_read : WereRead whole left fields
  pub holds : P fields

-- Before the first field is read, the fields read so far are none, and the whole row is left.
pub read-none : (P : List Field → Type 0) (whole left : Reading (List Field)) → P [] → whole ≡ left
    → FieldsRead P whole left
read-none P whole left h e = record {
  fields = [];
  were_read = record { value = ap (λ r. r.value) e; faults = ap (λ r. r.faults) e };
  holds = h;
}

-- A property of the fields read so far carries over to one field more if the step keeps it.
pub read-more : (P Q : List Field → Type 0) (whole left new : Reading (List Field)) (f : Field)
    → FieldsRead P whole left → left ≡ put f new
    → ((fields : List Field) → P fields → Q (fields ++ f ∷ [])) → FieldsRead Q whole new
read-more P Q whole left new f h e step = record {
  fields = h.fields ++ f ∷ [];
  were_read = were-read-more whole left new h.fields f h.were_read e;
  holds = step h.fields h.holds;
}

-- Where nothing is left of a row, the property holds of all its fields.
pub read-all : (P : List Field → Type 0) (whole left : Reading (List Field))
    → FieldsRead P whole left → left ≡ done [] → P whole.value
read-all P whole left h e =
    subst P
    (sym (h.were_read.value ∙ ap (λ r. h.fields ++ r.value) e ∙ append-nil h.fields)) h.holds

-- Where nothing is left of a row, the row has no fault.
pub read-whole : (P : List Field → Type 0) (whole left : Reading (List Field))
    → FieldsRead P whole left → left ≡ done [] → whole.faults ≡ []
read-whole P whole left h e = h.were_read.faults ∙ ap (λ r. r.faults) e

-- Where a fault is all that is left of a row, the row has that fault.
pub read-fault : (P : List Field → Type 0) (whole left : Reading (List Field)) (fault : Fault)
    → FieldsRead P whole left → left ≡ record { value = []; faults = fault ∷ [] }
    → Contains whole.faults fault
read-fault P whole left fault h e =
    subst (λ l. Contains l fault) (sym (h.were_read.faults ∙ ap (λ r. r.faults) e))
    (Contains-push [] fault)

-- The fields of the row are those read before, the next field, and those left after it.
pub read-split : (P : List Field → Type 0) (whole left new : Reading (List Field)) (f : Field)
    (h : FieldsRead P whole left)
    → left ≡ put f new → whole.value ≡ h.fields ++ f ∷ new.value
read-split P whole left new f h e = h.were_read.value ∙ ap (λ r. h.fields ++ r.value) e

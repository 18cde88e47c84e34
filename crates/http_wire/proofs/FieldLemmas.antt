-- The fields that are kept of a head.
use Rattle.std.proofs.Common.{◌≡◌, ℕ, true, false, cond, List, [], ◌∷◌, length, map, refl, sym, ap}
use Rattle.std.proofs.Common.{◌∙◌, bytes_eq, ◌++◌, ◌≢◌, ◌+◌, ◌<◌, ◌≤◌, ◌⊎◌, take, get_or, subst}
use Rattle.std.proofs.Common.{append-nil, inl, inr, arith, length-append, length-take, All}
use Rattle.std.proofs.lemmas.Bool.{cases_Bool, false≢true}
use Rattle.std.proofs.lemmas.Slice.Eq.{bytes_eq-Decides}
use Rattle.std.proofs.lemmas.List.{map-append, take_more, length-map, get_or-map}
use Rattle.std.proofs.lemmas.List.Sums.{sum_by-cons}
use Rattle.httparse.specs.Spans.{header_bytes}
use Rattle.httparse.specs.declared.spans.HeaderSpan.{HeaderSpan}
use Rattle.http_header.specs.Token.{lowercase}
use Rattle.http_header.specs.HeaderMap.{Entry, Entries, get_all, append, value_count, RefusesAppend}
use Rattle.http_header.specs.FieldValue.{FieldValue, plain_value}
use Rattle.http_header.proofs.HeaderMapLemmas.{get_all-append_same, get_all-append_other}
use Rattle.http_wire.specs.declared.fault.HttpFault.{HttpFault}
use Rattle.http_wire.specs.declared.fault.HttpFault.TheVariants as faults
use Rattle.http_wire.specs.Fields.{NameAndValue, values_of, IsTaken, KeepsFields, RefusesFields}

-- One more field adds its value to those of its name, and to no others.
values_of-push : (name : List ℕ) (fields : List NameAndValue) (field : NameAndValue)
    → values_of name (fields ++ field ∷ [])
    ≡ values_of name fields ++ (cond (bytes_eq (lowercase field.0) name) (field.1 ∷ []) [])
values_of-push name [] field =
    elim (cases_Bool (bytes_eq (lowercase field.0) name)) [ inl t ↦ rw t refl | inr f ↦ rw f refl ]
values_of-push name (f ∷ fields) field = elim (cases_Bool (bytes_eq (lowercase f.0) name)) [
  | inl t ↦ rw t (ap (λ l. f.1 ∷ l) (values_of-push name fields field))
  | inr n ↦ rw n (values_of-push name fields field)
]

-- The values under a name are right when a field is appended.
values_more : (kept more : Entries FieldValue) (fields : List NameAndValue) (field : NameAndValue)
    (name : List ℕ)
    → map (λ v. v.bytes) (get_all kept name) ≡ values_of name fields
    → more ≡ append kept (lowercase field.0) (plain_value field.1)
    → map (λ v. v.bytes) (get_all more name) ≡ values_of name (fields ++ field ∷ [])
values_more kept more fields field name keeps is =
    elim (cases_Bool (bytes_eq (lowercase field.0) name)) [
      | inl t ↦
          let same = (bytes_eq-Decides (lowercase field.0) name).0 t in
          let all : get_all more name ≡ get_all kept name ++ plain_value field.1 ∷ [] =
          subst (λ key. get_all more key ≡ get_all kept key ++ plain_value field.1 ∷ []) same
          (ap (λ m. get_all m (lowercase field.0)) is
          ∙ get_all-append_same kept (lowercase field.0) (plain_value field.1)) in
          ap (map (λ v. v.bytes)) all
          ∙ map-append (λ v. v.bytes) (get_all kept name) (plain_value field.1 ∷ [])
          ∙ ap (λ l. l ++ field.1 ∷ []) keeps
          ∙ sym (values_of-push name fields field
          ∙ ap (λ b. values_of name fields ++ cond b (field.1 ∷ []) []) t)
      | inr n ↦
          let other : lowercase field.0 ≢ name =
          λ e. false≢true (sym n ∙ (bytes_eq-Decides (lowercase field.0) name).1 e) in
          ap (map (λ v. v.bytes))
          (ap (λ m. get_all m name) is
          ∙ get_all-append_other kept (lowercase field.0) name (plain_value field.1) other)
          ∙ keeps
          ∙ sym (values_of-push name fields field
          ∙ ap (λ b. values_of name fields ++ cond b (field.1 ∷ []) []) n
          ∙ append-nil (values_of name fields))
    ]

-- The fields of one more span are those before it and the one that it covers.
pub fields_more : (text : List ℕ) (spans : List HeaderSpan) (i : ℕ) (d : HeaderSpan)
    → i < length spans
    → map (header_bytes text) (take (i + 1) spans)
    ≡ map (header_bytes text) (take i spans) ++ header_bytes text (get_or spans i d) ∷ []
fields_more text spans i d below =
    ap (map (header_bytes text)) (take_more spans i d below)
    ∙ map-append (header_bytes text) (take i spans) _

-- A field that is appended adds at most one name.
names_more : (m : Entries FieldValue) (name : List ℕ) (v : FieldValue)
    → length (append m name v) ≤ length m + 1
names_more [] name v = omega arith
names_more (e ∷ m) name v =
    let rest = names_more m name v in
    elim (bytes_eq e.0 name)
    as (λ t.
    length (cond t ((e.0, e.1 ++ v ∷ []) ∷ m) (e ∷ append m name v)) ≤ length (e ∷ m) + 1) [
      | true ↦ omega arith
      | false ↦ omega (arith, rest)
    ]

-- The number of values is that of the first name's values and that of the others.
count_cons : (e : Entry FieldValue) (m : Entries FieldValue)
    → value_count (e ∷ m) ≡ length e.1 + value_count m
count_cons e m = sum_by-cons (λ (x : Entry FieldValue). length x.1) e m

-- A field that is appended adds one value.
count_more : (m : Entries FieldValue) (name : List ℕ) (v : FieldValue)
    → value_count (append m name v) ≡ value_count m + 1
count_more [] name v = refl
count_more (e ∷ m) name v =
    let rest = count_more m name v in
    let long = length-append e.1 (v ∷ []) in
    let old = count_cons e m in
    let longer = count_cons (e.0, e.1 ++ v ∷ []) m in
    let same = count_cons e (append m name v) in
    elim (bytes_eq e.0 name)
    as (λ t. value_count (cond t ((e.0, e.1 ++ v ∷ []) ∷ m) (e ∷ append m name v))
    ≡ value_count (e ∷ m) + 1) [
      | true ↦ omega (arith, long, old, longer)
      | false ↦ omega (arith, rest, old, same)
    ]

-- A field that is appended is kept.
pub keeps_more : (kept more : Entries FieldValue) (fields : List NameAndValue)
    (field : NameAndValue)
    → KeepsFields kept fields → more ≡ append kept (lowercase field.0) (plain_value field.1)
    → KeepsFields more (fields ++ field ∷ [])
keeps_more kept more fields field keeps is =
    let long = length-append fields (field ∷ []) in
    let names = ap length is in
    let some = names_more kept (lowercase field.0) (plain_value field.1) in
    let values = ap value_count is ∙ count_more kept (lowercase field.0) (plain_value field.1) in
    record {
      values = λ name. values_more kept more fields field name (keeps.values name) is;
      names = omega (arith, long, names, some, keeps.names);
      count = omega (arith, long, values, keeps.count);
    }

-- A map of at most 64 fields refuses no field.
pub not_full : (kept : Entries FieldValue) (fields : List NameAndValue) (name : List ℕ)
    → KeepsFields kept fields → length fields ≤ 64
    → ¬ (RefusesAppend kept name)
not_full kept fields name keeps few refuses =
    let names = keeps.names in
    let count = keeps.count in
    elim refuses [
      | inl full ↦ omega (arith, full, count, few)
      | inr new ↦ elim new.1 [
        | inl full ↦ omega (arith, full, names, few)
        | inr full ↦ omega (arith, full, count, few)
      ]
    ]

-- Where all fields can be taken, so can the one at an index.
one_of : (text : List ℕ) (spans : List HeaderSpan) (i : ℕ) (d : HeaderSpan) → i < length spans
    → All IsTaken (map (header_bytes text) spans) → IsTaken (header_bytes text (get_or spans i d))
one_of text spans i d below all =
    let long = length-map spans (header_bytes text) in
    subst IsTaken (get_or-map (header_bytes text) spans i d (header_bytes text d) below)
    (all i (header_bytes text d) (omega (arith, below, long)))

-- Where one field is refused, the fields are refused for that fault.
pub field_refused : (text : List ℕ) (spans : List HeaderSpan) (i : ℕ) (d : HeaderSpan)
    (kept : Entries FieldValue)
    (name : List ℕ) (fault : HttpFault)
    → i < length spans → length spans ≤ 64
    → KeepsFields kept (map (header_bytes text) (take i spans))
    → (fault ≡ faults.BadHead
    → (¬ (IsTaken (header_bytes text (get_or spans i d)))) ⊎ RefusesAppend kept name)
    → (fault ≡ faults.BadHead) ⊎ (fault ≡ faults.OutOfMemory)
    → RefusesFields (map (header_bytes text) spans) fault
field_refused text spans i d kept name fault below few keeps bad only =
    let fields = map (header_bytes text) spans in
    let long = length-map (take i spans) (header_bytes text) in
    let front = length-take i spans in
    let fit : length (map (header_bytes text) (take i spans)) ≤ 64 =
    omega (arith, long, front, few, below) in
    elim only [
      | inl is ↦ subst (RefusesFields fields) (sym is) (λ all. elim (bad is) [
        | inl refused ↦ refused (one_of text spans i d below all)
        | inr full ↦ not_full kept _ name keeps fit full
      ])
      | inr is ↦ subst (RefusesFields fields) (sym is) tt
    ]

-- Fields of a program's own.
use Rattle.std.proofs.Common.{◌≡◌, ℕ, ◌+◌, ◌≤◌, List, [], ◌∷◌, ◌++◌, length, true, false, IsTrue}
use Rattle.std.proofs.Common.{refl, sym, subst, ap, ◌∙◌, arith, length-append, append-nil}
use Rattle.std.specs.Prelude.{Bool, not, ◌&&◌, ◌||◌, nat_lt, Option, Some, None, if◌then◌else◌}
use Rattle.std.specs.Prelude.{String, string_bytes}
use Rattle.std.specs.List.{list_any}
use Rattle.std.proofs.lemmas.Bool.{ltb-false}
use Rattle.std.proofs.lemmas.List.{map-append}
use Rattle.std.proofs.lemmas.List.Folds.{list_all-append}
use Rattle.std.proofs.lemmas.Grind.{flat_map-append}
use Rattle.otlp_http.specs.Fields.{AreFields, Field, field_line, field_lines, has_name, is_field}
use Rattle.otlp_http.specs.Fields.{is_reserved, is_same_name, is_too_long, is_value, most_bytes}
use Rattle.otlp_http.specs.Fields.{refusal}
use Rattle.httparse.specs.Grammar.{is_token}
use Rattle.otlp_http.specs.FieldsView.{fields_view}

-- Whether a stored field has a name, by its text, is whether a field has it.
pub has_stored : {A : Type 0} (name : List ℕ) (stored : List (String A × String A))
    (fields : List Field) (r : Bool) → fields ≡ fields_view stored
    → r ≡ list_any (λ f. is_same_name (string_bytes f.0) name) stored → r ≡ has_name name fields
has_stored name stored fields r are is = is ∙ sym (ap (has_name name) are ∙ viewed stored)
  where
    viewed : {A : Type 0} (stored : List (String A × String A)) → has_name name (fields_view stored)
        ≡ list_any (λ f. is_same_name (string_bytes f.0) name) stored
    viewed [] = refl
    viewed (f ∷ fs) = ap (λ b. is_same_name (string_bytes f.0) name || b) (viewed fs)

-- The line of a field has four bytes beside its name and its value.
pub length-field_line : (f : Field) → length (field_line f) ≡ length f.0 + length f.1 + 4
length-field_line f = simp length-append (omega arith)

-- Whether a field is too long goes by how long its name and its value are.
pub too_long : (fields : List Field) (lines name value : List ℕ) → lines ≡ field_lines fields
    → nat_lt most_bytes (length lines + length name + length value + 4)
    ≡ is_too_long fields (name, value)
too_long fields lines name value are =
    let line = length-field_line (name, value) in
    let before = ap length are in
    ap (nat_lt most_bytes) (omega (arith, line, before))

-- The first of some causes that doesn't hold leaves the others.
passed : {X : Type 0} (b : Bool) (x : X) (rest : Option X)
    → (if b then Some x else rest) ≡ None → (b ≡ false) × (rest ≡ None)
passed true x rest is = let no : Some x ≡ None = is in cc
passed false x rest is = (refl, is)

-- What isn't false is true.
is_not_false : (b : Bool) → not b ≡ false → b ≡ true
is_not_false true is = refl
is_not_false false is = sym is

-- Three tests of a field make one.
three : (a b c : Bool) → not a ≡ false → b ≡ false → not c ≡ false → IsTrue (a && not b && c)
three a b c a_is b_is c_is =
    rw (is_not_false a a_is) (rw b_is (rw (is_not_false c c_is) refl))

-- A field that isn't refused is one, and is short enough.
taken : (fields : List Field) (f : Field) → refusal fields f ≡ None
    → IsTrue (is_field f) × (length (field_lines fields) + length (field_line f) ≤ most_bytes)
unfolding refusal
taken fields f none =
    let token = passed (not (is_token f.0)) _ _ none in
    let free = passed (is_reserved f.0) _ _ token.1 in
    let first = passed (has_name f.0 fields) _ _ free.1 in
    let value = passed (not (is_value f.1)) _ _ first.1 in
    let short = passed (is_too_long fields f) _ _ value.1 in (
      three (is_token f.0) (is_reserved f.0) (is_value f.1) token.0 free.0 value.0,
      ltb-false _ _ short.0,
    )

-- One more field has its line after those of the others.
lines_of_more : (fields : List Field) (f : Field)
    → field_lines (fields ++ f ∷ []) ≡ field_lines fields ++ field_line f
lines_of_more fields f =
    flat_map-append field_line fields (f ∷ [])
    ∙ ap (λ l. field_lines fields ++ l) (append-nil (field_line f))

-- Fields with one more that isn't refused are such fields.
more : (fields : List Field) (f : Field) → AreFields fields → refusal fields f ≡ None
    → AreFields (fields ++ f ∷ [])
more fields f are none =
    let it = taken fields f none in
    let lines = ap length (lines_of_more fields f)
    ∙ length-append (field_lines fields) (field_line f) in
    let short = it.1 in
    record {
      valid =
          list_all-append is_field fields (f ∷ [])
          ∙ rw are.valid (rw it.0 refl);
      short = omega (arith, lines, short);
    }

-- The stored fields and lines with one more field that isn't refused are those of such fields.
pub pushed : {A : Type 0} (old new : List (String A × String A)) (name value : String A)
    (before lines n v : List ℕ) → new ≡ old ++ (name, value) ∷ [] → string_bytes name ≡ n
    → string_bytes value ≡ v → lines ≡ before ++ field_line (n, v)
    → refusal (fields_view old) (n, v) ≡ None → AreFields (fields_view old)
    → before ≡ field_lines (fields_view old)
    → AreFields (fields_view new) × (lines ≡ field_lines (fields_view new))
pushed old new name value before lines n v new_is name_is value_is lines_is none are before_is =
    let fields : List Field = fields_view old in
    let same : fields_view new ≡ fields ++ (n, v) ∷ [] =
    ap fields_view new_is ∙ map-append _ old ((name, value) ∷ [])
    ∙ ap (λ t. fields ++ (t, string_bytes value) ∷ []) name_is
    ∙ ap (λ t. fields ++ (n, t) ∷ []) value_is in (
      subst AreFields (sym same) (more fields (n, v) are none),
      lines_is ∙ ap (λ l. l ++ field_line (n, v)) before_is
          ∙ sym (lines_of_more fields (n, v)) ∙ ap field_lines (sym same),
    )

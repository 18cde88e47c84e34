-- A value is written by its one member, and an array by its values, one after the other.
use Rattle.std.proofs.Common.{◌≡◌, map, refl, sym, ap, ◌∙◌, ℕ, ℤ, zero, suc, ◌≤◌, List, [], ◌∷◌}
use Rattle.std.proofs.Common.{Bool, true, false, arith}
use Rattle.std.specs.Int.{w64, cast_unsigned}
use Rattle.std.specs.List.{AllByRecursion}
use mir.Val.{SFits, bool_byte}
use Rattle.model_message.specs.Wire.{Field, varint}
use Rattle.model_message.specs.AnyValue.{AnyValue, AnyValues, no_values, value, KeyValues, no_pairs}
use Rattle.model_message.specs.AnyValue.{pair, as_values}
use Rattle.model_message.specs.Tables.{any}
use Rattle.model_message.specs.Messages.{max_depth}
use Rattle.model_message.specs.Canon.{field_bytes, bytes_field, row_bytes, shape_fields}
use Rattle.model_message.specs.Canon.{value_fields, values_fields}
use Rattle.model_message.specs.Whole.{IsText, EachValue, EachPair, IsMember, IsValue}
use Rattle.otlp_proto.specs.Encode.{Cursor, Lays, Carries, Puts}
use Rattle.otlp_proto.proofs.Laying.{lays-as}
use Rattle.otlp_proto.proofs.Writing.{one-field}

-- ---- levels

each-value : (P Q : AnyValue → Type 0) → ((v : AnyValue) → P v → Q v) → (vs : AnyValues)
    → EachValue P vs → EachValue Q vs
each-value P Q f no_values h = tt
each-value P Q f (value v vs) h = (f v h.0, each-value P Q f vs h.1)

each-pair : (P Q : AnyValue → Type 0) → ((v : AnyValue) → P v → Q v) → (ps : KeyValues)
    → EachPair P ps → EachPair Q ps
each-pair P Q f no_pairs h = tt
each-pair P Q f (pair k v ps) h = (h.0, f v h.1, each-pair P Q f ps h.2)

each-member : (P Q : AnyValue → Type 0) → ((v : AnyValue) → P v → Q v) → (v : AnyValue)
    → IsMember P v → IsMember Q v
each-member P Q f AnyValue.none h = h
each-member P Q f (AnyValue.text t) h = h
each-member P Q f (AnyValue.bool b) h = h
each-member P Q f (AnyValue.int i) h = h
each-member P Q f (AnyValue.double d) h = h
each-member P Q f (AnyValue.array vs) h = each-value P Q f vs h
each-member P Q f (AnyValue.pairs ps) h = each-pair P Q f ps h
each-member P Q f (AnyValue.bytes bs) h = h

-- More levels are allowed than there are.
more-levels : (n m : ℕ) → n ≤ m → (v : AnyValue) → IsValue n v → IsValue m v
unfolding IsValue
more-levels zero m l v h = absurd h
more-levels (suc n) zero l v h = absurd (omega arith)
more-levels (suc n) (suc m) l v h =
    each-member (IsValue n) (IsValue m) (more-levels n m (omega arith)) v h

-- A value of at most two levels, laid as a field, puts the field of the table.
pub put-value : {n : ℕ} {v : AnyValue} {c d : Cursor}
    → Carries (field_bytes (bytes_field n (row_bytes (value_fields v)))) (IsValue 2 v) c d
    → Puts n any v c d
unfolding shape_fields
put-value {n} {v} {c} {d} w = record {
  bytes = lays-as c d (sym (one-field (bytes_field n (row_bytes (value_fields v))))) w.bytes;
  whole = more-levels 2 max_depth (omega arith) v w.whole;
}

-- ---- members

member : (levels : ℕ) (v : AnyValue) {c d : Cursor} (f : Field) → value_fields v ≡ f ∷ []
    → IsValue levels v → Lays (field_bytes f) c d
    → Carries (row_bytes (value_fields v)) (IsValue levels v) c d
member levels v {c} {d} f e w q =
    record { bytes = lays-as c d (sym (ap row_bytes e ∙ one-field f)) q; whole = w }

-- A text laid as field 1 is written as a value of one level.
pub text-member : (t : List ℕ) {c d : Cursor} → IsText t → Lays (field_bytes (bytes_field 1 t)) c d
    → Carries (row_bytes (value_fields (AnyValue.text t))) (IsValue 1 (AnyValue.text t)) c d
unfolding IsValue value_fields
text-member t w q = member 1 (AnyValue.text t) (bytes_field 1 t) refl w q

-- A truth value laid as field 2 is written as a value of one level.
pub bool-member : (b : Bool) {c d : Cursor}
    → Lays (field_bytes (record { number = 2; payload = varint (bool_byte b) })) c d
    → Carries (row_bytes (value_fields (AnyValue.bool b))) (IsValue 1 (AnyValue.bool b)) c d
unfolding IsValue value_fields
bool-member true q =
    member 1 (AnyValue.bool true) (record { number = 2; payload = varint 1 }) refl tt q
bool-member false q =
    member 1 (AnyValue.bool false) (record { number = 2; payload = varint 0 }) refl tt q

-- An integer laid as field 3 in two's complement is written as a value of one level.
pub int-member : (i : ℤ) {c d : Cursor} → SFits w64 i
    → Lays (field_bytes (record { number = 3; payload = varint (cast_unsigned w64 i) })) c d
    → Carries (row_bytes (value_fields (AnyValue.int i))) (IsValue 1 (AnyValue.int i)) c d
unfolding IsValue value_fields
int-member i w q =
    member 1 (AnyValue.int i)
    (record { number = 3; payload = varint (cast_unsigned w64 i) }) refl w q

-- A value of one level may be written where two levels are allowed.
pub one-level : (v : AnyValue) {c d : Cursor}
    → Carries (row_bytes (value_fields v)) (IsValue 1 v) c d
    → Carries (row_bytes (value_fields v)) (IsValue 2 v) c d
one-level v p = record { bytes = p.bytes; whole = more-levels 1 2 (omega arith) v p.whole }

-- ---- arrays

array-fields : (vs : List AnyValue)
    → values_fields (as_values vs) ≡ map (λ v. bytes_field 1 (row_bytes (value_fields v))) vs
unfolding values_fields
array-fields [] = refl
array-fields (v ∷ vs) =
    ap (λ fields. bytes_field 1 (row_bytes (value_fields v)) ∷ fields) (array-fields vs)

array-whole : (vs : List AnyValue) → AllByRecursion (IsValue 1) vs
    → EachValue (IsValue 1) (as_values vs)
array-whole [] h = tt
array-whole (v ∷ vs) h = (h.0, array-whole vs h.1)

-- An array laid as field 5, value by value, is written as a value of two levels.
pub array-member : (vs : List AnyValue) {c d : Cursor}
    → Carries (field_bytes
    (bytes_field 5 (row_bytes (map (λ v. bytes_field 1 (row_bytes (value_fields v))) vs))))
    (AllByRecursion (IsValue 1) vs) c d →
    Carries (row_bytes (value_fields (AnyValue.array (as_values vs))))
    (IsValue 2 (AnyValue.array (as_values vs))) c d
unfolding IsValue value_fields
array-member vs {c} {d} p =
    member 2 (AnyValue.array (as_values vs))
    (bytes_field 5 (row_bytes (values_fields (as_values vs)))) refl (array-whole vs p.whole)
    (lays-as c d
    (ap (λ fields. field_bytes (bytes_field 5 (row_bytes fields))) (sym (array-fields vs))) p.bytes)

-- To map one function after another is to map their composition.
pub map-map : {A B C : Type 0} (f : B → C) (g : A → B) (xs : List A)
    → map f (map g xs) ≡ map (λ x. f (g x)) xs
map-map f g [] = refl
map-map f g (x ∷ xs) = ap (λ ys. f (g x) ∷ ys) (map-map f g xs)

-- Bodies whose bytes are put one after the other.
use Rattle.std.proofs.Common.{◌≡◌, refl, ap, ◌∙◌, ℕ, List, [], ◌∷◌, ◌++◌, length, arith}
use Rattle.std.specs.Prelude.{map, filter, flat_map}
use Rattle.std.proofs.lemmas.List.{map-append}
use Rattle.std.proofs.lemmas.List.Elements.{filter-append}
use Rattle.std.proofs.lemmas.List.Concat.{flat_map-append}
use Rattle.model_message.specs.Reading.{Reading, Reads, each}
use Rattle.model_message.specs.Wire.{Field, Payload, row}
use Rattle.model_message.specs.Tables
use Rattle.model_message.specs.Tables.{Message, Shape, message, repeated, ◌▸◌}
use Rattle.model_message.specs.Messages.{payloads, is_field, read, value, max_depth, meaning}
use Rattle.model_message.specs.Messages.{resource_triples}
use Rattle.model_message.proofs.RowLaws.{row-spelled, row-append}
use Rattle.model_body.specs.Histories.{joined}
use Rattle.model_body.specs.Names.{IsReadable, spans_in}
use Rattle.model_body.specs.Laws.{JoinedIsRead, JoinedHasSpans}

-- ---- two lists

first-none : {A : Type 0} (xs ys : List A) → xs ++ ys ≡ [] → xs ≡ []
first-none [] ys e = refl
first-none (x ∷ xs) ys e = absurd (omega (arith, ap length e))

second-none : {A : Type 0} (xs ys : List A) → xs ++ ys ≡ [] → ys ≡ []
second-none [] ys e = e
second-none (x ∷ xs) ys e = absurd (omega (arith, ap length e))

-- The payloads of a field in two rows are those of the first and then those of the second.
payloads-append : (n : ℕ) (s : Shape) (xs ys : List Field)
    → payloads n s (xs ++ ys) ≡ payloads n s xs ++ payloads n s ys
unfolding payloads
payloads-append n s xs ys =
    ap (map (λ (f : Field). f.payload)) (filter-append (is_field n s) xs ys)
    ∙ map-append (λ (f : Field). f.payload) (filter (is_field n s) xs) (filter (is_field n s) ys)

module _ {A B : Type 0} (r : A → Reading B) where
  each-value : (a b : List A) → (each r (a ++ b)).value ≡ (each r a).value ++ (each r b).value
  each-value [] b = refl
  each-value (x ∷ a) b = ap (λ l. (r x).value ∷ l) (each-value a b)

  -- Where neither list has a fault, both together have none.
  each-whole : (a b : List A) → (each r a).faults ≡ [] → (each r b).faults ≡ []
      → (each r (a ++ b)).faults ≡ []
  each-whole [] b e f = f
  each-whole (x ∷ a) b e f =
      let first : (r x).faults ≡ [] = first-none (r x).faults _ e in
      let others : (each r a).faults ≡ [] =
      first-none (each r a).faults [] (second-none (r x).faults _ e) in
      (λ i. first i ++ (each-whole a b others f i ++ []))

-- ---- two bodies

-- the groups that a request's fields mean
abbrev groups : List Field → Reading (List (Message Tables.resource_spans))
groups fields =
    each (λ p. read (value max_depth) (message Tables.resource_spans) (p ∷ []))
    (payloads 1 (repeated (message Tables.resource_spans)) fields)

-- The body is a request of these groups.
record IsRequest (body : List ℕ) (x : Message Tables.request) : Type 0 where
  row_whole : (row body).faults ≡ []
  groups_whole : (groups (row body).value).faults ≡ []
  exact : (groups (row body).value).value ≡ x.0

parts : (body : List ℕ) (x : Message Tables.request) → Reads (meaning Tables.request body) x
    → IsRequest body x
unfolding meaning read
parts body x h = record {
  row_whole = first-none (row body).faults _ h.0;
  groups_whole =
      first-none (groups (row body).value).faults []
      (second-none (row body).faults _ h.0);
  exact = ap (λ (m : Message Tables.request). m.0) h.1;
}

whole : (body : List ℕ) (x : Message Tables.request) → IsRequest body x
    → Reads (meaning Tables.request body) x
unfolding meaning read
whole body x h = (
  (λ i. h.row_whole i ++ (h.groups_whole i ++ [])),
  ap (λ l. l ▸ tt) h.exact,
)

both : (a b : List ℕ) (x y : Message Tables.request) → IsRequest a x → IsRequest b y
    → IsRequest (a ++ b) ((x.0 ++ y.0) ▸ tt)
both a b x y h k =
    let r = λ (p : Payload). read (value max_depth) (message Tables.resource_spans) (p ∷ []) in
    let s = repeated (message Tables.resource_spans) in
    let rows = row-append a b (row a).value ((row-spelled a (row a).value).1 (h.row_whole, refl)) in
    let ps : payloads 1 s (row (a ++ b)).value
    ≡ payloads 1 s (row a).value ++ payloads 1 s (row b).value =
    ap (λ l. payloads 1 s l.value) rows ∙ payloads-append 1 s (row a).value (row b).value in
    record {
      row_whole = ap (λ l. l.faults) rows ∙ k.row_whole;
      groups_whole =
          ap (λ l. (each r l).faults) ps
          ∙ each-whole r (payloads 1 s (row a).value) (payloads 1 s (row b).value)
          h.groups_whole k.groups_whole;
      exact =
          ap (λ l. (each r l).value) ps
          ∙ each-value r (payloads 1 s (row a).value) (payloads 1 s (row b).value)
          ∙ (λ i. h.exact i ++ k.exact i);
    }

-- Two bodies that are read are read as the groups of the first and then those of the second.
pub joined_is_read : JoinedIsRead
joined_is_read a b x y h k = whole (a ++ b) _ (both a b x y (parts a x h) (parts b y k))

-- ---- any number of bodies

none-read : IsReadable []
unfolding meaning read payloads row
none-read = refl

none-spans : spans_in [] ≡ []
unfolding spans_in meaning read payloads row
none-spans = refl

spans-joined : (a b : List ℕ) → IsReadable a → IsReadable b
    → spans_in (a ++ b) ≡ spans_in a ++ spans_in b
unfolding spans_in
spans-joined a b h k =
    let x = (meaning Tables.request a).value in
    let y = (meaning Tables.request b).value in
    let both = joined_is_read a b x y (h, refl) (k, refl) in
    ap (λ (m : Message Tables.request). flat_map resource_triples m.0) both.1
    ∙ flat_map-append resource_triples x.0 y.0

-- Bodies that are read are read together, and have the spans of all, in order.
pub joined_has_spans : JoinedHasSpans
joined_has_spans [] h = (none-read, none-spans)
joined_has_spans (body ∷ bodies) h =
    let rest = joined_has_spans bodies h.1 in
    let x = (meaning Tables.request body).value in
    let y = (meaning Tables.request (joined bodies)).value in (
      (joined_is_read body (joined bodies) x y (h.0, refl) (rest.0, refl)).0,
      spans-joined body (joined bodies) h.0 rest.0 ∙ ap (λ l. spans_in body ++ l) rest.1,
    )

-- Members one after another, and repeated fields that hold messages.
use Rattle.std.proofs.Common.{◌≡◌, refl, sym, ap, ap₂, ◌∙◌, subst, ℕ, ◌<◌, ◌^◌, Bool, true, false}
use Rattle.std.proofs.Common.{cond, List, [], ◌∷◌, ◌++◌, length, map, filter}
use Rattle.std.specs.Prelude.{Option}
use Rattle.std.specs.List.{flat_map, AllByRecursion}
use Rattle.std.proofs.lemmas.Bool.{ne_eqb}
use Rattle.json.specs.Token.{key}
use Rattle.model_message.specs.AnyValue.{AnyValue}
use Rattle.model_message.specs.Reading.{◌>>=◌, done, each}
use Rattle.model_message.specs.Wire.{Field, Payload, len}
use Rattle.model_message.specs.Tables.{Shape, Table, Message, message, repeated}
use Rattle.model_message.specs.Messages.{PayloadReading, is_field, payloads, read}
use Rattle.model_message.specs.Canon.{message_field, row_bytes}
use Rattle.model_message.proofs.RowLaws.{HaveSpellings}
use Rattle.model_message.proofs.ReadBack.{payloads-own}
use Rattle.otlp_json.specs.Bodies.{Objects, member}
use Rattle.otlp_json.specs.Names as names
use Rattle.otlp_json.specs.Names.{member_named}
use Rattle.otlp_json.specs.LeafNames.{AnyLeaf}
use Rattle.otlp_json.specs.LeafNames.{AnyMember}
use Rattle.otlp_json.specs.MessageNames.{AnyMessage}
use Rattle.otlp_json.specs.Seen.{Seen, Other, braces, brackets}
use Rattle.law_json.proofs.Fronts.{Takes, TakesItems, TakesMembers, TakesObject, each_member}
use Rattle.law_json.proofs.Fronts.{leaf_member, nested_member, no_items, then_items, then_members}
use Rattle.law_json.proofs.Leaves.{Means}
use Rattle.law_json.proofs.Rows.{bytes_below, spelled_bytes}

-- ---- members

module _ (objects : Objects) (outer : AnyMessage) (name : List ℕ) (more : List Seen)
    (others : List Field) where
  as_named : (m : Option AnyMember) (what : List Seen) (fields : List Field)
      → member_named outer name ≡ m → Takes (member objects m) what fields
      → TakesMembers objects outer more others
      → TakesMembers objects outer (Other (key name) ∷ (what ++ more)) (fields ++ others)
  as_named m what fields is h then =
      then_members objects outer name what more fields others
      (subst (λ k. Takes (member objects k) what fields) (sym is) h) then

  -- a member that holds no message, and the others
  pub then_leaf : (n : ℕ) (leaf : AnyLeaf) (x : Seen) (p : Payload)
      → member_named outer name ≡ names.one n leaf → Means leaf x p
      → TakesMembers objects outer more others
      → TakesMembers objects outer (Other (key name) ∷ x ∷ more)
      (record { number = n; payload = p } ∷ others)
  then_leaf n leaf x p is h then =
      as_named (names.one n leaf) (x ∷ []) (record { number = n; payload = p } ∷ []) is
      (leaf_member objects n leaf x p h) then

  -- one that holds a message
  pub then_nested : (n : ℕ) (inner : AnyMessage) (what : List Seen) (fields : List Field)
      → member_named outer name ≡ names.nested n inner → TakesObject objects inner what fields
      → TakesMembers objects outer more others
      → TakesMembers objects outer (Other (key name) ∷ (braces what ++ more))
      (message_field n fields ∷ others)
  then_nested n inner what fields is h then =
      as_named (names.nested n inner) (braces what) (message_field n fields ∷ []) is
      (nested_member objects n inner what fields h) then

  -- one that holds a list of messages
  pub then_each : (n : ℕ) (inner : AnyMessage) (what : List Seen) (fields : List Field)
      → member_named outer name ≡ names.each n inner → TakesItems objects n inner what fields
      → TakesMembers objects outer more others
      → TakesMembers objects outer (Other (key name) ∷ (brackets what ++ more)) (fields ++ others)
  then_each n inner what fields is h then =
      as_named (names.each n inner) (brackets what) fields is
      (each_member objects n inner what fields h) then

-- ---- the payloads of a number

-- The payloads among two rows are those of the first, and then those of the second.
pub payloads_both : (n : ℕ) (s : Shape) (a b : List Field)
    → payloads n s (a ++ b) ≡ payloads n s a ++ payloads n s b
unfolding payloads
payloads_both n s [] b = refl
payloads_both n s (f ∷ a) b = go (is_field n s f) (payloads_both n s a b)
  where
    go : (t : Bool) → payloads n s (a ++ b) ≡ payloads n s a ++ payloads n s b →
        map (λ f. f.payload)
        (cond t (f ∷ filter (is_field n s) (a ++ b)) (filter (is_field n s) (a ++ b)))
        ≡ map (λ f. f.payload) (cond t (f ∷ filter (is_field n s) a) (filter (is_field n s) a))
        ++ payloads n s b
    go true h = ap (λ l. f.payload ∷ l) h
    go false h = h

-- the messages of a list, as fields of a number
abbrev pub rows : {X : Type 0} → ℕ → (X → List Field) → List X → List Field
rows n row [] = []
rows n row (x ∷ xs) = message_field n (row x) ∷ rows n row xs

module _ {X : Type 0} (row : X → List Field) where
  -- They are no payloads of another number.
  pub rows_none : (m n : ℕ) (s : Shape) → (m ≡ n → ⊥) → (xs : List X)
      → payloads n s (rows m row xs) ≡ []
  unfolding payloads
  rows_none m n s other [] = refl
  rows_none m n s other (x ∷ xs) = rw (ne_eqb m n other) (rows_none m n s other xs)

  -- They have spellings, where their bytes are few enough.
  pub rows_spelled : (n : ℕ) → 0 < n → n < 2 ^ 29 → (xs : List X)
      → length (row_bytes (rows n row xs)) < 2 ^ 64 → HaveSpellings (rows n row xs)
  rows_spelled n positive in_range [] small = tt
  rows_spelled n positive in_range (x ∷ xs) small =
      let b = bytes_below n (row_bytes (row x)) (rows n row xs) (2 ^ 64) small in (
        spelled_bytes n (row_bytes (row x)) positive in_range b.0,
        rows_spelled n positive in_range xs b.1,
      )

  -- If each message is read as what comes back, the list is read as these.
  pub rows_read : (values : PayloadReading AnyValue) (n : ℕ) (t : Table) (P : X → Type 0)
      (back : X → Message t)
      → ((x : X) → P x → length (row_bytes (row x)) < 2 ^ 64
      → read values (message t) (len (row_bytes (row x)) ∷ []) ≡ done (back x))
      → (xs : List X) → AllByRecursion P xs → length (row_bytes (rows n row xs)) < 2 ^ 64
      → each (λ p. read values (message t) (p ∷ []))
      (payloads n (repeated (message t)) (rows n row xs)) ≡ done (map back xs)
  unfolding payloads
  rows_read values n t P back h [] all small = refl
  rows_read values n t P back h (x ∷ xs) all small =
      let b = bytes_below n (row_bytes (row x)) (rows n row xs) (2 ^ 64) small in
      ap (λ l. each (λ p. read values (message t) (p ∷ [])) l)
      (payloads_both n (repeated (message t)) (message_field n (row x) ∷ []) (rows n row xs)
      ∙ ap (λ l. l ++ payloads n (repeated (message t)) (rows n row xs))
      (payloads-own n (repeated (message t)) (len (row_bytes (row x))) refl))
      ∙ ap₂ (λ p q. p >>= λ y. q >>= λ ys. done (y ∷ ys)) (h x all.0 b.0)
      (rows_read values n t P back h xs all.1 b.1)

  -- If each message is taken, the list is taken.
  pub rows_take : (objects : Objects) (n : ℕ) (inner : AnyMessage) (P : X → Type 0)
      (what : X → List Seen)
      → ((x : X) → P x → TakesObject objects inner (what x) (row x))
      → (xs : List X) → AllByRecursion P xs
      → TakesItems objects n inner (flat_map (λ x. braces (what x)) xs) (rows n row xs)
  rows_take objects n inner P what h [] all = no_items objects n inner
  rows_take objects n inner P what h (x ∷ xs) all =
      then_items objects n inner (what x) (flat_map (λ y. braces (what y)) xs) (row x)
      (rows n row xs) (h x all.0) (rows_take objects n inner P what h xs all.1)

-- What the definitions of `otlp_json` read from tokens of which a reader sees this.
use Rattle.std.proofs.Common.{◌≡◌, refl, ap, ◌∙◌, ℕ, zero, suc, ◌<◌, Bool, true, false}
use Rattle.std.proofs.Common.{List, [], ◌∷◌, ◌++◌, append_assoc, length, length-append, arith, Ok}
use Rattle.std.specs.Prelude.{cond}
use Rattle.std.specs.Float.{binary64}
use Rattle.std.specs.List.{list_any}
use Rattle.fast_float.specs.Parse.{parse_float}
use Rattle.json.specs.Print.{ArePrintable, IsNumber}
use Rattle.json.specs.Token.{Token, begin_object, end_object, begin_array, end_array, key, string}
use Rattle.json.specs.Token.{number, boolean, null, bad}
use Rattle.model_message.specs.Wire.{Field, Payload}
use Rattle.model_message.specs.Canon.{message_field}
use Rattle.otlp_json.specs.Bodies as bodies
use Rattle.otlp_json.specs.Bodies.{Objects, before, items, leaf_field, member, members, object}
use Rattle.otlp_json.specs.Bodies.{is_null}
use Rattle.otlp_json.specs.Fronts.{Front, after, give}
use Rattle.otlp_json.specs.Leaves.{payload}
use Rattle.otlp_json.specs.Names.{member_named, one, nested, each}
use Rattle.otlp_json.specs.LeafNames.{AnyLeaf}
use Rattle.otlp_json.specs.MessageNames.{AnyMessage}
use Rattle.otlp_json.specs.Seen.{Seen, Other, Number, braces, brackets, is_mark, seen}

-- ---- tokens that are seen so

-- The token is seen so: it is this one, or a number that reads as this double.
abbrev pub Shows : Seen → Token → Type 0
Shows (Other u) t = t ≡ u
Shows (Number x) t =
    (s : List ℕ) × (t ≡ number s) × IsNumber s × (parse_float binary64 s ≡ x)

abbrev pub Show : List Seen → List Token → Type 0
Show [] [] = Unit {0}
Show [] (t ∷ ts) = ⊥
Show (x ∷ what) [] = ⊥
Show (x ∷ what) (t ∷ ts) = Shows x t × Show what ts

number_shows : (b : Bool) (s : List ℕ) → IsNumber s
    → Shows (cond b (Number (parse_float binary64 s)) (Other (number s))) (number s)
number_shows true s h = (s, refl, h, refl)
number_shows false s h = refl

-- Tokens that can be printed are seen as they are seen.
pub show_seen : (ts : List Token) → ArePrintable ts → Show (seen ts) ts
unfolding ArePrintable
show_seen [] h = tt
show_seen (begin_object ∷ ts) h = (refl, show_seen ts h.1)
show_seen (end_object ∷ ts) h = (refl, show_seen ts h.1)
show_seen (begin_array ∷ ts) h = (refl, show_seen ts h.1)
show_seen (end_array ∷ ts) h = (refl, show_seen ts h.1)
show_seen (key s ∷ ts) h = (refl, show_seen ts h.1)
show_seen (string s ∷ ts) h = (refl, show_seen ts h.1)
show_seen (number s ∷ ts) h = (number_shows (list_any is_mark s) s h.0, show_seen ts h.1)
show_seen (boolean b ∷ ts) h = (refl, show_seen ts h.1)
show_seen (null ∷ ts) h = (refl, show_seen ts h.1)
show_seen (bad ∷ ts) h = absurd h.0

-- what is seen of two rows, one after the other
pub record Split (a b : List Seen) (ts : List Token) : Type 0 where
  pub first : List Token
  pub second : List Token
  pub whole : ts ≡ first ++ second
  pub shows_first : Show a first
  pub shows_second : Show b second

-- Tokens of which two rows are seen are those of the first, and then those of the second.
pub split : (a b : List Seen) (ts : List Token) → Show (a ++ b) ts → Split a b ts
split [] b ts h = record {
  first = [];
  second = ts;
  whole = refl;
  shows_first = tt;
  shows_second = h;
}
split (x ∷ a) b [] h = absurd h
split (x ∷ a) b (t ∷ ts) h = let s = split a b ts h.1 in record {
  first = t ∷ s.first;
  second = s.second;
  whole = ap (λ l. t ∷ l) s.whole;
  shows_first = (h.0, s.shows_first);
  shows_second = s.shows_second;
}

-- ---- what is read of them

-- From the front of tokens that are seen so, this is read, and what is after them is left.
abbrev pub Takes : {A : Type 0} → Front A → List Seen → A → Type 0
Takes read what x = (ts rest : List Token) → Show what ts → read (ts ++ rest) ≡ Ok (x, rest)

-- The members of an object are these fields.
unfoldable pub TakesMembers : Objects → AnyMessage → List Seen → List Field → Type 0
TakesMembers objects message what fields =
    (turns : ℕ) (ts rest : List Token) → Show what ts → length ts < turns
    → members objects message turns (ts ++ end_object ∷ rest) ≡ Ok (fields, rest)

-- The items of a list are these fields.
unfoldable pub TakesItems : Objects → ℕ → AnyMessage → List Seen → List Field → Type 0
TakesItems objects n message what fields =
    (turns : ℕ) (ts rest : List Token) → Show what ts → length ts < turns
    → items objects n message turns (ts ++ end_array ∷ rest) ≡ Ok (fields, rest)

-- An object after its brace is these fields.
unfoldable pub TakesObject : Objects → AnyMessage → List Seen → List Field → Type 0
TakesObject objects message what fields =
    Takes (objects message) (what ++ Other end_object ∷ []) fields

module _ (objects : Objects) where
  -- No member is no field.
  pub no_members : (message : AnyMessage) → TakesMembers objects message [] []
  unfolding members TakesMembers
  no_members message zero ts rest h l = absurd (omega arith)
  no_members message (suc turns) [] rest h l = refl
  no_members message (suc turns) (t ∷ ts) rest h l = absurd h

  -- The fields of a member, and then those of the others.
  pub then_members : (message : AnyMessage) (name : List ℕ) (what more : List Seen)
      (fields others : List Field)
      → Takes (member objects (member_named message name)) what fields
      → TakesMembers objects message more others
      → TakesMembers objects message (Other (key name) ∷ (what ++ more)) (fields ++ others)
  unfolding members TakesMembers
  then_members message name what more fields others first then zero ts rest h l =
      absurd (omega arith)
  then_members message name what more fields others first then (suc turns) [] rest h l = absurd h
  then_members message name what more fields others first then (suc turns) (t ∷ ts) rest h l =
      let s = split what more ts h.1 in
      let read = member objects (member_named message name) in
      let next = before (members objects message turns) in
      ap (λ u. members objects message (suc turns) ((u ∷ ts) ++ end_object ∷ rest)) h.0
      ∙ ap (λ k. after (read (k ++ end_object ∷ rest)) next) s.whole
      ∙ ap (λ k. after (read k) next) (append_assoc s.first s.second (end_object ∷ rest))
      ∙ ap (λ r. after r next) (first s.first (s.second ++ end_object ∷ rest) s.shows_first)
      ∙ ap (λ r. after r (λ k. give (fields ++ k)))
      (then turns s.second rest s.shows_second
      (omega (arith, l, ap length s.whole, length-append s.first s.second)))

  -- A member that holds no message is its field.
  pub leaf_member : (n : ℕ) (leaf : AnyLeaf) (x : Seen) (p : Payload)
      → ((t : Token) → Shows x t → (is_null t ≡ false) × (payload leaf t ≡ Ok p))
      → Takes (member objects (one n leaf)) (x ∷ []) (record { number = n; payload = p } ∷ [])
  unfolding member
  leaf_member n leaf x p h [] rest s = absurd s
  leaf_member n leaf x p h (t ∷ []) rest s =
      let is = h t s.0 in
      ap (λ b. cond b (give []) (leaf_field n (payload leaf t)) rest) is.0
      ∙ ap (λ r. leaf_field n r rest) is.1
  leaf_member n leaf x p h (t ∷ u ∷ ts) rest s = absurd s.1

  -- A message in braces is its field.
  pub nested_takes : (n : ℕ) (message : AnyMessage) (what : List Seen) (fields : List Field)
      → TakesObject objects message what fields
      → (ts rest : List Token) → Show (what ++ Other end_object ∷ []) ts
      → bodies.nested objects n message begin_object (ts ++ rest)
      ≡ Ok (message_field n fields ∷ [], rest)
  unfolding TakesObject
  nested_takes n message what fields h ts rest s =
      ap (λ r. after r (λ k. give (message_field n k ∷ []))) (h ts rest s)

  -- A member that holds a message is its field.
  pub nested_member : (n : ℕ) (message : AnyMessage) (what : List Seen) (fields : List Field)
      → TakesObject objects message what fields
      → Takes (member objects (nested n message)) (braces what) (message_field n fields ∷ [])
  unfolding member
  nested_member n message what fields h [] rest s = absurd s
  nested_member n message what fields h (t ∷ ts) rest s =
      ap (λ u. member objects (nested n message) ((u ∷ ts) ++ rest)) s.0
      ∙ nested_takes n message what fields h ts rest s.1

  -- No item is no field.
  pub no_items : (n : ℕ) (message : AnyMessage) → TakesItems objects n message [] []
  unfolding items TakesItems
  no_items n message zero ts rest h l = absurd (omega arith)
  no_items n message (suc turns) [] rest h l = refl
  no_items n message (suc turns) (t ∷ ts) rest h l = absurd h

  -- The field of an item, and then those of the others.
  pub then_items : (n : ℕ) (message : AnyMessage) (what more : List Seen)
      (fields others : List Field)
      → TakesObject objects message what fields → TakesItems objects n message more others
      → TakesItems objects n message (braces what ++ more) (message_field n fields ∷ others)
  unfolding items TakesItems
  then_items n message what more fields others first then zero ts rest h l = absurd (omega arith)
  then_items n message what more fields others first then (suc turns) [] rest h l = absurd h
  then_items n message what more fields others first then (suc turns) (t ∷ ts) rest h l =
      let s = split (what ++ Other end_object ∷ []) more ts h.1 in
      let next = before (items objects n message turns) in
      ap (λ u. items objects n message (suc turns) ((u ∷ ts) ++ end_array ∷ rest)) h.0
      ∙ ap (λ k. after (bodies.nested objects n message begin_object (k ++ end_array ∷ rest)) next)
      s.whole
      ∙ ap (λ k. after (bodies.nested objects n message begin_object k) next)
      (append_assoc s.first s.second (end_array ∷ rest))
      ∙ ap (λ r. after r next)
      (nested_takes n message what fields first s.first (s.second ++ end_array ∷ rest)
      s.shows_first)
      ∙ ap (λ r. after r (λ k. give (message_field n fields ∷ k)))
      (then turns s.second rest s.shows_second
      (omega (arith, l, ap length s.whole, length-append s.first s.second)))

  -- A member that holds a list of messages is their fields.
  pub each_member : (n : ℕ) (message : AnyMessage) (what : List Seen) (fields : List Field)
      → TakesItems objects n message what fields
      → Takes (member objects (each n message)) (brackets what) fields
  unfolding member TakesItems
  each_member n message what fields h [] rest s = absurd s
  each_member n message what fields h (t ∷ ts) rest s =
      let k = split what (Other end_array ∷ []) ts s.1 in
      ap (λ u. member objects (each n message) ((u ∷ ts) ++ rest)) s.0
      ∙ ends k.second k.shows_second k.first k.whole k.shows_first
    where
      ends : (second : List Token) → Show (Other end_array ∷ []) second → (first : List Token)
          → ts ≡ first ++ second → Show what first
          → items objects n message (suc (length (ts ++ rest))) (ts ++ rest) ≡ Ok (fields, rest)
      ends [] e first w f = absurd e
      ends (u ∷ []) e first w f =
          ap (λ l. items objects n message (suc (length (ts ++ rest))) (l ++ rest)) w
          ∙ ap
          (λ y. items objects n message (suc (length (ts ++ rest))) ((first ++ y ∷ []) ++ rest))
          e.0
          ∙ ap (items objects n message (suc (length (ts ++ rest))))
          (append_assoc first (end_array ∷ []) rest)
          ∙ h (suc (length (ts ++ rest))) first rest f
          (omega (arith, ap length w, length-append first (u ∷ []), length-append ts rest))
      ends (u ∷ v ∷ l) e first w f = absurd e.1

-- An object within the depth is the fields of its members.
pub object_takes : (depth : ℕ) (message : AnyMessage) (what : List Seen) (fields : List Field)
    → TakesMembers (object depth) message what fields
    → TakesObject (object (suc depth)) message what fields
unfolding object TakesMembers TakesObject
object_takes depth message what fields h ts rest s =
    let k = split what (Other end_object ∷ []) ts s in
    ends k.second k.shows_second k.first k.whole k.shows_first
  where
    ends : (second : List Token) → Show (Other end_object ∷ []) second → (first : List Token)
        → ts ≡ first ++ second → Show what first
        → members (object depth) message (suc (length (ts ++ rest))) (ts ++ rest)
        ≡ Ok (fields, rest)
    ends [] e first w f = absurd e
    ends (u ∷ []) e first w f =
        ap (λ l. members (object depth) message (suc (length (ts ++ rest))) (l ++ rest)) w
        ∙ ap (λ y.
        members (object depth) message (suc (length (ts ++ rest))) ((first ++ y ∷ []) ++ rest)) e.0
        ∙ ap (members (object depth) message (suc (length (ts ++ rest))))
        (append_assoc first (end_object ∷ []) rest)
        ∙ h (suc (length (ts ++ rest))) first rest f
        (omega (arith, ap length w, length-append first (u ∷ []), length-append ts rest))
    ends (u ∷ v ∷ l) e first w f = absurd e.1

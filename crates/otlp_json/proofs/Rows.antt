-- Rows of fields, one after another, as bytes.
use Rattle.std.proofs.Common.{◌≡◌, ℕ, zero, suc, ◌-◌, ◌<◌, List, [], ◌∷◌, ◌++◌, length}
use Rattle.std.proofs.Common.{Some, None, Result, Ok, Err, ◌≢◌, refl, sym, ap, ◌∙◌}
use Rattle.std.proofs.Common.{arith}
use Rattle.std.proofs.Common.{append_assoc, append-nil, take, drop}
use Rattle.std.proofs.lemmas.List.{take_at, drop_at}
use Rattle.json.specs.Token.{Token}
use Rattle.json.specs.Json.{read_key, after_end_array}
use Rattle.model_message.specs.Wire.{Field}
use Rattle.model_message.specs.Canon.{row_bytes, field_bytes, bytes_field, message_field}
use Rattle.model_message.proofs.Composed.{row_bytes-append}
use Rattle.otlp_json.specs.Bodies.{Objects, items, members, member, nested, before, items_step}
use Rattle.otlp_json.specs.Bodies.{members_step, object}
use Rattle.otlp_json.specs.Fronts.{Front, give, after, ◌>>=◌, next_token, if_there}
use Rattle.otlp_json.specs.Names.{member_named}
use Rattle.otlp_json.specs.Writing.{appended}
use Rattle.otlp_json.specs.declared.fault.JsonFault.{JsonFault}
use Rattle.otlp_json.specs.declared.fault.JsonFault.TheVariants as faults
use Rattle.otlp_json.specs.declared.names.Message.{Message}

-- what reading gives: fields, and the tokens that are left
abbrev Read : Type 0
Read = Result (List Field × List Token) JsonFault

abbrev Left : Type 0
Left = Result (List ℕ × List Token) JsonFault

-- the bytes of it, and the tokens that are left
abbrev bytes_of : Left → List ℕ
bytes_of (Ok x) = x.0
bytes_of (Err f) = []

abbrev tokens_of : Left → List Token
tokens_of (Ok x) = x.1
tokens_of (Err f) = []

-- No field is no byte.
pub no_fields : (out : List ℕ) (ts : List Token) → let left : Left = Ok (out, ts) in
    appended out (Ok ([], ts)) ≡ left
unfolding row_bytes
no_fields out ts = ap (λ bs. Ok (bs, ts)) (append-nil out)

-- The bytes of one field.
pub one_field : (out : List ℕ) (f : Field) (ts : List Token) →
    let left : Left = Ok (out ++ field_bytes f, ts) in appended out (Ok (f ∷ [], ts)) ≡ left
unfolding row_bytes
one_field out f ts = ap (λ bs. Ok (out ++ bs, ts)) (append-nil (field_bytes f))

-- Fields before others are written before them.
fields_first : (out : List ℕ) (first : List Field) (others : Read)
    → appended out (after others (λ fs ts. Ok (first ++ fs, ts)))
    ≡ appended (out ++ row_bytes first) others
fields_first out first (Err f) = refl
fields_first out first (Ok x) =
    ap (λ bs. Ok (bs, x.1)) (ap (λ bs. out ++ bs) (row_bytes-append first x.0)
    ∙ sym (append_assoc out (row_bytes first) (row_bytes x.0)))

-- the fields that were read, and those of what comes after them
abbrev pub with_more : Read → Front (List Field) → Read
with_more first more = after first (before more)

-- What comes after fields is written after them.
pub goes_on : (out new : List ℕ) (rest : List Token) (first : Read) (more : Front (List Field))
    → appended out first ≡ Ok (new, rest)
    → appended out (with_more first more) ≡ appended new (more rest)
goes_on out new rest (Err f) more e = cc
goes_on out new rest (Ok x) more e =
    let written : out ++ row_bytes x.0 ≡ new = ap bytes_of e in
    let left : x.1 ≡ rest = ap tokens_of e in
    fields_first out x.0 (more x.1)
    ∙ ap (λ ts. appended (out ++ row_bytes x.0) (more ts)) left
    ∙ ap (λ bs. appended bs (more rest)) written

-- A fault is that of the whole.
pub stops : (out : List ℕ) (fault : JsonFault) (first : Read)
    (more : List Field → Front (List Field))
    → appended out first ≡ Err fault → appended out (after first more) ≡ Err fault
stops out fault (Err f) more e = e
stops out fault (Ok x) more e = cc

-- ---- members, one after another

module _ (o : Objects) (m : Message) where
  -- At the brace there are no more members.
  pub members-end : (n : ℕ) (out : List ℕ) (ts rest : List Token) → 0 < n
      → read_key ts ≡ Some (None, rest) → appended out (members o m n ts) ≡ Ok (out, rest)
  unfolding members
  members-end zero out ts rest h e = let never : ⊥ = omega arith in absurd never
  members-end (suc n) out ts rest h e =
      ap (λ k. appended out (after (if_there k) (members_step o m (members o m n)))) e
      ∙ no_fields out rest

  -- Where no name is, the text is no JSON.
  pub members-no-name : (n : ℕ) (ts : List Token) → read_key ts ≡ None
      → members o m n ts ≡ Err faults.Malformed
  unfolding members
  members-no-name zero ts e = refl
  members-no-name (suc n) ts e = ap (λ k. after (if_there k) (members_step o m (members o m n))) e

  -- A member stops at its fault.
  pub members-stop : (n : ℕ) (out name : List ℕ) (ts left : List Token) (fault : JsonFault) → 0 < n
      → read_key ts ≡ Some (Some name, left)
      → appended out (member o (member_named m name) left) ≡ Err fault
      → appended out (members o m n ts) ≡ Err fault
  unfolding members
  members-stop zero out name ts left fault h e f = let never : ⊥ = omega arith in absurd never
  members-stop (suc n) out name ts left fault h e f =
      ap (λ k. appended out (after (if_there k) (members_step o m (members o m n)))) e
      ∙ stops out fault (member o (member_named m name) left) (before (members o m n)) f

  -- After a member come the others.
  pub members-more : (n : ℕ) (out new name : List ℕ) (ts left rest : List Token) → 0 < n
      → read_key ts ≡ Some (Some name, left)
      → appended out (member o (member_named m name) left) ≡ Ok (new, rest)
      → appended out (members o m n ts) ≡ appended new (members o m (n - 1) rest)
  unfolding members
  members-more zero out new name ts left rest h e f = let never : ⊥ = omega arith in absurd never
  members-more (suc n) out new name ts left rest h e f =
      let less : n ≡ suc n - 1 = omega arith in
      ap (λ k. appended out (after (if_there k) (members_step o m (members o m n)))) e
      ∙ goes_on out new rest (member o (member_named m name) left) (members o m n) f
      ∙ ap (λ k. appended new (members o m k rest)) less

-- ---- items, one after another

module _ (o : Objects) (number : ℕ) (m : Message) where
  -- an item of a list
  abbrev item : Front (List Field)
  item = next_token >>= nested o number m

  -- At the bracket there are no more items.
  pub items-end : (n : ℕ) (out : List ℕ) (ts rest : List Token) → 0 < n
      → after_end_array ts ≡ Some rest → appended out (items o number m n ts) ≡ Ok (out, rest)
  unfolding items
  items-end zero out ts rest h e = let never : ⊥ = omega arith in absurd never
  items-end (suc n) out ts rest h e =
      ap (λ k. appended out (items_step item (items o number m n) k ts)) e ∙ no_fields out rest

  -- An item stops at its fault.
  pub items-stop : (n : ℕ) (out : List ℕ) (ts : List Token) (fault : JsonFault) → 0 < n
      → after_end_array ts ≡ None → appended out (item ts) ≡ Err fault
      → appended out (items o number m n ts) ≡ Err fault
  unfolding items
  items-stop zero out ts fault h e f = let never : ⊥ = omega arith in absurd never
  items-stop (suc n) out ts fault h e f =
      ap (λ k. appended out (items_step item (items o number m n) k ts)) e
      ∙ stops out fault (item ts) (before (items o number m n)) f

  -- After an item come the others.
  pub items-more : (n : ℕ) (out new : List ℕ) (ts rest : List Token) → 0 < n
      → after_end_array ts ≡ None → appended out (item ts) ≡ Ok (new, rest)
      → appended out (items o number m n ts) ≡ appended new (items o number m (n - 1) rest)
  unfolding items
  items-more zero out new ts rest h e f = let never : ⊥ = omega arith in absurd never
  items-more (suc n) out new ts rest h e f =
      let less : n ≡ suc n - 1 = omega arith in
      ap (λ k. appended out (items_step item (items o number m n) k ts)) e
      ∙ goes_on out new rest (item ts) (items o number m n) f
      ∙ ap (λ k. appended new (items o number m k rest)) less

-- ---- a message in a field

-- What is written of an object becomes the content of a field.
pub enclosed : (out new : List ℕ) (n : ℕ) (rest : List Token) (inner : Read)
    → appended out inner ≡ Ok (new, rest)
    → appended out (after inner (λ fields. give (message_field n fields ∷ [])))
    ≡ Ok (take (length out) new ++ field_bytes (bytes_field n (drop (length out) new)), rest)
enclosed out new n rest (Err f) e = cc
enclosed out new n rest (Ok x) e =
    let written : out ++ row_bytes x.0 ≡ new = ap bytes_of e in
    let left : x.1 ≡ rest = ap tokens_of e in
    let front : take (length out) new ≡ out =
    ap (take (length out)) (sym written) ∙ take_at out (row_bytes x.0) (length out) refl in
    let back : drop (length out) new ≡ row_bytes x.0 =
    ap (drop (length out)) (sym written) ∙ drop_at out (row_bytes x.0) (length out) refl in
    one_field out (message_field n x.0) x.1
    ∙ ap (λ ts. Ok (out ++ field_bytes (message_field n x.0), ts)) left
    ∙ ap (λ bs. Ok (bs ++ field_bytes (message_field n x.0), rest)) (sym front)
    ∙ ap (λ bs. Ok (take (length out) new ++ field_bytes (bytes_field n bs), rest)) (sym back)

-- An object of which a level is left is its members.
pub object-is : (depth : ℕ) (m : Message) (ts : List Token) → depth ≢ 0
    → object depth m ts ≡ members (object (depth - 1)) m (suc (length ts)) ts
unfolding object
object-is zero m ts h = absurd (h refl)
object-is (suc d) m ts h =
    let same : d ≡ suc d - 1 = omega arith in
    ap (λ k. members (object k) m (suc (length ts)) ts) same

-- Where no token is, no item is.
pub item-none : (o : Objects) (number : ℕ) (m : Message) (out : List ℕ) (ts : List Token)
    (fault : JsonFault) → next_token ts ≡ Err fault
    → appended out ((next_token >>= nested o number m) ts) ≡ Err fault
item-none o number m out ts fault e = ap (λ r. appended out (after r (nested o number m))) e

-- An item is a token and the message that it opens.
pub item-is : (o : Objects) (number : ℕ) (m : Message) (out : List ℕ) (ts rest : List Token)
    (t : Token) → next_token ts ≡ Ok (t, rest)
    → appended out ((next_token >>= nested o number m) ts) ≡ appended out (nested o number m t rest)
item-is o number m out ts rest t e = ap (λ r. appended out (after r (nested o number m))) e

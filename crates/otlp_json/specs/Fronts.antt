-- What is at the front of the tokens of a text.
use Rattle.std.specs.Prelude.{ℕ, List, [], ◌∷◌, Option, Some, None, Result, Ok, Err}
use Rattle.json.specs.Json as json
use Rattle.json.specs.Token.{Token}
use Rattle.otlp_json.specs.declared.fault.JsonFault.{JsonFault}
use Rattle.otlp_json.specs.declared.fault.JsonFault.TheVariants as faults

-- something that is at the front of some tokens, with the tokens after it, or the fault that is
-- there
abbrev pub Front : Type 0 → Type 0
Front A = List Token → Result (A × List Token) JsonFault

-- this value, without a token
abbrev pub give : {A : Type 0} → A → Front A
give x ts = Ok (x, ts)

-- this fault, whatever tokens follow
abbrev pub fail : {A : Type 0} → JsonFault → Front A
fail fault ts = Err fault

-- what comes after it, or its fault
abbrev pub after : {A B : Type 0} → Result (A × List Token) JsonFault → (A → Front B)
    → Result (B × List Token) JsonFault
after (Ok x) next = next x.0 x.1
after (Err fault) next = Err fault

-- one after the other
infixl 10 ◌>>=◌
abbrev pub ◌>>=◌ : {A B : Type 0} → Front A → (A → Front B) → Front B
◌>>=◌ read next = λ ts. after (read ts) next

-- what the grammar of JSON gives
abbrev pub if_there : {A : Type 0} → Option (A × List Token) → Result (A × List Token) JsonFault
if_there None = Err faults.Malformed
if_there (Some x) = Ok x

-- the next token
abbrev pub next_token : Front Token
next_token [] = Err faults.Malformed
next_token (t ∷ ts) = Ok (t, ts)

-- the name of the next member, or none at the end of the object
abbrev pub next_name : Front (Option (List ℕ))
next_name ts = if_there (json.read_key ts)

-- nothing, after a value
abbrev pub if_skipped : {A : Type 0} → A → Option (List Token) → Result (A × List Token) JsonFault
if_skipped x None = Err faults.Malformed
if_skipped x (Some ts) = Ok (x, ts)

-- nothing, after a value that is not looked into
abbrev pub skipped : {A : Type 0} → A → Front A
skipped x ts = if_skipped x (json.skip_value json.max_depth ts)

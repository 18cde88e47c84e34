-- An attribute's value, as the protocol has it. (opentelemetry-proto, common.proto: AnyValue,
-- ArrayValue, KeyValueList)
use Rattle.std.specs.Prelude.{ℕ, ℤ, List, [], ◌∷◌, Bool}

mutual
  -- One of these, or none where no member is there. A text is its UTF-8 bytes, and a double the
  -- number of its 64 bits.
  pub data AnyValue : Type 0 where
    none : AnyValue
    text : List ℕ → AnyValue
    bool : Bool → AnyValue
    int : ℤ → AnyValue
    double : ℕ → AnyValue
    array : AnyValues → AnyValue
    pairs : KeyValues → AnyValue
    bytes : List ℕ → AnyValue

  -- the values of an ArrayValue, in order
  pub data AnyValues : Type 0 where
    no_values : AnyValues
    value : AnyValue → AnyValues → AnyValues

  -- the pairs of a KeyValueList, in order, with each repeated key
  pub data KeyValues : Type 0 where
    no_pairs : KeyValues
    pair : List ℕ → AnyValue → KeyValues → KeyValues

-- from a list of values
abbrev pub as_values : List AnyValue → AnyValues
as_values [] = no_values
as_values (v ∷ vs) = value v (as_values vs)

-- from pairs of a key and a value
abbrev pub as_pairs : List (List ℕ × (AnyValue × Unit {0})) → KeyValues
as_pairs [] = no_pairs
as_pairs (p ∷ ps) = pair p.0 p.1.0 (as_pairs ps)

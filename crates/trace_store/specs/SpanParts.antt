-- Spans in parts, one for each trace.
use Rattle.std.specs.Prelude.{◌≡◌, ◌≢◌, ◌⊎◌, ℕ, ◌<◌, List, [], ◌∷◌, ◌++◌, All, length, map}
use Rattle.std.specs.List.{flat_map}
use Rattle.std.specs.List.Sorted.{IsStrictlyIncreasing}

-- the numbers of the traces of parts
abbrev pub keys_of : {S : Type 0} → List (ℕ × List S) → List ℕ
keys_of parts = map (λ part. part.0) parts

-- each span of a part, with the number of its trace
abbrev pub entries_of_part : {S : Type 0} → ℕ × List S → List (ℕ × S)
entries_of_part part = map (λ span. (part.0, span)) part.1

-- those of all parts
abbrev pub entries_of : {S : Type 0} → List (ℕ × List S) → List (ℕ × S)
entries_of parts = flat_map entries_of_part parts

-- These are the parts of spans that come trace by trace: one for each trace, and none is empty.
pub record ArePartsOf {S : Type 0} (entries : List (ℕ × S)) (parts : List (ℕ × List S))
    : Type 0 where
  pub all : entries ≡ entries_of parts
  pub some : All (λ part. 0 < length part.1) parts
  pub rising : IsStrictlyIncreasing (keys_of parts)

-- One more span, of the trace with this number, comes to the last part, which is of this trace or
-- has no span yet.
pub record JoinsLast {S : Type 0} (key : ℕ) (span : S) (old new : List (ℕ × List S))
    (last last' : ℕ × List S) : Type 0 where
  pub fits : (last.0 ≡ key) ⊎ (last.1 ≡ [])
  pub same : new ≡ old
  pub more : last' ≡ (key, last.1 ++ span ∷ [])

-- Or it begins a new part, and the last one is put to the others.
pub record BeginsPart {S : Type 0} (key : ℕ) (span : S) (old new : List (ℕ × List S))
    (last last' : ℕ × List S) : Type 0 where
  pub other : last.0 ≢ key
  pub some : last.1 ≢ []
  pub put : new ≡ old ++ last ∷ []
  pub one : last' ≡ (key, span ∷ [])

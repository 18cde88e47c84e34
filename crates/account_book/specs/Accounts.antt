-- What the open accounts of a book say, and how that changes. (profile)
use Rattle.std.specs.Prelude.{◌≡◌, List, [], ◌∷◌, ◌++◌, Bool, true, false}

-- what the open rows say
abbrev pub open_of : {V : Type 0} → List (Bool × V) → List V
open_of [] = []
open_of ((true, v) ∷ rows) = v ∷ open_of rows
open_of ((false, v) ∷ rows) = open_of rows

-- One account said v, and now says w; the others say what they said.
abbrev pub Replaces : {V : Type 0} → List V → V → V → List V → Type 0
Replaces {V} old v w new =
    (before : List V) × (appended : List V)
    × (old ≡ before ++ v ∷ appended) × (new ≡ before ++ w ∷ appended)

-- One account, which said v, is gone; the others say what they said.
abbrev pub Removes : {V : Type 0} → List V → V → List V → Type 0
Removes {V} old v new =
    (before : List V) × (appended : List V)
    × (old ≡ before ++ v ∷ appended) × (new ≡ before ++ appended)

-- These accounts were closed, one after the other, and the others are left.
abbrev pub Closes : {V : Type 0} → List V → List V → List V → Type 0
Closes old [] new = new ≡ old
Closes {V} old (v ∷ closed) new = (rest : List V) × Removes old v rest × Closes rest closed new

-- Buffers for bodies. (profile)
use Rattle.std.specs.Prelude.{◌≡◌, ℕ, ◌≤◌, List, [], ◌∷◌, vec_capacity}
use Rattle.std.specs.declared.vec.Vec.{Vec}

-- an empty one, with room for this number of bytes
pub record IsBuffer {A : Type 0} (least : ℕ) (buffer : Vec ℕ A) : Type 0 where
  pub empty : buffer.items ≡ []
  pub room : least ≤ vec_capacity buffer

-- each is such a one
abbrev pub AreBuffers : {A : Type 0} → ℕ → List (Vec ℕ A) → Type 0
AreBuffers least [] = Unit {0}
AreBuffers least (buffer ∷ buffers) = IsBuffer least buffer × AreBuffers least buffers

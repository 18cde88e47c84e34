-- Room and items side by side: how a place goes from the one to the other.
use Rattle.std.proofs.Common.{◌≡◌, ◌∙◌, ℕ, zero, suc, ◌+◌, ◌*◌, ◌-◌, ◌^◌, ◌<◌, ◌≤◌, ap, List, []}
use Rattle.std.proofs.Common.{◌∷◌, ◌++◌, length, drop as drop_n, arith, refl, sym}
use native.Mathlib.Nat.{zero-mul, suc-mul, one-mul}
use Rattle.std.proofs.Math.Nat.{add-mul}
use seplogic.Ra.Ura.{Ura}
use base.Fraction.{full_share}
use base.Logic.{ent, sep}
use prog.Memory.{capped}
use prog.Capped.{capped_is}
use base.Fml.{froom}
use mir.Syntax.{Ty, ty_array}
use mir.Raw.{raw as bare}
use prog.Memory.{size}
use types.Logic.{Logic, sem}
use prog.RawLaws.{size-raw}
use types.Kit.{‵, ◌⊛◌, split, use0, use1, ◌$◌, ◌∵◌, !, qed, by, move, drop, use2, fsplit, fjoin}
use types.Kit.{rewrite, done}
use denote.RattleType.{RattleType}
use denote.Memory.{part_at}
use denote.RawPtr.Room.{past, room_glue}
use denote.Steps.{nothing}
use Rattle.std.specs.Mem.{type_size}
use Rattle.span_ring.specs.Places.{items_own}

past_is : (τ : Ty) (m o : ℕ) → past (bare τ) m o ≡ m * size τ + o
past_is τ zero o = omega (arith, zero-mul (size τ))
past_is τ (suc m) o =
    past_is τ m (o + size (bare τ)) ∙ omega (arith, suc-mul m (size τ), size-raw τ)

module _ {M : Type 1} {𝓤 : Ura M} (𝓛 : Logic 𝓤) (b : ℕ) where
  -- Room and other room right after it are one room.
  pub joined : (τ : Ty) (m n o at : ℕ) → at ≡ m * size τ + o
      → ent 𝓤
      (sep 𝓤 (sem 𝓛 (froom (bare (ty_array τ m)) b o)) (sem 𝓛 (froom (bare (ty_array τ n)) b at)))
      (sem 𝓛 (froom (bare (ty_array τ (m + n))) b o))
  joined τ m n o at e =
      qed 𝓛 (‵ (froom (bare (ty_array τ m)) b o) ∷ ‵ (froom (bare (ty_array τ n)) b at) ∷ []) ∵
      move ! (1 ∷ []) $
      rewrite ! 0 (λ (k : ℕ). ‵ (froom (bare (ty_array τ n)) b k)) (e ∙ sym (past_is τ m o)) refl $
      move ! (1 ∷ 0 ∷ []) $ by ! (room_glue 𝓛 (bare τ) m n b o)

  module _ (R : RattleType) (x : R.Denot) where
    -- Items and another item right after them are a longer list of items.
    pub one_more : (xs : List R.Denot) (o at : ℕ) → at ≡ length xs * type_size R + o
        → ent 𝓤 (sep 𝓤 (sem 𝓛 (items_own R b o xs)) (sem 𝓛 (part_at R full_share x b at)))
        (sem 𝓛 (items_own R b o (xs ++ x ∷ [])))
    one_more [] o at e =
        let same : at ≡ o = omega (arith, e, zero-mul (type_size R)) in
        qed 𝓛 (‵ (items_own R b o []) ∷ ‵ (part_at R full_share x b at) ∷ []) ∵ drop ! $
        rewrite ! 0 (λ (k : ℕ). ‵ (part_at R full_share x b k)) same refl $ nothing ! $
        move ! (1 ∷ 0 ∷ []) $ fjoin ! $ done !
    one_more (y ∷ xs) o at e =
        let further : at ≡ length xs * type_size R + (o + type_size R) =
        omega (arith, e, suc-mul (length xs) (type_size R)) in
        qed 𝓛 (‵ (items_own R b o (y ∷ xs)) ∷ ‵ (part_at R full_share x b at) ∷ []) ∵
        fsplit ! $ move ! (1 ∷ 2 ∷ []) $
        use2 𝓛 (‵ (items_own R b (o + type_size R) (xs ++ x ∷ [])))
        (one_more xs (o + type_size R) at further) $
        move ! (1 ∷ 0 ∷ []) $ fjoin ! $ done !

module _ {M : Type 1} {𝓤 : Ura M} (𝓛 : Logic 𝓤) (b : ℕ) (τ : Ty) where
  -- Room and one place right after it are room for one more item.
  pub longer : (m o at : ℕ) → at ≡ m * size τ + o
      → ent 𝓤 (sep 𝓤 (sem 𝓛 (froom (bare (ty_array τ m)) b o)) (sem 𝓛 (froom τ b at)))
      (sem 𝓛 (froom (bare (ty_array τ (m + 1))) b o))
  longer m o at e =
      let after = at + size (bare τ) in
      qed 𝓛 (‵ (froom (bare (ty_array τ m)) b o) ∷ ‵ (froom τ b at) ∷ []) ∵ move ! (1 ∷ []) $
      use1 𝓛 (‵ (froom (bare τ) b at)) (𝓛.laws.room-raw τ b at) $
      use0 𝓛 (‵ (froom (bare (ty_array τ 0)) b after)) (𝓛.laws.room_nil (bare τ) b after) $
      move ! (1 ∷ 0 ∷ []) $
      use2 𝓛 (‵ (froom (bare (ty_array τ 1)) b at)) (𝓛.laws.room_cons (bare τ) 0 b at) $
      move ! (1 ∷ 0 ∷ []) $ by ! (joined 𝓛 b τ m 1 o at e)

  -- Room for some items splits into its first place and the room after it.
  pub shorter : (n at : ℕ)
      → ent 𝓤 (sem 𝓛 (froom (bare (ty_array τ (suc n))) b at))
      (sep 𝓤 (sem 𝓛 (froom τ b at)) (sem 𝓛 (froom (bare (ty_array τ n)) b (at + size τ))))
  shorter n at = qed 𝓛 (‵ (froom (bare (ty_array τ (suc n))) b at) ∷ []) ∵
      use1 𝓛 (‵ (froom (bare τ) b at) ⊛ ‵ (froom (bare (ty_array τ n)) b (at + size (bare τ))))
      (𝓛.laws.room_uncons (bare τ) n b at) $
      split ! $
      use1 𝓛 (‵ (froom τ b at)) (𝓛.laws.raw-room τ b at) $
      rewrite ! 1 (λ (k : ℕ). ‵ (froom (bare (ty_array τ n)) b (at + k))) (size-raw τ) refl $ done !

-- A list that isn't empty has a first item.
pub split_first : {X : Type 0} (xs : List X) → 0 < length xs → (x : X) × (xs ≡ x ∷ drop_n 1 xs)
split_first [] filled = absurd (omega arith)
split_first (x ∷ xs) filled = (x, refl)

-- Any number of places within a segment takes fewer than 2^64 bytes.
pub within_all : (before n after s : ℕ) → (before + n + after) * s < 2 ^ 63
    → (0 < before + n + after → s < 2 ^ 64) × ((i : ℕ) → i ≤ before + n + after → i * s < 2 ^ 64)
within_all before n after s small =
    let all = before + n + after in
    let part : (i : ℕ) → i ≤ all → i * s < 2 ^ 64 =
    λ i le. let sum : i + (all - i) ≡ all = omega arith in
    omega (arith, add-mul i (all - i) s, ap (λ (k : ℕ). k * s) sum) in
    (λ filled. omega (arith, part 1 (omega arith), one-mul s), part)

-- The bytes of some places are computed with the uncapped size where they are below 2^64.
pub uncapped : (i s : ℕ) → i * s < 2 ^ 64 → i * capped s ≡ i * s
uncapped zero s far = zero-mul (capped s) ∙ sym (zero-mul s)
uncapped (suc i) s far = ap (λ (k : ℕ). suc i * k) (capped_is s (omega (arith, far, suc-mul i s)))

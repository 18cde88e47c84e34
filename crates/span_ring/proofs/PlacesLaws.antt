-- A `&` to the places is made where one to an item is.
use Prim.Native.Nat.{ℕ, ◌+◌, ◌*◌}
use Rattle.std.specs.Prelude.{List, [], ◌∷◌, length}
use Rattle.std.specs.Mem.{type_size}
use seplogic.Ra.Ura.{Ura}
use base.Logic.{sep}
use base.Fml.{Lft, Fml, Incl, fsep, ftrue, ffalse, fbor, froom}
use mir.Syntax.{ty_array}
use mir.Raw.{raw as bare}
use types.Logic.{Logic, sem, lfts}
use types.Kit.{‵, raw, later, await, ◌⊛◌, ◌$◌, !, qed, drop, use2, split, fsplit, updating, now}
use types.Kit.{done}
use denote.RattleType.{RattleType, RowLaws}
use denote.Memory.{lone, part_at, shared_of}
use denote.Param.Laws.{Laws}
use denote.RawPtr.{Ptr, block_ptr, null_ptr}
use denote.Sharing.{ShrLaws, nothing, said, beside}
use denote.Slice.{elements_shared, elements_shr_laws}
use denote.SharingLaws.{beside_shr_laws, said_shr_laws}
use denote.Shares.{Shares-less}
use denote.Struct.Lending.{Lends, Lends-both, Lends-nothing, Lends-said, Lends-false, Lends-first}
use Rattle.span_ring.specs.Places.{items_own, small, places_own, places_lent}

-- What a `&` to the places holds satisfies the laws of shared references.
pub places_laws : (R : RattleType) → RowLaws R
    → (p : Ptr) (before : ℕ) (xs : List R.Denot) (after : ℕ)
    → ShrLaws (places_lent R p before xs after)
places_laws R laws (block_ptr b o) before xs after =
    beside_shr_laws _ _ (said_shr_laws (small R before xs after) tt)
    (elements_shr_laws R laws xs b (before * type_size R + o))
places_laws R laws null_ptr before xs after = said_shr_laws ffalse tt

-- A pair of parts lends what its second part lends; the first part is given up for the lifetime.
Lends-second : {M : Type 1} {𝓤 : Ura M} (𝓛 : Logic 𝓤) (F G : Fml) (t : Lft → Fml) (l : Lft)
    → Lends 𝓛 G t l → Lends 𝓛 (fsep F G) t l
Lends-second {𝓤 = 𝓤} 𝓛 F G t l lends κ ts inc sp =
    qed 𝓛 (‵ (fbor κ (fsep F G)) ∷ raw (lfts 𝓛 ts) ∷ [])
    {P = 𝓛.H.⇛ (sep 𝓤 (sem 𝓛 (t κ)) (lfts 𝓛 ts))} (
    updating ! $
    use2 𝓛 (later (‵ (beside nothing t κ) ⊛ raw (lfts 𝓛 ts)))
    (Lends-both 𝓛 F G nothing t l (Lends-nothing 𝓛 F l) lends κ ts inc sp) $
    await ! tt $ split ! $
    fsplit ! $ drop ! $ now ! $ done !)

module _ {M : Type 1} {𝓤 : Ura M} (𝓛 : Logic 𝓤) (l : Lft) (R : RattleType) (L : Laws R)
    (inc : Incl l R.lives) where
  Lends-items : (b o : ℕ) (xs : List R.Denot)
      → Lends 𝓛 (items_own R b o xs) (elements_shared R xs b o) l
  Lends-items b o [] = Lends-nothing 𝓛 ftrue l
  Lends-items b o (x ∷ xs) =
      Lends-both 𝓛 (part_at R _ x b o) (items_own R b (o + type_size R) xs) (shared_of R x b o)
      (elements_shared R xs b (o + type_size R)) l
      (λ κ ts. Shares-less 𝓛 R R.lives l inc (L.shares 𝓛) x κ ts b o)
      (Lends-items b (o + type_size R) xs)

  module _ (b o before : ℕ) (xs : List R.Denot) (after : ℕ) where
    abbrev Items : Fml
    Items = items_own R b (before * type_size R + o) xs

    abbrev Rest : Fml
    Rest =
        fsep Items
        (froom (bare (ty_array (lone R.mir) after)) b ((before + length xs) * type_size R + o))

    abbrev Seen : Lft → Fml
    Seen = elements_shared R xs b (before * type_size R + o)

  -- The places lend their items, and the room stays unused for the lifetime.
  pub Lends-places : (p : Ptr) (before : ℕ) (xs : List R.Denot) (after : ℕ)
      → Lends 𝓛 (places_own R p before xs after) (places_lent R p before xs after) l
  Lends-places (block_ptr b o) before xs after =
      Lends-both 𝓛 (small R before xs after) _ (said (small R before xs after))
      (Seen b o before xs after) l (Lends-said 𝓛 (small R before xs after) tt l)
      (Lends-second 𝓛 (froom (bare (ty_array (lone R.mir) before)) b o) (Rest b o before xs after)
      (Seen b o before xs after) l
      (Lends-first 𝓛 (Items b o before xs after) _ (Seen b o before xs after) l
      (Lends-items b (before * type_size R + o) xs)))
  Lends-places null_ptr before xs after = Lends-false 𝓛 (said ffalse) l

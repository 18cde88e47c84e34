-- What the places of a segment own and lend: items side by side, and room before and after them.
use Rattle.std.specs.Prelude.{ℕ, ◌+◌, ◌*◌, ◌^◌, List, [], ◌∷◌, length}
use Rattle.std.specs.Mem.{type_size}
use base.Fraction.{full_share}
use base.Fml.{Lft, Fml, ftrue, ffalse, fsep, flt, froom}
use mir.Syntax.{ty_array}
use mir.Raw.{raw}
use denote.RattleType.{RattleType}
use denote.Memory.{lone, part_at}
use denote.Sharing.{said, beside}
use denote.Slice.{elements_shared}
use denote.RawPtr.{Ptr, block_ptr, null_ptr}

module _ (R : RattleType) where
  -- items side by side, from the byte o of the block b on
  abbrev pub items_own : ℕ → ℕ → List R.Denot → Fml
  items_own b o [] = ftrue
  items_own b o (x ∷ xs) = fsep (part_at R full_share x b o) (items_own b (o + type_size R) xs)

  -- all the places take fewer than 2 ^ 63 bytes
  abbrev pub small : ℕ → List R.Denot → ℕ → Fml
  small before xs after = flt ((before + length xs + after) * type_size R) (2 ^ 63)

  -- room for `before` items, the items, and room for `after` more
  abbrev pub places_own : Ptr → ℕ → List R.Denot → ℕ → Fml
  places_own (block_ptr b o) before xs after =
      fsep (small before xs after) (fsep (froom (raw (ty_array (lone R.mir) before)) b o)
      (fsep (items_own b (before * type_size R + o) xs)
      (froom (raw (ty_array (lone R.mir) after)) b ((before + length xs) * type_size R + o))))
  places_own null_ptr before xs after = ffalse

  -- what a `&` to them holds: what one to the items, as a slice, does
  abbrev pub places_lent : Ptr → ℕ → List R.Denot → ℕ → Lft → Fml
  places_lent (block_ptr b o) before xs after =
      beside (said (small before xs after)) (elements_shared R xs b (before * type_size R + o))
  places_lent null_ptr before xs after = said ffalse

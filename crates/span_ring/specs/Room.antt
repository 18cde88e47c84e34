-- What a `Vec` owns and lends whose room is out.
use Rattle.std.specs.Prelude.{◌≡◌, zero, ◌*◌, ◌^◌, ◌<◌, ◌≤◌, [], ◌∷◌, length}
use native.Mathlib.Bridge.{le_prop}
use native.Mathlib.Nat.{ℕ_set}
use mathlib.Core.HLevel.{is_prop→PathP}
use base.Stored.{Coded, coded×, coded_ℕ, coded_list, coded_via}
use denote.RawPtr.{coded_ptr}
use Rattle.std_alloc.specs.declared.vec.Vec.{Vec}
use Rattle.std.specs.Mem.{type_size}
use base.Fml.{Fml, fsep, flt}
use mir.Syntax.{ty_array}
use mir.Raw.{raw}
use denote.RattleType.{RattleType}
use denote.Memory.{lone}
use denote.RawPtr.{in_block}
use denote.Struct.Struct.{Struct}
use denote.Struct.Owning.{lending, row}
use Rattle.std.specs.declared.alloc.Allocator.{Ghosts}
use Rattle.std_alloc.specs.Vec.Ownership.{owns_if, has_block, vec_shares}
use Rattle.std_alloc.specs.contracts.vec.Vec as V

-- a `Vec` is stored as the tuple of its fields
abbrev pub vec_code : {X A : Type 0} → Coded X → Coded A → Coded (Vec X A)
vec_code x a =
    coded_via (coded× coded_ptr (coded× coded_ℕ (coded× coded_ℕ (coded× a (coded_list x)))))
    (λ v. (v.ptr, (v.len, (v.cap, (v.alloc, v.items)))))
    (λ v w e i. record {
      ptr = (e i).0;
      len = (e i).1.0;
      cap = (e i).1.1.0;
      alloc = (e i).1.1.1.0;
      items = (e i).1.1.1.1;
      ok = is_prop→PathP (λ j. ((e j).1.0 ≡ length (e j).1.1.1.1) × ((e j).1.0 ≤ (e j).1.1.0))
          (λ j p q k. (ℕ_set _ _ p.0 q.0 k, le_prop p.1 q.1 k)) v.ok w.ok i;
      small = is_prop→PathP (λ j. (e j).1.1.0 < 2 ^ 63) (λ j. le_prop) v.small w.small i;
    })

module _ (R P : RattleType) (g : Ghosts P.Denot) where
  -- the right to free the room
  abbrev pub frees : (V.the_row R P g).Denot → Fml
  frees v =
      fsep (flt (v.cap * type_size R) (2 ^ 63)) (in_block v.ptr
      (owns_if (has_block v.cap)
      (g.dealloc_token v.alloc (raw (ty_array (lone R.mir) v.cap)) v.ptr)))

  -- a `Vec` but for its items and its room
  abbrev pub Emptied : RattleType
  Emptied =
      row (lending (V.struct R P g) (V.the_codes R.Denot P.Denot R.coded P.coded) frees
      (λ v _ κ. vec_shares R v.ptr zero v.cap [] κ))

  -- a struct of one such
  abbrev pub Wrapped : RattleType
  Wrapped = Struct (record { name = []; args = []; types = []; fields = Emptied ∷ [] })

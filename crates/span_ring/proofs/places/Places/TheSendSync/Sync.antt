-- What a `&` to the places holds is what one to each item holds.
use Rattle.std.proofs.Common.{ℕ, ◌+◌, ◌*◌, List, [], ◌∷◌}
use base.Fml.{Lft}
use base.Shift.{Keyless}
use denote.Param.Send.{IsSync, struct_sync, sendable}
use denote.RattleType.{RattleType}
use denote.RawPtr.{Ptr, block_ptr, null_ptr}
use denote.Slice.{elements_shared}
use denote.Struct.Owning.{shape, to}
use Rattle.std.specs.Mem.{type_size}
use Rattle.span_ring.specs.Places.{places_lent}
use Rattle.span_ring.specs.contracts.places.Places as places

module _ (R : RattleType) (item : IsSync R) (κ : Lft) where
  items_sync : (b o : ℕ) (xs : List R.Denot) → Keyless (elements_shared R xs b o κ)
  items_sync b o [] = tt
  items_sync b o (x ∷ xs) = (item.shared x b o κ, items_sync b (o + type_size R) xs)

  places_sync : (p : Ptr) (before : ℕ) (xs : List R.Denot) (after : ℕ)
      → Keyless (places_lent R p before xs after κ)
  places_sync (block_ptr b o) before xs after = (tt, items_sync b (before * type_size R + o) xs)
  places_sync null_ptr before xs after = tt

-- Places are `Sync` where their items are.
pub sync : (R : RattleType) → IsSync R → IsSync (places.the_row R)
sync R item = let O = places.the_type R in record {
  shared = λ d b o κ. (
    (struct_sync (shape O) (search sendable, tt)).shared (to O d) b o κ,
    places_sync R item κ d.at d.before d.items d.after,
  );
}

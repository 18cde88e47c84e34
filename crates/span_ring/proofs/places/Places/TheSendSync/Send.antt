-- What the places own is what their items own, and room.
use Rattle.std.proofs.Common.{ℕ, ◌+◌, ◌*◌, List, [], ◌∷◌}
use base.Fraction.{full_share}
use base.Shift.{Keyless}
use denote.Param.Send.{IsSend, AllSend, part_keyless, owning_send, struct_send, sendable}
use denote.RattleType.{RattleType}
use denote.RawPtr.{Ptr, block_ptr, null_ptr}
use denote.Struct.Owning.{shape, fields, to}
use denote.Struct.Struct.{exits_of}
use Rattle.std.specs.Mem.{type_size}
use Rattle.std_alloc.proofs.SendSync.{quiet}
use Rattle.span_ring.specs.Places.{items_own, places_own}
use Rattle.span_ring.specs.contracts.places.Places as places

module _ (R : RattleType) (item : IsSend R) where
  items_send : (b o : ℕ) (xs : List R.Denot) → Keyless (items_own R b o xs)
  items_send b o [] = tt
  items_send b o (x ∷ xs) =
      (part_keyless R item full_share x b o, items_send b (o + type_size R) xs)

  places_send : (p : Ptr) (before : ℕ) (xs : List R.Denot) (after : ℕ)
      → Keyless (places_own R p before xs after)
  places_send (block_ptr b o) before xs after =
      (tt, (tt, (items_send b (before * type_size R + o) xs, tt)))
  places_send null_ptr before xs after = tt

-- Places are `Send` where their items are.
pub send : (R : RattleType) → IsSend R → IsSend (places.the_row R)
send R item = let O = places.the_type R in let all : AllSend (fields O) = (search sendable, tt) in
    owning_send O all (λ d. places_send R item d.at d.before d.items d.after)
    (λ k. quiet (to O) (exits_of k (fields O)) ((struct_send (shape O) all).leaving k))

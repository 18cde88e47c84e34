-- What the owner of a room owns is the allocator, and the right to free the room.
use Rattle.std.proofs.Common.{Bool, true, false, [], ◌∷◌}
use base.Fml.{Fml}
use base.Shift.{Keyless}
use denote.Builtin.{RawPtr, usize}
use denote.Param.Send.{IsSend, AllSend, Frees, owning_send, struct_send, sendable}
use denote.RattleType.{RattleType}
use denote.RawPtr.{Ptr, block_ptr, null_ptr, in_block}
use denote.Struct.Owning.{shape, fields, to}
use denote.Struct.Struct.{exits_of}
use Rattle.std.specs.declared.alloc.Allocator.{Ghosts}
use Rattle.std_alloc.proofs.SendSync.{quiet}
use Rattle.std_alloc.specs.Vec.Ownership.{owns_if, has_block}
use Rattle.span_ring.specs.Room.{Emptied}
use Rattle.span_ring.proofs.Owners.{emptied}
use Rattle.span_ring.specs.contracts.room.RoomOwner as owner

right_send : (p : Ptr) (y : Bool) (F : Fml) → Keyless F → Keyless (in_block p (owns_if y F))
right_send (block_ptr b o) true F right = right
right_send (block_ptr b o) false F right = tt
right_send null_ptr y F right = tt

pointer_send : IsSend RawPtr
pointer_send = search sendable

count_send : IsSend usize
count_send = search sendable

-- The owner of a room is `Send` where its allocator is.
pub send : (R A : RattleType) (g : Ghosts A.Denot) → IsSend A → Frees g g.dealloc_token
    → IsSend (owner.the_row R A g)
send R A g alloc frees =
    let O = emptied R A g in
    let all : AllSend (fields O) = (pointer_send, (count_send, (count_send, (alloc, tt)))) in
    let words : IsSend (Emptied R A g) =
    owning_send O all
    (λ v. (tt, right_send v.ptr (has_block v.cap) _ (frees.frees v.alloc _ v.ptr)))
    (λ k. quiet (to O) (exits_of k (fields O)) ((struct_send (shape O) all).leaving k)) in
    record {
      owned = λ v vs. (
        (λ _. tt),
        (struct_send (record { name = []; args = []; types = []; fields = Emptied R A g ∷ [] })
            (words, tt)).owned
            (v, tt) vs,
      );
      leaving = λ k v w. tt;
    }

-- What a `&` to the owner of a room holds is what one to the allocator holds, and the address.
use Rattle.std.proofs.Common.{[], ◌∷◌}
use base.Fml.{ftrue}
use base.Shift.{Keyless}
use denote.Builtin.{RawPtr, usize}
use denote.Param.Send.{IsSync, struct_sync, sendable}
use denote.RattleType.{RattleType}
use denote.RawPtr.{Ptr, block_ptr, null_ptr, in_block}
use denote.Struct.Owning.{shape, to}
use Rattle.std.specs.declared.alloc.Allocator.{Ghosts}
use Rattle.span_ring.specs.Room.{Emptied}
use Rattle.span_ring.proofs.Owners.{emptied}
use Rattle.span_ring.specs.contracts.room.RoomOwner as owner

there : (p : Ptr) → Keyless (in_block p ftrue)
there (block_ptr b o) = tt
there null_ptr = tt

pointer_sync : IsSync RawPtr
pointer_sync = search sendable

count_sync : IsSync usize
count_sync = search sendable

-- The owner of a room is `Sync` where its allocator is.
pub sync : (R A : RattleType) (g : Ghosts A.Denot) → IsSync A → IsSync (owner.the_row R A g)
sync R A g alloc =
    let O = emptied R A g in
    let words : IsSync (Emptied R A g) = record {
      shared = λ v b o κ. (
        (struct_sync (shape O) (pointer_sync, (count_sync, (count_sync, (alloc, tt))))).shared
            (to O v) b o κ,
        (tt, (there v.ptr, (tt, tt))),
      );
    } in
    record {
      shared =
          λ v. (struct_sync
          (record { name = []; args = []; types = []; fields = Emptied R A g ∷ [] })
          (words, tt)).shared
          (v, tt);
    }

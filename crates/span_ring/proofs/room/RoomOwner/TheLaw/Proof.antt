-- A `&` to it is one to the words of a `Vec`.
use Rattle.std.proofs.Common.{[], ◌∷◌}
use denote.RattleType.{RattleType}
use denote.Memory.{part_of}
use denote.Param.Laws.{Laws}
use denote.Param.Shared.{parts_share, parts_row_laws}
use denote.Struct.Owning.{field}
use denote.Struct.Field.{rows}
use denote.Struct.Struct.{Struct-row_laws}
use Rattle.std.specs.declared.alloc.Allocator.{Ghosts}
use Rattle.span_ring.specs.contracts.room.RoomOwner.TheInside as inside
use Rattle.span_ring.proofs.Owners.{emptied, emptied_shared}
use Rattle.span_ring.proofs.room.RoomOwner.TheLaw.Statement.{statement}

-- A `&` to the owner of a room satisfies the law of its type.
pub shares : (R P : RattleType) (g : Ghosts P.Denot) (L : Laws R) (K : Laws P) → statement R P g L K
unfolding part_of
shares R P g L K =
    let parts = field (emptied R P g) ∷ [] in let it = inside.the_type R P g in record {
      shr_laws =
          λ v b o. Struct-row_laws
          (record { name = it.name; args = it.args; types = it.types; fields = rows parts })
          (parts_row_laws parts (emptied_shared R P g L K, tt)) (v, tt) b o;
      shares =
          λ M 𝓤 𝓛 v.
          parts_share 𝓛 parts it.name it.args it.types (emptied_shared R P g L K, tt) (v, tt);
    }

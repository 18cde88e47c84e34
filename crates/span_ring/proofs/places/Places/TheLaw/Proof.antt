-- A `&` to the places reaches each item.
use Rattle.std.proofs.Common.{[], ◌++◌}
use base.Fml.{Incl-trans}
use contract.BorrowLft.{meet_⊑_left}
use denote.RattleType.{RattleType}
use denote.Param.Laws.{Laws}
use denote.Struct.Lending.{of_Lends}
use denote.RawPtr.{RawPtr}
use denote.Param.Shared.{copy_shared}
use denote.Struct.Laws.{field_copy}
use Rattle.std.specs.contracts.marker.PhantomData as marker
use Rattle.span_ring.specs.contracts.places.Places as C
use Rattle.span_ring.proofs.PlacesLaws.{places_laws, Lends-places}
use Rattle.span_ring.proofs.places.Places.TheLaw.Statement.{statement}

-- A `&` to the places satisfies the law of its type.
pub shares : (R : RattleType) (L : Laws R) → statement R L
shares R L =
    of_Lends (C.struct R) (C.the_codes R.Denot R.coded (marker.the_row RawPtr).coded) (C.the_heap R)
    (C.the_lent R)
    (λ d p. places_laws R L.shr_laws d.at d.before d.items d.after)
    (copy_shared (marker.the_field RawPtr) (field_copy (marker.the_type RawPtr) tt), tt)
    (λ M 𝓤 𝓛 d p. Lends-places 𝓛 (C.the_row R).lives R L
    (Incl-trans (meet_⊑_left (R.lives ++ []) _) (meet_⊑_left R.lives [])) d.at d.before d.items
    d.after)

-- The laws of a `Vec` whose room is out: a `&` to it shows its words.
use Prim.Native.Nat.{ℕ, zero, ◌*◌, ◌^◌}
use Rattle.std.proofs.Common.{T, [], ◌∷◌, refl}
use lib.Dec.{lit<}
use mir.Syntax.{ty_ptr}
use mir.Val.{has_ty, WT}
use seplogic.Ra.Ura.{Ura}
use base.Logic.{sep}
use base.Fml.{Lft, Fml, flt, fbor}
use types.Logic.{Logic, sem, lfts}
use types.Kit.{‵, raw, ◌$◌, !, qed, drop, fjoin, feq_i, updating, done}
use types.Kit.{now as at_once}
use denote.RattleType.{RattleType}
use denote.Steps.{nothing}
use denote.Array.{Array}
use denote.Sharing.{said}
use denote.RawPtr.{Ptr, block_ptr, null_ptr, ptr_val, in_block}
use denote.Param.Laws.{Laws, row_shared}
use denote.Param.Shared.{Sharable, copy_shared}
use denote.Struct.Field.{RawPtr-field, usize-field}
use denote.Struct.Laws.{RawPtr-copy, usize-copy}
use denote.Struct.Lending.{lent_at, Lends, Lends-false, Lends-said, Lends-both, Law, of_Lends}
use denote.Struct.Lending.{lending_shared}
use denote.Struct.Owning.{Owning, lending, field}
use Rattle.std.specs.declared.alloc.Allocator.{Ghosts}
use Rattle.std.specs.Mem.{type_size}
use Rattle.std_alloc.proofs.SharedLaws.{lent_shr_laws}
use Rattle.std_alloc.specs.Vec.Ownership.{vec_shares}
use Rattle.std_alloc.specs.contracts.vec.Vec as V
use Rattle.span_ring.specs.Room.{frees, Emptied}

module _ (R : RattleType) {M : Type 1} {𝓤 : Ura M} (𝓛 : Logic 𝓤) (l : Lft) where
  open 𝓛 use {H, A}

  -- of a block, that it is there is seen for ever
  Lends-block : (p : Ptr) (F : Fml) → Lends 𝓛 (in_block p F) (lent_at (Array R zero) p []) l
  Lends-block null_ptr F κ ts inc sp =
      Lends-false 𝓛 (lent_at (Array R zero) null_ptr []) l κ ts inc sp
  Lends-block (block_ptr b o) F κ ts inc sp =
      qed 𝓛 (‵ (fbor κ F) ∷ raw (lfts 𝓛 ts) ∷ [])
      {P = H.⇛ (sep 𝓤 (sem 𝓛 (lent_at (Array R zero) (block_ptr b o) [] κ)) (lfts 𝓛 ts))} (
      updating ! $ drop ! $ nothing ! $ feq_i ! ℕ zero zero refl $ fjoin ! $ nothing ! $ fjoin ! $
      at_once ! $ done !)

module _ (R P : RattleType) (g : Ghosts P.Denot) where
  abbrev pub emptied : Owning
  emptied =
      lending (V.struct R P g) (V.the_codes R.Denot P.Denot R.coded P.coded) (frees R P g)
      (λ v _ κ. vec_shares R v.ptr zero v.cap [] κ)

  -- A `Vec` without its room is a type that can be owned and lent.
  pub emptied_law : Laws R → Laws P → Law (Emptied R P g)
  emptied_law L K =
      of_Lends (V.struct R P g) (V.the_codes R.Denot P.Denot R.coded P.coded) (frees R P g)
      (λ v _ κ. vec_shares R v.ptr zero v.cap [] κ)
      (λ d p. lent_shr_laws R L.shr_laws d.ptr zero d.cap []) (
        copy_shared RawPtr-field RawPtr-copy,
        (
          copy_shared usize-field usize-copy,
          (copy_shared usize-field usize-copy, (row_shared P K, tt)),
        ),
      )
      (λ M 𝓤 𝓛 d p.
      let l = (Emptied R P g).lives in let fits = flt (d.cap * type_size R) (2 ^ 63) in
      Lends-both 𝓛 fits (in_block d.ptr _) (said fits) (lent_at (Array R zero) d.ptr []) l
      (Lends-said 𝓛 fits tt l) (Lends-block R 𝓛 l d.ptr _))

  -- A `Vec` without its room can be shared as a field of a struct.
  pub emptied_shared : Laws R → Laws P → Sharable (field emptied)
  emptied_shared L K = lending_shared emptied (emptied_law L K)

-- Every pointer is a well-typed machine value.
pub ptr_good : (p : Ptr) → T (has_ty ty_ptr (ptr_val p)) × WT (ptr_val p)
ptr_good (block_ptr b o) = (tt, tt)
ptr_good null_ptr = (tt, record { fits = lit< tt })

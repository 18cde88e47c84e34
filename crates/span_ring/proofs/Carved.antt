-- A `Vec` without items is its room, and the rest of it.
use Rattle.std.proofs.Common.{◌≡◌, ◌∙◌, ℕ, zero, ◌+◌, ◌-◌, ◌*◌, ◌^◌, ◌<◌, Bool, true, false, not, T}
use Rattle.std.proofs.Common.{List, [], ◌∷◌, length, arith, refl, sym, ap, subst}
use native.Mathlib.Nat.{zero-mul}
use lib.Dec.{eqb, eqb→eq}
use seplogic.Ra.Ura.{Ura}
use base.Fraction.{full_share}
use base.Logic.{ent, sep, emp, never, id⊢}
use base.Fml.{Fml, froom}
use mir.Syntax.{Ty, ty_array}
use mir.Raw.{raw as bare}
use mir.Val.{Val, vstruct, vcons, vnil}
use prog.Memory.{size}
use types.Logic.{Logic, sem}
use types.Kit.{‵, ◌⊛◌, ◌$◌, ◌∵◌, !, qed, move, drop, use0, use1, use2, split, fsplit, fsplit3}
use types.Kit.{fjoin, feq_i, flt_i, flt_l, fpack, rewrite, done}
use denote.RattleType.{RattleType, Valss}
use denote.Memory.{lone, part_at}
use denote.ArrayMemory.{Array-whole}
use denote.Array.{Array}
use denote.RawPtr.{Ptr, RawPtr, block_ptr, in_block, in_a_block}
use denote.Steps.{nothing}
use denote.Struct.Struct.{Struct, within}
use denote.Struct.Declared as Declared
use Rattle.std.specs.contracts.marker.PhantomData as marker
use denote.Struct.Owning.{shape}
use Rattle.span_ring.specs.contracts.places.Places as places
use Rattle.std.specs.declared.alloc.Allocator.{Ghosts}
use Rattle.std.specs.Allocator.{block_with_items}
use Rattle.std.specs.Mem.{type_size}
use Rattle.std_alloc.specs.Vec.Ownership.{owns_if, has_block}
use Rattle.std_alloc.specs.contracts.vec.Vec as V
use Rattle.span_ring.specs.Room.{Emptied}
use Rattle.span_ring.specs.Places.{places_own}
use Rattle.span_ring.proofs.Rooms.{joined}

abbrev pub one : Val → Val
one u = vstruct (vcons u vnil)

module _ (R : RattleType) (t : Ty → Ptr → Fml) {M : Type 1} {𝓤 : Ura M} (𝓛 : Logic 𝓤)
    (b o c : ℕ) where
  abbrev τ : Ty
  τ = lone R.mir

  abbrev Right : Fml
  Right = t (bare (ty_array τ c)) (block_ptr b o)

  -- the room, and the right to free it
  room_of : (y : Bool) → (y ≡ false → c ≡ 0)
      → ent 𝓤 (sem 𝓛 (owns_if y (block_with_items t R (block_ptr b o) zero c [])))
      (sep 𝓤 (sem 𝓛 (froom (bare (ty_array τ c)) b o)) (sem 𝓛 (owns_if y Right)))
  room_of true none =
      let whole : c - 0 ≡ c = omega arith in
      let here : o + 0 * size τ ≡ o = omega (arith, zero-mul (size τ)) in
      qed 𝓛 (‵ (owns_if true (block_with_items t R (block_ptr b o) zero c [])) ∷ []) ∵
      fsplit3 ! $ drop ! $
      rewrite ! 0 (λ (n : ℕ). ‵ (froom (bare (ty_array τ n)) b (o + 0 * size τ))) whole refl $
      rewrite ! 0 (λ (k : ℕ). ‵ (froom (bare (ty_array τ c)) b k)) here refl $ done !
  room_of false none =
      qed 𝓛 (‵ (owns_if false (block_with_items t R (block_ptr b o) zero c [])) ∷ []) ∵
      use0 𝓛 (‵ (froom (bare (ty_array τ 0)) b o)) (𝓛.laws.room_nil (bare τ) b o) $
      rewrite ! 0 (λ (k : ℕ). ‵ (froom (bare (ty_array τ k)) b o)) (sym (none refl)) refl $ done !

  room_back : (y : Bool)
      → ent 𝓤 (sep 𝓤 (sem 𝓛 (froom (bare (ty_array τ c)) b o)) (sem 𝓛 (owns_if y Right)))
      (sem 𝓛 (owns_if y (block_with_items t R (block_ptr b o) zero c [])))
  room_back true =
      let whole : c ≡ c - 0 = omega arith in
      let here : o ≡ o + 0 * size τ = omega (arith, zero-mul (size τ)) in
      qed 𝓛 (‵ (froom (bare (ty_array τ c)) b o) ∷ ‵ Right ∷ []) ∵
      rewrite ! 0 (λ (n : ℕ). ‵ (froom (bare (ty_array τ n)) b o)) whole refl $
      rewrite ! 0 (λ (k : ℕ). ‵ (froom (bare (ty_array τ (c - 0))) b k)) here refl $ fjoin ! $
      nothing ! $ feq_i ! ℕ zero zero refl $ fjoin ! $
      use1 𝓛 (‵ (part_at (Array R zero) full_share [] b o))
      (Array-whole 𝓛 R full_share zero [] b o) $
      fjoin ! $ done !
  room_back false =
      qed 𝓛 (‵ (froom (bare (ty_array τ c)) b o) ∷ ‵ (owns_if false Right) ∷ []) ∵ drop ! $ done !

not_false : (y : Bool) → not y ≡ false → T y
not_false true e = tt
not_false false e = cc

no_block : (c : ℕ) → has_block c ≡ false → c ≡ 0
no_block c e = eqb→eq c 0 (not_false (eqb c 0) e)

module _ (R P : RattleType) (g : Ghosts P.Denot) {M : Type 1} {𝓤 : Ura M} (𝓛 : Logic 𝓤)
    (v : (V.the_row R P g).Denot) (none : v.items ≡ []) where
  abbrev σ : Ty
  σ = lone R.mir

  abbrev t' : Ty → Ptr → Fml
  t' = g.dealloc_token v.alloc

  abbrev Block : Ptr → ℕ → List R.Denot → Fml
  Block p n xs = owns_if (has_block v.cap) (block_with_items t' R p n v.cap xs)

  abbrev Frees : Ptr → Fml
  Frees p = owns_if (has_block v.cap) (t' (bare (ty_array σ v.cap)) p)

  abbrev s : ℕ
  s = type_size R

  -- A `Vec` without items splits into its room and the rest of it.
  pub room_out : (us : List Val)
      → ent 𝓤 (sem 𝓛 ((V.the_row R P g).own_val v us))
      (sep 𝓤 (sem 𝓛 (places_own R v.ptr 0 [] v.cap)) (sem 𝓛 ((Emptied R P g).own_val v us)))
  room_out us =
      let from_here =
      λ (o : ℕ). let same : o ≡ (0 + 0) * s + o = omega (arith, zero-mul s) in same in
      qed 𝓛 (‵ ((V.the_row R P g).own_val v us) ∷ []) ∵
      fsplit ! $ move ! (1 ∷ []) $ fsplit ! $ flt_l ! (λ fits.
      in_a_block ! v.ptr (λ (p : Ptr). in_block p (Block p v.len v.items)) (id⊢ 𝓤 (never 𝓤))
      (λ b o at.
      rewrite ! 0 (λ (xs : List R.Denot). ‵ (Block (block_ptr b o) v.len xs)) none refl $
      rewrite ! 0 (λ (n : ℕ). ‵ (Block (block_ptr b o) n [])) (v.ok.0 ∙ ap length none) refl $
      use1 𝓛 (‵ (froom (bare (ty_array σ v.cap)) b o) ⊛ ‵ (Frees (block_ptr b o)))
      (room_of R t' 𝓛 b o v.cap (has_block v.cap) (no_block v.cap)) $
      split ! $
      -- [the room; the right to free it; the words]
      rewrite ! 0 (λ (k : ℕ). ‵ (froom (bare (ty_array σ v.cap)) b k)) (from_here o) refl $
      nothing ! $ fjoin ! $
      use0 𝓛 (‵ (froom (bare (ty_array σ 0)) b o)) (𝓛.laws.room_nil (bare σ) b o) $ fjoin ! $
      flt_i ! ((0 + 0 + v.cap) * s) (2 ^ 63)
      (subst (λ (n : ℕ). n * s < 2 ^ 63) {x = v.cap} (omega arith) fits) $
      fjoin ! $
      rewrite ! 0 (λ (p : Ptr). ‵ (places_own R p 0 [] v.cap)) (sym at) refl $ move ! (1 ∷ []) $
      rewrite ! 0 (λ (p : Ptr). ‵ (in_block p (Frees p))) (sym at) refl $
      flt_i ! (v.cap * s) (2 ^ 63) fits $ fjoin ! $ move ! (2 ∷ 0 ∷ []) $ fjoin ! $
      move ! (1 ∷ 0 ∷ []) $ done !))

  -- The room of a `Vec` and the rest of it are the `Vec` without items again.
  pub room_in : (before after : ℕ) → before + after ≡ v.cap → (us : List Val)
      → ent 𝓤
      (sep 𝓤 (sem 𝓛 (places_own R v.ptr before [] after)) (sem 𝓛 ((Emptied R P g).own_val v us)))
      (sem 𝓛 ((V.the_row R P g).own_val v us))
  room_in before after whole us =
      qed 𝓛 (‵ (places_own R v.ptr before [] after) ∷ ‵ ((Emptied R P g).own_val v us) ∷ []) ∵
      move ! (1 ∷ []) $ fsplit ! $ move ! (1 ∷ []) $ fsplit ! $ flt_l ! (λ fits. move ! (2 ∷ []) $
      -- [the places; the right to free them; the words]
      in_a_block ! v.ptr (λ (p : Ptr). places_own R p before [] after) (id⊢ 𝓤 (never 𝓤)) (λ b o at.
      fsplit ! $ drop ! $ fsplit ! $ move ! (1 ∷ []) $ fsplit ! $ drop ! $ move ! (1 ∷ 0 ∷ []) $
      use2 𝓛 (‵ (froom (bare (ty_array σ (before + after))) b o))
      (joined 𝓛 b σ before after o ((before + 0) * s + o)
      (let same : before + 0 ≡ before = omega arith in ap (λ (n : ℕ). n * s + o) same)) $
      rewrite ! 0 (λ (n : ℕ). ‵ (froom (bare (ty_array σ n)) b o)) whole refl $ move ! (1 ∷ []) $
      rewrite ! 0 (λ (p : Ptr). ‵ (in_block p (Frees p))) at refl $ move ! (1 ∷ 0 ∷ []) $
      use2 𝓛 (‵ (Block (block_ptr b o) 0 [])) (room_back R t' 𝓛 b o v.cap (has_block v.cap)) $
      rewrite ! 0 (λ (n : ℕ). ‵ (Block (block_ptr b o) n [])) (sym (v.ok.0 ∙ ap length none)) refl $
      rewrite ! 0 (λ (xs : List R.Denot). ‵ (Block (block_ptr b o) v.len xs)) (sym none) refl $
      rewrite ! 0 (λ (p : Ptr). ‵ (in_block p (Block p v.len v.items))) (sym at) refl $
      flt_i ! (v.cap * s) (2 ^ 63) fits $ fjoin ! $ move ! (1 ∷ 0 ∷ []) $ fjoin ! $ done !))

-- the machine values of `Places`, and of a pair
abbrev pub mark : Val
mark = one (vstruct vnil)

abbrev pub two : Val → Val → Val
two u w = vstruct (vcons u (vcons w vnil))

-- The mark in `Places` has no bytes, so it is made of nothing.
pub mark_made : (R : RattleType) {M : Type 1} {𝓤 : Ura M} (𝓛 : Logic 𝓤)
    → ent 𝓤 (emp 𝓤) (sem 𝓛 ((Struct (shape (places.the_type R))).own_val (tt, tt) (mark ∷ [])))
mark_made R 𝓛 = let Mark : RattleType = marker.the_row RawPtr in let none : Val = vstruct vnil in
    qed 𝓛 [] ∵
    nothing ! $ feq_i ! (List Val) (none ∷ []) (none ∷ []) refl $ fjoin ! $
    fpack ! (Valss []) (within (Declared.shape (marker.the_type RawPtr)) tt (none ∷ [])) tt $
    nothing ! $ move ! (1 ∷ 0 ∷ []) $ fjoin ! $ feq_i ! (List Val) (mark ∷ []) (mark ∷ []) refl $
    fjoin ! $
    fpack ! (Valss (Mark ∷ [])) (within (shape (places.the_type R)) (tt, tt) (mark ∷ []))
    (none ∷ [], tt) $
    done !

-- `write` puts an item into the first place after the others.
use Rattle.std.proofs.Common.{◌≡◌, ◌∙◌, ℕ, ◌+◌, ◌-◌, ◌*◌, ◌^◌, ◌<◌, List, [], ◌∷◌, ◌++◌, suc}
use Rattle.std.proofs.Common.{length, arith, refl, sym, ap, subst}
use Rattle.std.proofs.raw_atomic.Walks.{proved_at, leaves}
use Rattle.std.proofs.alloc.Calls.{Goes-blank, handle_tells}
use base.Fml.{ftrue, flft, fat, froom}
use base.Fraction.{full_share}
use base.Logic.{SProp, ent, emp, never, id⊢}
use contract.BorrowLft.{◌⊑◌}
use contract.Monad.{fact, fact_i}
use contract.Running.{tables}
use denote.Builtin.{RawPtr, usize}
use denote.Exit.{yes, no}
use denote.Param.{param, layout, layouts}
use denote.RattleType.{RattleType, owns}
use denote.RawPtr.{Ptr, ptr_val, in_a_block}
use denote.Signature.{plain, types_at}
use denote.Steps.{nothing, heard, opens, closes}
use denote.Triple.Walked.{Stays, stay_dropped, stay_ref, walk_of, Goes-ref, Goes-dropped}
use denote.Memory.{part_at}
use native.Mathlib.Nat.{one-mul}
use Rattle.std.proofs.lemmas.List.{length_push}
use Rattle.std.proofs.Math.Nat.{add-mul}
use borrow.Table.OneValue.{part_in}
use mir.MapTy.{inst_fn}
use mir.Raw.{raw as bare}
use mir.Syntax.{given as given_at, a_type, w64, ty_ptr, ty_array}
use mir.Val.{Val, vptr, vint, vunit}
use prog.Memory.{size}
use prog.Wp.{Env, WpFn}
use types.ByLocal.{alloc_all, pass_all, free_all, look_at, get, through, sets, take_at, give_at}
use types.ByLocal.{env}
use types.Kit.{‵, raw, ◌⊛◌, at_ret, ◌$◌, ◌∵◌, !, qed, by, move, keep, drop, use0, use1, use2, split}
use types.Kit.{join, fsplit, fsplit3, fjoin, fjoin3, rewrite, feq_i, feq_l, flt_i, flt_l, suffices}
use types.Run.{enter, of_opd, bin, size_lit, unit_lit, assigns_last, init, stop, first, blocks}
use types.Run.{exec, returns}
use Rattle.span_ring.proofs.Owners.{ptr_good}
use Rattle.span_ring.proofs.Rooms.{one_more, shorter, within_all}
use Rattle.span_ring.specs.Places.{items_own, places_own}
use Rattle.span_ring.specs.contracts.places.Places as places
use Rattle.span_ring.specs.contracts.places.Places.write.{ended, clauses}
use Rattle.span_ring.specs.contracts.places.Places.write.Key.{name as #self}
use Rattle.span_ring.proofs.places.Places.write.Statement.{statement}
use Rattle.span_ring.proofs.places.Places.write.Code as code

-- The machine code of `write` satisfies its contract.
pub write_spec : {M : Type 1} → statement M
write_spec 𝓤 𝓛 𝓜 𝓡 wired X L =
    let H = 𝓛.H in
    let 𝓣 = tables 𝓤 H 𝓜 𝓡 𝓡.env in
    let R : RattleType = param 0 X in
    let O : RattleType = places.the_row R in
    let τ = layout X in
    let s = size τ in
    let En = ended X in
    let c = clauses X 𝓛 𝓜.mem 𝓡.returns in
    let args = layouts (a_type ∷ []) (X, tt) in
    let fn = inst_fn args code.function in
    let hs : Stays En.signature.params En.kept = (
      stay_ref (0 ∷ []) tt (plain (λ _. O)),
      (
        stay_dropped (plain (λ _. RawPtr)) yes,
        (stay_dropped (plain (λ _. usize)) yes, (stay_dropped (plain (λ _. R)) no, tt)),
      ),
    ) in
    proved_at 𝓛 En hs c 𝓜 𝓡 (
      Goes-ref 𝓛 2 0 tt (plain (λ _. O)),
      (
        Goes-blank 𝓛 2 (plain (λ _. RawPtr)) yes (λ κs x f. tt),
        (
          Goes-blank 𝓛 2 (plain (λ _. usize)) yes (λ κs x f. tt),
          (Goes-dropped 𝓛 2 (plain (λ _. R)) no (λ κs x f. refl), tt),
        ),
      ),
    )
    (#self args) fn (code.unfolded 𝓤 H 𝓜 𝓡 wired (X, tt)) (λ z are.
    let κ = z.0.0.0 in let κ₁ = z.0.0.1.0 in let q = z.0.1.0 in let q₁ = z.0.1.1.0 in
    let rb = z.0.3.0.ref_ptr.0 in
    let ro = z.0.3.0.ref_ptr.1 in
    let d = z.0.3.0.now in
    let p = z.0.3.1.0 in
    let i = z.0.3.1.1.0 in
    let x = z.0.3.1.1.1.0 in
    let us = z.0.4 in
    let Post : Val → SProp 𝓤 = (walk_of 𝓛 En hs c).post z in
    let Run : List Val → SProp 𝓤 = λ ws. WpFn 𝓤 H 𝓣.C 𝓣.Λ fn ws Post in
    let asked =
    raw (fact 𝓤 (p ≡ d.at)) ⊛ raw (fact 𝓤 (i ≡ d.before + length d.items))
    ⊛ raw (fact 𝓤 (0 < d.after)) in
    qed 𝓛
    (((‵ (flft κ q) ⊛ ‵ (flft κ₁ q₁) ⊛ ‵ ftrue)
    ⊛ ‵ (owns (types_at En.signature.params z.0.0) z.0.3 us))
    ∷ (raw (fact 𝓤 (κ₁ ⊑ X.lives)) ⊛ asked) ∷ []) ∵
    move ! (1 ∷ []) $ split ! $ drop ! $ split ! $
    heard ! (p ≡ d.at)
    (λ at.
    split ! $ heard ! (i ≡ d.before + length d.items) (λ index. heard ! (0 < d.after) (λ some_room.
    let left = d.after - 1 in let xs : List X.Denot = d.items ++ x ∷ [] in
    let new : O.Denot =
    record { mark = d.mark; at = d.at; before = d.before; items = xs; after = left } in
    let one_place : d.after ≡ suc left = omega arith in
    let as_many : d.before + length d.items + d.after ≡ d.before + length xs + left =
    omega (arith, length_push d.items x) in
    split ! $ move ! (1 ∷ []) $ fsplit ! $ fsplit3 ! $
    feq_l !
    (λ e₀. move ! (2 ∷ []) $ fsplit ! $
    feq_l ! (λ e₁. fsplit ! $ fsplit ! $ feq_l ! (λ e₂. flt_l ! (λ fits. fsplit ! $
    handle_tells (record {
      row = X;
      laws = L;
      g = record { dealloc_token = λ _ _ _. ftrue };
      d = given_at 0;
      drops = given_at 0;
    })
    ! x us.1.1.1.0
    (λ w e₃ good.
    move ! (4 ∷ []) $ split ! $ keep ! (4 ∷ 5 ∷ 0 ∷ 1 ∷ 2 ∷ []) $
    let now = vptr rb ro ∷ ptr_val p ∷ vint w64 i ∷ w ∷ [] in
    suffices ! (Run now)
    (subst (λ (ws : List Val × List Val × List Val × List Val).
    ent 𝓤 (Run now) (Run (ws.0 ++ (ws.1 ++ (ws.2 ++ (ws.3 ++ []))))))
    (λ j. (sym e₀ j, sym e₁ j, sym e₂ j, sym e₃ j)) (id⊢ 𝓤 (Run now))) $
    enter ! 𝓣.C 𝓣.Λ fn now Post $
    alloc_all !
    (λ l. pass_all ! refl ((tt, tt), (ptr_good p, ((tt, record { fits = fits }), (good, tt)))) $
    let En' : Env 𝓤 H = env fn.locals l in
    opens ! tt O {h = d} rb ro (λ vs. move ! (1 ∷ []) $ fsplit ! $ move ! (1 ∷ []) $
    in_a_block ! d.at (λ (r : Ptr). places_own R r d.before d.items d.after) (id⊢ 𝓤 (never 𝓤))
    (λ b o e. fsplit ! $ flt_l ! (λ small.
    let sizes = within_all d.before (length d.items) d.after s small in
    let tiny : s < 2 ^ 64 = sizes.0 (omega arith) in
    let far : i * s < 2 ^ 64 = sizes.1 i (omega arith) in
    let moved : i * s ≡ (d.before + length d.items) * s = ap (λ (n : ℕ). n * s) index in
    let appended : i * s + o ≡ length d.items * s + (d.before * s + o) =
    omega (arith, moved, add-mul d.before (length d.items) s) in
    let further : i * s + o + s ≡ (d.before + length xs) * s + o =
    let longer_by_one : d.before + length xs ≡ d.before + length d.items + 1 =
    omega (arith, length_push d.items x) in
    omega (
      arith,
      moved,
      ap (λ (n : ℕ). n * s) longer_by_one,
      add-mul (d.before + length d.items) 1 s,
      one-mul s,
    ) in
    take_at ! 2 $
    rewrite ! 0 (λ (r : Ptr). ‵ (fat full_share ty_ptr (l 2) 0 (ptr_val r))) (at ∙ e) refl $
    give_at ! 2 $ first ! $ blocks ! $
    sets ! (bin ! (get ! refl) (size_lit ! (record { fits = tiny })) (record { fits = far })) refl
    (tt, record { fits = far }) $
    sets ! (bin ! (get ! refl) (get ! refl) tt) refl (tt, tt) $
    -- [room; items and room; the mark; its cell; the open borrow, in three entries; the other
    -- token; what the item owns]
    fsplit ! $ move ! (1 ∷ []) $ fsplit ! $ move ! (1 ∷ []) $
    rewrite ! 0 (λ (n : ℕ). ‵ (froom (bare (ty_array τ d.after)) b (n * s + o))) (sym index) refl $
    rewrite ! 0 (λ (n : ℕ). ‵ (froom (bare (ty_array τ n)) b (i * s + o))) one_place refl $
    use1 𝓛 (‵ (froom τ b (i * s + o)) ⊛ ‵ (froom (bare (ty_array τ left)) b (i * s + o + s)))
    (shorter 𝓛 b τ left (i * s + o)) $
    split ! $
    sets ! (of_opd ! (get ! refl)) refl good $
    assigns_last ! (of_opd ! (get ! refl)) (through ! refl (stop !)) (init ! 0 refl good) $
    exec ! 𝓣.C 𝓣.Λ En' code.Mir.t-2 (at_ret En' Post) $
    sets ! (of_opd ! (unit_lit !)) refl (tt, tt) $
    -- [the item's cell; room after it; the others; room before them; the mark; its cell; the open
    -- borrow; the other token; what the item owns]
    move ! (0 ∷ 10 ∷ []) $
    use2 𝓛 (‵ (part_at R full_share x b (i * s + o)))
    (part_in 𝓛 R refl full_share x b (i * s + o) w) $
    move ! (2 ∷ 0 ∷ []) $
    use2 𝓛 (‵ (items_own R b (d.before * s + o) xs))
    (one_more 𝓛 b R x d.items (d.before * s + o) (i * s + o) appended) $
    rewrite ! 1 (λ (k : ℕ). ‵ (froom (bare (ty_array τ left)) b k)) further refl $ fjoin ! $
    move ! (1 ∷ 0 ∷ []) $ fjoin ! $
    flt_i ! ((d.before + length xs + left) * s) (2 ^ 63)
    (subst (λ (n : ℕ). n * s < 2 ^ 63) as_many small) $
    fjoin ! $
    rewrite ! 0 (λ (r : Ptr). ‵ (places_own R r d.before xs left)) (sym e) refl $
    move ! (1 ∷ 0 ∷ []) $ fjoin ! $ move ! (1 ∷ 0 ∷ 2 ∷ 3 ∷ 4 ∷ []) $ closes ! tt O new vs rb ro $
    returns ! (look_at ! 0 refl) $ free_all ! refl $
    -- [the borrow, in two entries; its token; the other token]
    feq_i ! (List Val) us.0 (vptr rb ro ∷ []) e₀ $ fjoin3 ! $ nothing ! $ nothing ! $ fjoin ! $
    nothing ! $ fjoin ! $ nothing ! $ fjoin ! $ move ! (1 ∷ 0 ∷ []) $ fjoin ! $
    move ! (1 ∷ 2 ∷ []) $ join ! $
    use0 𝓛 (raw (fact 𝓤 (new ≡ new))) (fact_i 𝓤 (new ≡ new) (emp 𝓤) refl) $
    feq_i ! (List Val) (vunit ∷ []) (vunit ∷ []) refl $
    keep ! (2 ∷ 3 ∷ 0 ∷ 1 ∷ []) $
    by !
    (leaves 𝓛 En hs c z vunit tt (new, (tt, (tt, (tt, tt))))
    (tt, (tt, (tt, (tt, tt))))))))))))))))))

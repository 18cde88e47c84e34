-- `view` lends the items side by side.
use Rattle.std.proofs.Common.{◌≡◌, ◌∙◌, ℕ, ◌+◌, ◌*◌, ◌^◌, ◌<◌, List, [], ◌∷◌, ◌++◌, length, arith}
use Rattle.std.proofs.Common.{refl, sym, ap, subst}
use Rattle.std.proofs.raw_atomic.Walks.{proved_at, leaves}
use Rattle.std.proofs.alloc.Calls.{Goes-blank}
use base.Fml.{ftrue, flft, fat}
use base.Fraction.{full_share}
use base.Logic.{SProp, ent, emp, never, id⊢}
use contract.BorrowLft.{◌⊑◌}
use contract.Monad.{fact, fact_i}
use contract.Running.{tables}
use denote.Builtin.{RawPtr, RefOf, usize}
use denote.Opens.{hide, unhide}
use denote.Slice.{elements_shared, slice_val}
use types.Part.{agg}
use denote.Exit.{yes}
use denote.Param.{param, layout, layouts}
use denote.RattleType.{RattleType, owns}
use denote.RawPtr.{Ptr, ptr_val, in_a_block}
use denote.Signature.{plain, types_at}
use denote.Steps.{nothing, heard}
use denote.Triple.Walked.{Stays, stay_dropped, walk_of, Goes-dropped}
use Rattle.std.proofs.Math.Nat.{add-mul}
use mir.MapTy.{inst_fn}
use mir.Syntax.{a_type, w64, ty_ptr}
use mir.Val.{Val, vptr, vint}
use prog.Memory.{size}
use prog.Wp.{Env, WpFn}
use types.ByLocal.{alloc_all, pass_all, free_all, look_at, get, sets, sets_last, take_at, give_at}
use types.ByLocal.{is as is_as, env}
use types.Kit.{‵, raw, ◌⊛◌, at_ret, ◌$◌, ◌∵◌, !, qed, by, move, keep, drop, use0, split, fsplit}
use types.Kit.{fjoin, rewrite, feq_i, feq_l, flt_i, flt_l, suffices}
use types.Run.{enter, of_opd, bin, size_word, no_more, and_then, first, blocks, exec, returns}
use Rattle.span_ring.proofs.Owners.{ptr_good}
use Rattle.span_ring.proofs.Rooms.{uncapped, within_all}
use Rattle.span_ring.specs.Places.{places_lent}
use Rattle.span_ring.specs.contracts.places.Places as places
use Rattle.span_ring.specs.contracts.places.Places.view.{ended, clauses}
use Rattle.span_ring.specs.contracts.places.Places.view.Key.{name as #self}
use Rattle.span_ring.proofs.places.Places.view.Statement.{statement}
use Rattle.span_ring.proofs.places.Places.view.Code as code

-- The machine code of `view` satisfies its contract.
pub view_spec : {M : Type 1} → statement M
view_spec 𝓤 𝓛 𝓜 𝓡 wired X L =
    let H = 𝓛.H in
    let 𝓣 = tables 𝓤 H 𝓜 𝓡 𝓡.env in
    let R : RattleType = param 0 X in
    let O : RattleType = places.the_row R in
    let τ = layout X in
    let s = size τ in
    let En = ended X in
    let c = clauses X 𝓛 𝓜.mem 𝓡.returns in
    let args = layouts (a_type ∷ []) (X, tt) in
    let fn = inst_fn args code.function in
    let self = RefOf (0 ∷ []) tt (plain (λ _. O)) (λ _. tt) in
    let hs : Stays En.signature.params En.kept = (
      stay_dropped self yes,
      (
        stay_dropped (plain (λ _. RawPtr)) yes,
        (stay_dropped (plain (λ _. usize)) yes, (stay_dropped (plain (λ _. usize)) yes, tt)),
      ),
    ) in
    proved_at 𝓛 En hs c 𝓜 𝓡 (
      Goes-dropped 𝓛 2 self yes (λ κs x f. refl),
      (
        Goes-blank 𝓛 2 (plain (λ _. RawPtr)) yes (λ κs x f. tt),
        (
          Goes-blank 𝓛 2 (plain (λ _. usize)) yes (λ κs x f. tt),
          (Goes-blank 𝓛 2 (plain (λ _. usize)) yes (λ κs x f. tt), tt),
        ),
      ),
    )
    (#self args) fn (code.unfolded 𝓤 H 𝓜 𝓡 wired (X, tt)) (λ z are.
    let κ = z.0.0.0 in let κ₁ = z.0.0.1.0 in let q = z.0.1.0 in let q₁ = z.0.1.1.0 in
    let rb = z.0.3.0.ref_ptr.0 in
    let ro = z.0.3.0.ref_ptr.1 in
    let d = z.0.3.0.now in
    let p = z.0.3.1.0 in
    let i = z.0.3.1.1.0 in
    let n = z.0.3.1.1.1.0 in
    let us = z.0.4 in
    let Post : Val → SProp 𝓤 = (walk_of 𝓛 En hs c).post z in
    let Run : List Val → SProp 𝓤 = λ ws. WpFn 𝓤 H 𝓣.C 𝓣.Λ fn ws Post in
    let asked =
    raw (fact 𝓤 (p ≡ d.at)) ⊛ raw (fact 𝓤 (i ≡ d.before)) ⊛ raw (fact 𝓤 (n ≡ length d.items)) in
    qed 𝓛
    (((‵ (flft κ q) ⊛ ‵ (flft κ₁ q₁) ⊛ ‵ ftrue)
    ⊛ ‵ (owns (types_at En.signature.params z.0.0) z.0.3 us))
    ∷ (raw (fact 𝓤 (κ₁ ⊑ X.lives)) ⊛ asked) ∷ []) ∵
    move ! (1 ∷ []) $ split ! $ drop ! $ split ! $
    heard ! (p ≡ d.at)
    (λ at. split ! $ heard ! (i ≡ d.before) (λ index. heard ! (n ≡ length d.items) (λ many.
    split ! $ move ! (1 ∷ []) $ fsplit ! $ fsplit ! $
    feq_l !
    (λ e₀. move ! (1 ∷ []) $ fsplit ! $
    feq_l !
    (λ e₁. fsplit ! $ fsplit ! $
    feq_l !
    (λ e₂. flt_l ! (λ fits_i. fsplit ! $ fsplit ! $ feq_l ! (λ e₃. flt_l ! (λ fits_n. drop ! $
    let now = vptr rb ro ∷ ptr_val p ∷ vint w64 i ∷ vint w64 n ∷ [] in
    suffices ! (Run now)
    (subst (λ (ws : List Val × List Val × List Val × List Val).
    ent 𝓤 (Run now) (Run (ws.0 ++ (ws.1 ++ (ws.2 ++ (ws.3 ++ []))))))
    (λ j. (sym e₀ j, sym e₁ j, sym e₂ j, sym e₃ j)) (id⊢ 𝓤 (Run now))) $
    enter ! 𝓣.C 𝓣.Λ fn now Post $
    alloc_all !
    (λ l. pass_all ! refl (
      (tt, tt),
      (ptr_good p, ((tt, record { fits = fits_i }), ((tt, record { fits = fits_n }), tt))),
    ) $
    let En' : Env 𝓤 H = env fn.locals l in
    -- [the `&`; the tokens]
    unhide ! $ fsplit ! $ drop ! $
    in_a_block ! d.at (λ (r : Ptr). places_lent R r d.before d.items d.after κ) (id⊢ 𝓤 (never 𝓤))
    (λ b o e. fsplit ! $ flt_l ! (λ small.
    let sizes = within_all d.before (length d.items) d.after s small in
    let far : i * s < 2 ^ 64 = sizes.1 i (omega arith) in
    let few : length d.items * s < 2 ^ 63 =
    omega (
      arith,
      small,
      add-mul (d.before + length d.items) d.after s,
      add-mul d.before (length d.items) s,
    ) in
    take_at ! 2 $
    rewrite ! 0 (λ (r : Ptr). ‵ (fat full_share ty_ptr (l 2) 0 (ptr_val r))) (at ∙ e) refl $
    give_at ! 2 $ first ! $ blocks ! $
    sets !
    (is_as !
    (bin ! (get ! refl) (size_word !)
    (record { fits = subst (λ (k : ℕ). k < 2 ^ 64) (sym (uncapped i s far)) far }))
    (ap (vint w64) (uncapped i s far)))
    refl
    (tt, record { fits = far }) $
    sets ! (bin ! (get ! refl) (get ! refl) tt) refl (tt, tt) $
    sets_last ! (agg ! (and_then ! (get ! refl) (and_then ! (get ! refl) (no_more !)))) refl
    (tt, (tt, (record { fits = fits_n }, tt))) $
    exec ! 𝓣.C 𝓣.Λ En' code.Mir.t-2 (at_ret En' Post) $
    sets ! (of_opd ! (get ! refl)) refl (tt, (tt, (record { fits = fits_n }, tt))) $
    rewrite ! 0 (λ (k : ℕ). ‵ (elements_shared R d.items b (k * s + o) κ)) (sym index) refl $
    hide ! $
    returns ! (look_at ! 0 refl) $ free_all ! refl $
    flt_i ! (length d.items * s) (2 ^ 63) few $
    flt_i ! (length d.items) (2 ^ 64) (subst (λ (k : ℕ). k < 2 ^ 64) many fits_n) $ fjoin ! $
    feq_i ! (List Val) (slice_val (b, i * s + o) n ∷ [])
    (slice_val (b, i * s + o) (length d.items) ∷ [])
    (ap (λ (k : ℕ). slice_val (b, i * s + o) k ∷ []) many) $
    fjoin ! $ fjoin ! $
    use0 𝓛 (raw (fact 𝓤 (d.items ≡ d.items))) (fact_i 𝓤 (d.items ≡ d.items) (emp 𝓤) refl) $
    nothing ! $ nothing ! $ fjoin ! $ nothing ! $ fjoin ! $ nothing ! $ fjoin ! $ nothing ! $
    fjoin ! $
    -- [nothing; what is ensured; the slice; the tokens]
    keep ! (3 ∷ 0 ∷ 2 ∷ 1 ∷ []) $
    by !
    (leaves 𝓛 En hs c z (slice_val (b, i * s + o) n)
    (record { ref_ptr = (b, i * s + o); now = d.items }) (tt, (tt, (tt, (tt, tt))))
    (tt, (tt, (tt, (tt, tt))))))))))))))))))

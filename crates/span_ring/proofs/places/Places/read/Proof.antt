-- `read` takes the first item out of memory, and leaves room.
use Rattle.std.proofs.Common.{◌≡◌, ◌∙◌, ℕ, ◌+◌, ◌*◌, ◌^◌, ◌<◌, List, [], ◌∷◌, ◌++◌, length, arith}
use Rattle.std.proofs.Common.{refl, sym, ap, subst, drop as drop_n}
use Rattle.std.proofs.raw_atomic.Walks.{proved_at, leaves}
use Rattle.std.proofs.alloc.Calls.{Goes-blank}
use base.Fml.{ftrue, flft, fat, froom}
use base.Fraction.{full_share}
use base.Logic.{SProp, ent, emp, never, id⊢}
use contract.BorrowLft.{◌⊑◌}
use contract.Monad.{fact, fact_i}
use contract.Running.{tables}
use denote.Builtin.{RawPtr, usize}
use denote.Exit.{yes}
use denote.Param.{param, layout, layouts}
use denote.RattleType.{RattleType, owns}
use denote.RawPtr.{Ptr, ptr_val, in_a_block}
use denote.Signature.{plain, types_at}
use denote.Steps.{nothing, heard, opens, closes, peeks}
use denote.Laws.{Is, shows}
use denote.Param.Laws.{param_laws}
use borrow.Table.OneValue.{part_out}
use denote.Triple.Walked.{Stays, stay_dropped, stay_ref, walk_of, Goes-ref}
use denote.Memory.{part_at}
use native.Mathlib.Nat.{one-mul}
use Rattle.std.proofs.Math.Nat.{add-mul}
use mir.MapTy.{inst_fn}
use mir.Raw.{raw as bare}
use mir.Syntax.{a_type, w64, ty_ptr, ty_array}
use mir.Val.{Val, vptr, vint}
use prog.Memory.{size}
use prog.Wp.{Env, WpFn}
use types.ByLocal.{alloc_all, pass_all, free_all, look_at, get, through, sets, sets_last, take_at}
use types.ByLocal.{give_at, env}
use types.Kit.{‵, raw, ◌⊛◌, some, pick, at_ret, ◌$◌, ◌∵◌, !, qed, by, move, keep, drop, use0, use1}
use types.Kit.{use2, split, join, fsplit, fsplit3, fjoin, fjoin3, rewrite, feq_i, feq_l, flt_i}
use types.Kit.{flt_l, suffices}
use types.Run.{enter, of_opd, bin, size_lit, load, stop, look, first, blocks, exec, returns}
use Rattle.span_ring.proofs.Owners.{ptr_good}
use Rattle.span_ring.proofs.Rooms.{longer, split_first, within_all}
use Rattle.span_ring.specs.Places.{items_own, places_own}
use Rattle.span_ring.specs.contracts.places.Places as places
use Rattle.span_ring.specs.contracts.places.Places.read.{ended, clauses}
use Rattle.span_ring.specs.contracts.places.Places.read.Key.{name as #self}
use Rattle.span_ring.proofs.places.Places.read.Statement.{statement}
use Rattle.span_ring.proofs.places.Places.read.Code as code

-- The machine code of `read` satisfies its contract.
pub read_spec : {M : Type 1} → statement M
read_spec 𝓤 𝓛 𝓜 𝓡 wired X L =
    let H = 𝓛.H in
    let 𝓣 = tables 𝓤 H 𝓜 𝓡 𝓡.env in
    let R : RattleType = param 0 X in
    let O : RattleType = places.the_row R in
    let τ = layout X in
    let s = size τ in
    let En = ended X in
    let c = clauses X 𝓛 𝓜.mem 𝓡.returns in
    let args = layouts (a_type ∷ []) (X, tt) in
    let fn = inst_fn args code.function in
    let hs : Stays En.signature.params En.kept = (
      stay_ref (0 ∷ []) tt (plain (λ _. O)),
      (stay_dropped (plain (λ _. RawPtr)) yes, (stay_dropped (plain (λ _. usize)) yes, tt)),
    ) in
    proved_at 𝓛 En hs c 𝓜 𝓡 (
      Goes-ref 𝓛 2 0 tt (plain (λ _. O)),
      (
        Goes-blank 𝓛 2 (plain (λ _. RawPtr)) yes (λ κs x f. tt),
        (Goes-blank 𝓛 2 (plain (λ _. usize)) yes (λ κs x f. tt), tt),
      ),
    ) (#self args) fn (code.unfolded 𝓤 H 𝓜 𝓡 wired (X, tt)) (λ z are.
    let κ = z.0.0.0 in let κ₁ = z.0.0.1.0 in let q = z.0.1.0 in let q₁ = z.0.1.1.0 in
    let rb = z.0.3.0.ref_ptr.0 in
    let ro = z.0.3.0.ref_ptr.1 in
    let d = z.0.3.0.now in
    let p = z.0.3.1.0 in
    let i = z.0.3.1.1.0 in
    let us = z.0.4 in
    let Post : Val → SProp 𝓤 = (walk_of 𝓛 En hs c).post z in
    let Run : List Val → SProp 𝓤 = λ ws. WpFn 𝓤 H 𝓣.C 𝓣.Λ fn ws Post in
    let asked =
    raw (fact 𝓤 (p ≡ d.at)) ⊛ raw (fact 𝓤 (i ≡ d.before)) ⊛ raw (fact 𝓤 (0 < length d.items)) in
    qed 𝓛
    (((‵ (flft κ q) ⊛ ‵ (flft κ₁ q₁) ⊛ ‵ ftrue)
    ⊛ ‵ (owns (types_at En.signature.params z.0.0) z.0.3 us))
    ∷ (raw (fact 𝓤 (κ₁ ⊑ X.lives)) ⊛ asked) ∷ []) ∵
    move ! (1 ∷ []) $ split ! $ drop ! $ split ! $
    heard ! (p ≡ d.at)
    (λ at. split ! $ heard ! (i ≡ d.before) (λ index. heard ! (0 < length d.items) (λ filled.
    let first_is = split_first d.items filled in
    let x : X.Denot = first_is.0 in
    let xs : List X.Denot = drop_n 1 d.items in
    let new : O.Denot =
    record { mark = d.mark; at = d.at; before = d.before + 1; items = xs; after = d.after } in
    let as_many : d.before + length d.items ≡ d.before + 1 + length xs =
    omega (arith, ap length first_is.1) in
    split ! $ move ! (1 ∷ []) $ fsplit ! $ fsplit3 ! $
    feq_l !
    (λ e₀. move ! (2 ∷ []) $ fsplit ! $
    feq_l ! (λ e₁. fsplit ! $ fsplit ! $ feq_l ! (λ e₂. flt_l ! (λ fits.
    move ! (3 ∷ []) $ split ! $ keep ! (3 ∷ 4 ∷ 0 ∷ 1 ∷ []) $
    let now = vptr rb ro ∷ ptr_val p ∷ vint w64 i ∷ [] in
    suffices ! (Run now)
    (subst (λ (ws : List Val × List Val × List Val).
    ent 𝓤 (Run now) (Run (ws.0 ++ (ws.1 ++ (ws.2 ++ [])))))
    (λ j. (sym e₀ j, sym e₁ j, sym e₂ j)) (id⊢ 𝓤 (Run now))) $
    enter ! 𝓣.C 𝓣.Λ fn now Post $
    alloc_all ! (λ l. pass_all ! refl ((tt, tt), (ptr_good p, ((tt, record { fits = fits }), tt))) $
    let En' : Env 𝓤 H = env fn.locals l in
    opens ! tt O {h = d} rb ro (λ vs. move ! (1 ∷ []) $ fsplit ! $ move ! (1 ∷ []) $
    in_a_block ! d.at (λ (r : Ptr). places_own R r d.before d.items d.after) (id⊢ 𝓤 (never 𝓤))
    (λ b o e. fsplit ! $ flt_l ! (λ small.
    let sizes = within_all d.before (length d.items) d.after s small in
    let tiny : s < 2 ^ 64 = sizes.0 (omega arith) in
    let far : i * s < 2 ^ 64 = sizes.1 i (omega arith) in
    let further : d.before * s + o + s ≡ (d.before + 1) * s + o =
    omega (arith, add-mul d.before 1 s, one-mul s) in
    take_at ! 2 $
    rewrite ! 0 (λ (r : Ptr). ‵ (fat full_share ty_ptr (l 2) 0 (ptr_val r))) (at ∙ e) refl $
    give_at ! 2 $ first ! $ blocks ! $
    sets ! (bin ! (get ! refl) (size_lit ! (record { fits = tiny })) (record { fits = far })) refl
    (tt, record { fits = far }) $
    sets ! (bin ! (get ! refl) (get ! refl) tt) refl (tt, tt) $
    -- [room; items and room; the mark; its cell; the open borrow, in three entries; the other
    -- token]
    fsplit ! $ move ! (1 ∷ []) $ fsplit ! $
    rewrite ! 0 (λ (ys : List R.Denot). ‵ (items_own R b (d.before * s + o) ys)) first_is.1 refl $
    fsplit ! $
    rewrite ! 0 (λ (n : ℕ). ‵ (part_at R full_share x b (n * s + o))) (sym index) refl $
    use1 𝓛 (some (λ (v : Val). ‵ (fat full_share τ b (i * s + o) v) ⊛ ‵ (R.own_val x (v ∷ []))))
    (part_out 𝓛 R refl full_share x b (i * s + o)) $
    pick ! (λ v. split ! $ move ! (1 ∷ []) $
    peeks ! R (Is R) (shows 𝓛 R) x (v ∷ [])
    (λ is. let good = (((param_laws 0 X L).lawful 𝓛).typed x (v ∷ []) is).0 in move ! (1 ∷ 0 ∷ []) $
    sets_last ! (of_opd ! (load ! (through ! refl (stop !)) (look ! 0 refl))) refl good $
    exec ! 𝓣.C 𝓣.Λ En' code.Mir.t-2 (at_ret En' Post) $ sets ! (of_opd ! (get ! refl)) refl good $
    -- [the item's cell; what it owns; the others; room after, and before them; the mark; its cell;
    -- the open borrow]
    use1 𝓛 (‵ (froom τ b (i * s + o))) (𝓛.laws.at_room τ b (i * s + o) v) $ move ! (4 ∷ 0 ∷ []) $
    use2 𝓛 (‵ (froom (bare (ty_array τ (d.before + 1))) b o))
    (longer 𝓛 b τ d.before o (i * s + o) (ap (λ (n : ℕ). n * s + o) index)) $
    move ! (2 ∷ 3 ∷ []) $
    rewrite ! 0 (λ (k : ℕ). ‵ (items_own R b k xs)) further refl $
    rewrite ! 1 (λ (n : ℕ). ‵ (froom (bare (ty_array τ d.after)) b (n * s + o))) as_many refl $
    fjoin ! $ move ! (1 ∷ 0 ∷ []) $ fjoin ! $
    flt_i ! ((d.before + 1 + length xs + d.after) * s) (2 ^ 63)
    (subst (λ (n : ℕ). (n + d.after) * s < 2 ^ 63) as_many small) $
    fjoin ! $
    rewrite ! 0 (λ (r : Ptr). ‵ (places_own R r (d.before + 1) xs d.after)) (sym e) refl $
    move ! (2 ∷ 0 ∷ []) $ fjoin ! $ move ! (2 ∷ 0 ∷ 3 ∷ 4 ∷ 5 ∷ []) $ closes ! tt O new vs rb ro $
    returns ! (look_at ! 0 refl) $ free_all ! refl $
    -- [the borrow, in two entries; its token; what the item owns; the other token]
    feq_i ! (List Val) us.0 (vptr rb ro ∷ []) e₀ $ fjoin3 ! $ nothing ! $ nothing ! $ fjoin ! $
    nothing ! $ fjoin ! $ move ! (1 ∷ 0 ∷ []) $ fjoin ! $ move ! (1 ∷ 3 ∷ []) $ join ! $
    use0 𝓛 (raw (fact 𝓤 (new ≡ new))) (fact_i 𝓤 (new ≡ new) (emp 𝓤) refl) $
    use0 𝓛 (raw (fact 𝓤 (d.items ≡ x ∷ xs))) (fact_i 𝓤 (d.items ≡ x ∷ xs) (emp 𝓤) first_is.1) $
    join ! $
    keep ! (1 ∷ 2 ∷ 3 ∷ 0 ∷ []) $
    by ! (leaves 𝓛 En hs c z v x (new, (tt, (tt, tt))) (tt, (tt, (tt, tt))))))))))))))))))

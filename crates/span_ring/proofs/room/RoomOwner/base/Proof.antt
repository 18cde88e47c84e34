-- `base` asks the `Vec` where its room begins.
use Rattle.std.proofs.Common.{◌≡◌, ◌∙◌, ℕ, ◌+◌, List, [], ◌∷◌, length, refl, sym, ap}
use Rattle.std.proofs.raw_atomic.Walks.{proved, leaves}
use sound.WpLaws.{fm_of}
use base.Fml.{ftrue, fsep, flft}
use base.Logic.{SProp, emp, id⊢}
use contract.BorrowLft.{◌⊑◌}
use contract.Monad.{fact, fact_i}
use contract.Running.{tables, tables_of}
use denote.Builtin.{RawPtr, RefOf}
use denote.Exit.{yes}
use denote.Param.{param, bounded, layout}
use denote.RattleType.{RattleType, owns}
use denote.RawPtr.{Ptr, ptr_val}
use denote.Ref.{shr_vals, shr_Tells}
use denote.Signature.{plain, types_at}
use denote.Steps.{nothing, heard, only}
use denote.Opens.{hide, unhide}
use denote.Triple.Spec.{triple_of}
use denote.Triple.Call.{calls_at}
use denote.Triple.Walked.{Stays, stay_dropped, walk_of, Goes-dropped}
use mir.MapTy.{inst_fn}
use prog.Memory.{align, up}
use mir.Syntax.{named, a_type, dcons, dnil}
use mir.Val.{Val, vptr}
use types.ByLocal.{alloc_all, pass_all, free_all, look_at, get, through, sets, lands_as}
use types.Kit.{‵, raw, ◌⊛◌, later, some, await, pick, ◌$◌, ◌∵◌, !, qed, by, move, keep, drop, use0}
use types.Kit.{use1, split, join, fsplit, fjoin, rewrite, feq_i, feq_l}
use types.Run.{enter, addr, stop, fld, no_more, and_then, returns}
use Rattle.std_alloc.specs.Vec.Ownership.{vec_shares}
use Rattle.std_alloc.specs.contracts.vec.Vec as V
use Rattle.std_alloc.specs.contracts.vec.Vec.as_ptr as callee
use Rattle.std_alloc.proofs.vec.Vec.as_ptr.Met.{met}
use Rattle.span_ring.proofs.Owners.{ptr_good}
use Rattle.span_ring.specs.contracts.room.RoomOwner as owner
use Rattle.span_ring.specs.contracts.room.RoomOwner.base.{ended, clauses}
use Rattle.span_ring.specs.contracts.room.RoomOwner.base.Key.{name as #self}
use Rattle.span_ring.proofs.room.RoomOwner.base.Statement.{statement}
use Rattle.span_ring.proofs.room.RoomOwner.base.Code as code

-- The machine code of `base` satisfies its contract.
pub base_spec : {M : Type 1} → statement M
unfolding tables_of
base_spec 𝓤 𝓛 𝓜 𝓡 wired X Z L K g d dd allocator glue =
    let H = 𝓛.H in
    let 𝓣 = tables 𝓤 H 𝓜 𝓡 𝓡.env in
    let R : RattleType = param 0 X in
    let P : RattleType = param 1 Z in
    let F : RattleType = owner.the_row R P g in let S : RattleType = V.the_row R P g in
    let En = ended X Z g d dd in let c = clauses X Z g d dd 𝓛 𝓜.mem 𝓡.returns in
    let args = bounded (a_type ∷ a_type ∷ []) (X, (Z, tt)) (dcons d (dcons dd dnil)) in
    let fn = inst_fn args code.function in
    let self = RefOf (0 ∷ []) tt (plain (λ _. F)) (λ _. tt) in
    let hs : Stays En.signature.params En.kept = (stay_dropped self yes, tt) in
    proved 𝓛 En hs c 𝓜 𝓡 (Goes-dropped 𝓛 3 self yes (λ κs x f. refl), tt) (#self args) fn
    (code.unfolded 𝓤 H 𝓜 𝓡 wired (X, (Z, tt)) d dd)
    (λ κs. (shr_vals, tt)) (λ κs. (shr_Tells (named 0) κs.0 F, tt)) (λ κs qs bounds a gh are.
    let κ = κs.0 in
    let κ₁ = κs.1.0 in
    let κ₂ = κs.1.1.0 in
    let b = a.0.ref_ptr.0 in
    let o = a.0.ref_ptr.1 in
    let v = a.0.now in
    let z : (walk_of 𝓛 En hs c).Ghost = ((κs, qs, bounds, a, (shr_vals a.0, tt)), gh) in
    let Post : Val → SProp 𝓤 = (walk_of 𝓛 En hs c).post z in
    let toks = ‵ (flft κ qs.0) ⊛ ‵ (flft κ₁ qs.1.0) ⊛ ‵ (flft κ₂ qs.1.1.0) ⊛ ‵ ftrue in
    let at = o + up (align (layout S)) 0 in
    let k = triple_of 𝓛 (callee.signature X Z g d dd) (callee.spec X Z g d dd 𝓛 𝓜.mem 𝓡.returns) in
    let y : k.Ghost =
    ((κs, qs, bounds, (record { ref_ptr = (b, at); now = v }, tt), (vptr b at ∷ [], tt)), tt) in
    qed 𝓛
    ((toks ⊛ ‵ (owns (types_at En.signature.params κs) a (shr_vals a.0, tt)))
    ∷ (raw (fact 𝓤 (κ₁ ⊑ X.lives)) ⊛ raw (fact 𝓤 (κ₂ ⊑ Z.lives)) ⊛ raw (fact 𝓤 (v.items ≡ [])))
    ∷ []) ∵
    move ! (1 ∷ []) $ split ! $
    heard ! (κ₁ ⊑ X.lives)
    (λ le₁. split ! $ heard ! (κ₂ ⊑ Z.lives) (λ le₂. heard ! (v.items ≡ []) (λ none. split ! $
    -- [the tokens; the `&`]
    enter ! 𝓣.C 𝓣.Λ fn (vptr b o ∷ []) Post $ alloc_all ! (λ l. pass_all ! refl ((tt, tt), tt) $
    sets ! (addr ! (through ! refl (fld ! refl (stop !)))) refl (tt, tt) $
    move ! (1 ∷ []) $ fsplit ! $ fsplit ! $ drop ! $ unhide ! $ fsplit ! $ fsplit ! $ fsplit ! $
    move ! (1 ∷ []) $
    -- [what a `&` to a `Vec` holds beside its words; the words; three rests; the tokens]
    rewrite ! 0 (λ (xs : List R.Denot). ‵ (vec_shares R v.ptr 0 v.cap xs κ)) (sym none) refl $
    rewrite ! 0 (λ (n : ℕ). ‵ (vec_shares R v.ptr n v.cap v.items κ))
    (sym (v.ok.0 ∙ ap length none)) refl $
    move ! (1 ∷ 0 ∷ []) $ fjoin ! $ hide ! $
    feq_i ! (List Val) (vptr b at ∷ []) (vptr b at ∷ []) refl $ fjoin ! $ move ! (0 ∷ 3 ∷ []) $
    fjoin ! $
    use0 𝓛 (raw (emp 𝓤)) (id⊢ 𝓤 (emp 𝓤)) $
    use0 𝓛 (raw (fact 𝓤 (κ₂ ⊑ Z.lives))) (fact_i 𝓤 (κ₂ ⊑ Z.lives) (emp 𝓤) le₂) $ join ! $
    use0 𝓛 (raw (fact 𝓤 (κ₁ ⊑ X.lives))) (fact_i 𝓤 (κ₁ ⊑ X.lives) (emp 𝓤) le₁) $ join ! $
    move ! (4 ∷ 1 ∷ []) $ join ! $ join ! $ use1 𝓛 (raw (k.pre y)) (id⊢ 𝓤 _) $
    calls_at ! (fm_of 𝓤 H 𝓛.laws (tables_of 𝓤 H 𝓜 𝓣)) k
    (met 𝓤 𝓛 𝓜 𝓡 (code.calls-std_alloc::vec::Vec::as_ptr 𝓡.env wired) X Z L K g d dd allocator glue)
    y
    (and_then ! (get ! refl) (no_more !)) (λ u.
    use1 𝓛
    (later (some (λ (r : Ptr). (toks ⊛ ‵ (RawPtr.own_val r (u ∷ [])))
    ⊛ some (λ (_ : Unit {0} × Unit {0}). ‵ (fsep ftrue ftrue) ⊛ raw (fact 𝓤 (r ≡ v.ptr))))))
    (id⊢ 𝓤 _) $
    await ! tt $
    pick !
    (λ r. split ! $ move ! (1 ∷ []) $
    pick !
    (λ _. split ! $ drop ! $ heard ! (r ≡ v.ptr) (λ is. split ! $ move ! (1 ∷ []) $ feq_l ! (λ eu.
    lands_as ! (ap only eu) refl (ptr_good r) $ returns ! (look_at ! 0 refl) $ free_all ! refl $
    use0 𝓛 (raw (fact 𝓤 (r ≡ v.ptr))) (fact_i 𝓤 (r ≡ v.ptr) (emp 𝓤) is) $
    feq_i ! (List Val) (ptr_val r ∷ []) (ptr_val r ∷ []) refl $ nothing ! $ nothing ! $ fjoin ! $
    keep ! (3 ∷ 0 ∷ 1 ∷ 2 ∷ []) $
    by ! (leaves 𝓛 En hs c z (ptr_val r) r (tt, tt) (tt, tt))))))))))))

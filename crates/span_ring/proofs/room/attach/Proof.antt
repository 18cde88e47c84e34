-- `attach` puts the room back.
use Rattle.std.proofs.Common.{◌≡◌, ◌∙◌, ◌+◌, List, [], ◌∷◌, ◌++◌, refl, sym, subst}
use Rattle.std.proofs.raw_atomic.Walks.{proved_at, leaves}
use Rattle.std.proofs.alloc.Calls.{Goes-blank, handle_tells}
use base.Fml.{ftrue, flft}
use base.Logic.{SProp, ent, emp, id⊢}
use contract.BorrowLft.{◌⊑◌}
use contract.Monad.{fact, fact_i}
use contract.Running.{tables}
use denote.Exit.{no}
use denote.Param.{param, bounded, layout}
use denote.Param.Laws.{param_laws}
use denote.RattleType.{RattleType, owns}
use denote.Signature.{plain, types_at}
use denote.Steps.{nothing, heard}
use denote.Struct.Struct.{as_fields}
use denote.Triple.Walked.{Stays, stay_dropped, walk_of}
use mir.MapTy.{inst_fn}
use mir.Syntax.{a_type, dcons, dnil}
use mir.Val.{Val, vstruct, of_list}
use denote.RawPtr.{Ptr}
use prog.Wp.{WpFn}
use types.ByLocal.{alloc_all, pass_all, free_all, look_at, get, get_in, sets}
use types.Kit.{‵, raw, ◌⊛◌, ◌$◌, ◌∵◌, !, qed, by, move, keep, drop, use0, split, fsplit, fjoin}
use types.Kit.{fpick, feq_l, use2, rewrite, suffices}
use types.Part.{sub, whole}
use types.Run.{enter, of_opd, fld, stop, returns}
use Rattle.std_alloc.proofs.vec.Vec.TheLaws as vec_laws
use Rattle.span_ring.proofs.places.Places.TheLaws as places_laws
use Rattle.std_alloc.specs.contracts.vec.Vec as V
use Rattle.span_ring.specs.Places.{places_own}
use Rattle.span_ring.proofs.Carved.{one, room_in}
use Rattle.span_ring.specs.contracts.room.RoomOwner as owner
use Rattle.span_ring.specs.contracts.places.Places as places
use Rattle.span_ring.specs.contracts.room.attach.{ended, clauses}
use Rattle.span_ring.specs.contracts.room.attach.Key.{name as #self}
use Rattle.span_ring.proofs.room.attach.Statement.{statement}
use Rattle.span_ring.proofs.room.attach.Code as code

-- The machine code of `attach` satisfies its contract.
pub attach_spec : {M : Type 1} → statement M
attach_spec 𝓤 𝓛 𝓜 𝓡 wired X Z L K g d dd allocator glue =
    let H = 𝓛.H in
    let 𝓣 = tables 𝓤 H 𝓜 𝓡 𝓡.env in
    let R : RattleType = param 0 X in
    let P : RattleType = param 1 Z in
    let S : RattleType = V.the_row R P g in
    let F : RattleType = owner.the_row R P g in
    let O : RattleType = places.the_row R in
    let En = ended X Z g d dd in let c = clauses X Z g d dd 𝓛 𝓜.mem 𝓡.returns in
    let args = bounded (a_type ∷ a_type ∷ []) (X, (Z, tt)) (dcons d (dcons dd dnil)) in
    let fn = inst_fn args code.function in
    let hs : Stays En.signature.params En.kept =
    (stay_dropped (plain (λ _. O)) no, (stay_dropped (plain (λ _. F)) no, tt)) in
    proved_at 𝓛 En hs c 𝓜 𝓡 (
      Goes-blank 𝓛 2 (plain (λ _. O)) no (λ κs x f. tt),
      (Goes-blank 𝓛 2 (plain (λ _. F)) no (λ κs x f. tt), tt),
    ) (#self args) fn (code.unfolded 𝓤 H 𝓜 𝓡 wired (X, (Z, tt)) d dd) (λ z are.
    let κs = z.0.0 in
    let o = z.0.3.0 in
    let v = z.0.3.1.0 in
    let Post : Val → SProp 𝓤 = (walk_of 𝓛 En hs c).post z in
    let Run : List Val → SProp 𝓤 = λ ws. WpFn 𝓤 H 𝓣.C 𝓣.Λ fn ws Post in
    let toks = ‵ (flft κs.0 z.0.1.0) ⊛ ‵ (flft κs.1.0 z.0.1.1.0) ⊛ ‵ ftrue in
    let asked =
    raw (fact 𝓤 (o.at ≡ v.ptr)) ⊛ raw (fact 𝓤 (o.items ≡ []))
    ⊛ raw (fact 𝓤 (o.before + o.after ≡ v.cap)) ⊛ raw (fact 𝓤 (v.items ≡ [])) in
    qed 𝓛
    ((toks ⊛ ‵ (owns (types_at En.signature.params κs) z.0.3 z.0.4))
    ∷ (raw (fact 𝓤 (κs.0 ⊑ X.lives)) ⊛ raw (fact 𝓤 (κs.1.0 ⊑ Z.lives)) ⊛ asked) ∷ []) ∵
    move ! (1 ∷ []) $ split ! $ drop ! $ split ! $ drop ! $ split ! $
    heard ! (o.at ≡ v.ptr) (λ at. split ! $ heard ! (o.items ≡ []) (λ no_items. split ! $
    heard ! (o.before + o.after ≡ v.cap)
    (λ fills. heard ! (v.items ≡ []) (λ none. split ! $ move ! (1 ∷ []) $ fsplit ! $
    handle_tells (record {
      row = O;
      laws = places_laws.the_row_laws R (param_laws 0 X L);
      g = record { dealloc_token = λ _ _ _. ftrue };
      d = d;
      drops = dd;
    })
    ! o z.0.4.0
    (λ w is₀ fits.
    fsplit ! $ drop ! $
    -- [the places; the owner; the tokens]
    move ! (1 ∷ []) $ fsplit ! $ fsplit ! $
    fpick ! (λ typed. drop ! $ fpick ! (λ us. fsplit ! $ feq_l ! (λ e. fsplit ! $ move ! (3 ∷ []) $
    rewrite ! 0 (λ (p : Ptr). ‵ (places_own R p o.before o.items o.after)) at refl $
    rewrite ! 0 (λ (xs : List R.Denot). ‵ (places_own R v.ptr o.before xs o.after)) no_items refl $
    use2 𝓛 (‵ (S.own_val v us.0)) (room_in R P g 𝓛 v none o.before o.after fills us.0) $
    handle_tells (record {
      row = S;
      laws = vec_laws.the_row_laws R P g (param_laws 0 X L) (param_laws 1 Z K);
      g = record { dealloc_token = λ _ _ _. ftrue };
      d = d;
      drops = dd;
    })
    ! v us.0
    (λ u is good.
    let inner = as_fields (layout S ∷ []) (u ∷ []) (good, tt) in
    let is₁ : z.0.4.1.0 ≡ one u ∷ [] = e ∙ (λ i. vstruct (of_list (is i ++ [])) ∷ []) in
    suffices ! (Run (w ∷ one u ∷ []))
    (subst (λ (ws : List Val × List Val). ent 𝓤 (Run (w ∷ one u ∷ [])) (Run (ws.0 ++ (ws.1 ++ []))))
    (λ i. (sym is₀ i, sym is₁ i)) (id⊢ 𝓤 (Run (w ∷ one u ∷ [])))) $
    enter ! 𝓣.C 𝓣.Λ fn (w ∷ one u ∷ []) Post $
    alloc_all ! (λ l. pass_all ! refl (fits, (inner, tt)) $
    sets ! (of_opd ! (get_in ! (fld ! refl (stop !)) (sub ! 0 refl (whole !)))) refl good $
    sets ! (of_opd ! (get ! refl)) refl good $
    returns ! (look_at ! 0 refl) $ free_all ! refl $
    -- [the `Vec`; two nothings; the tokens]
    use0 𝓛 (raw (fact 𝓤 (v ≡ v))) (fact_i 𝓤 (v ≡ v) (emp 𝓤) refl) $ nothing ! $ nothing ! $
    fjoin ! $ nothing ! $ fjoin ! $ keep ! (5 ∷ 0 ∷ 2 ∷ 1 ∷ []) $
    by ! (leaves 𝓛 En hs c z u v (tt, (tt, tt)) (tt, (tt, tt))))))))))))))

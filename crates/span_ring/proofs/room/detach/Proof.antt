-- `detach` takes the room out.
use Rattle.std.proofs.Common.{◌≡◌, List, [], ◌∷◌, ◌++◌, refl, sym, subst}
use Rattle.std.proofs.raw_atomic.Walks.{proved_at, leaves}
use Rattle.std.proofs.alloc.Calls.{Goes-blank, handle_tells}
use base.Fml.{ftrue, flft}
use base.Logic.{SProp, ent, emp, id⊢}
use contract.BorrowLft.{◌⊑◌}
use contract.Monad.{fact, fact_i}
use contract.Running.{tables}
use denote.Exit.{no}
use denote.Laws.{Typed}
use denote.Param.{param, bounded, layout}
use denote.Param.Laws.{param_laws}
use denote.RattleType.{RattleType, Valss, owns}
use denote.Signature.{plain, types_at}
use denote.Steps.{nothing, heard}
use denote.Struct.Declared as Declared
use denote.Struct.Owning.{shape}
use denote.Struct.Struct.{Struct, within, as_fields}
use denote.Struct.Tuple.{tuple_type}
use denote.Triple.Walked.{Stays, stay_dropped, walk_of}
use mir.MapTy.{inst_fn}
use mir.Syntax.{a_type, dcons, dnil}
use mir.Val.{Val}
use prog.Wp.{WpFn}
use types.ByLocal.{alloc_all, pass_all, free_all, look_at, get, sets}
use types.Kit.{‵, raw, ◌⊛◌, ◌$◌, ◌∵◌, !, qed, by, move, keep, drop, use0, use1, split, join, fsplit}
use types.Kit.{fjoin, fpack, feq_i, suffices}
use types.Part.{agg}
use types.Run.{enter, of_opd, no_more, and_then, returns}
use Rattle.std_alloc.proofs.vec.Vec.TheLaws as vec_laws
use Rattle.std_alloc.specs.contracts.vec.Vec as V
use Rattle.span_ring.specs.Room.{Emptied}
use Rattle.span_ring.specs.Places.{places_own}
use Rattle.span_ring.proofs.Carved.{one, two, mark, mark_made, room_out}
use Rattle.span_ring.specs.contracts.room.RoomOwner as owner
use Rattle.span_ring.specs.contracts.places.Places as places
use Rattle.span_ring.specs.contracts.room.detach.{ended, clauses}
use Rattle.span_ring.specs.contracts.room.detach.Key.{name as #self}
use Rattle.span_ring.proofs.room.detach.Statement.{statement}
use Rattle.span_ring.proofs.room.detach.Code as code

-- The machine code of `detach` satisfies its contract.
pub detach_spec : {M : Type 1} → statement M
detach_spec 𝓤 𝓛 𝓜 𝓡 wired X Z L K g d dd allocator glue =
    let H = 𝓛.H in
    let 𝓣 = tables 𝓤 H 𝓜 𝓡 𝓡.env in
    let R : RattleType = param 0 X in
    let P : RattleType = param 1 Z in
    let S : RattleType = V.the_row R P g in
    let F : RattleType = owner.the_row R P g in
    let O : RattleType = places.the_row R in
    let En = ended X Z g d dd in let c = clauses X Z g d dd 𝓛 𝓜.mem 𝓡.returns in
    let args = bounded (a_type ∷ a_type ∷ []) (X, (Z, tt)) (dcons d (dcons dd dnil)) in
    let fn = inst_fn args code.function in
    let hs : Stays En.signature.params En.kept = (stay_dropped (plain (λ _. S)) no, tt) in
    proved_at 𝓛 En hs c 𝓜 𝓡 (Goes-blank 𝓛 2 (plain (λ _. S)) no (λ κs x f. tt), tt) (#self args) fn
    (code.unfolded 𝓤 H 𝓜 𝓡 wired (X, (Z, tt)) d dd) (λ z are.
    let κs = z.0.0 in
    let v = z.0.3.0 in
    let Post : Val → SProp 𝓤 = (walk_of 𝓛 En hs c).post z in
    let Run : List Val → SProp 𝓤 = λ ws. WpFn 𝓤 H 𝓣.C 𝓣.Λ fn ws Post in
    let toks = ‵ (flft κs.0 z.0.1.0) ⊛ ‵ (flft κs.1.0 z.0.1.1.0) ⊛ ‵ ftrue in
    let o : O.Denot =
    record { mark = record {}; at = v.ptr; before = 0; items = []; after = v.cap } in
    let Empty : Type 0 = (o.at ≡ v.ptr) × (o.before ≡ 0) × (o.items ≡ []) × (o.after ≡ v.cap) in
    qed 𝓛
    ((toks ⊛ ‵ (owns (types_at En.signature.params κs) z.0.3 z.0.4))
    ∷ (raw (fact 𝓤 (κs.0 ⊑ X.lives)) ⊛ raw (fact 𝓤 (κs.1.0 ⊑ Z.lives))
    ⊛ raw (fact 𝓤 (v.items ≡ [])))
    ∷ []) ∵
    move ! (1 ∷ []) $ split ! $ drop ! $ split ! $ drop ! $
    heard ! (v.items ≡ []) (λ none. split ! $ move ! (1 ∷ []) $ fsplit ! $
    handle_tells (record {
      row = S;
      laws = vec_laws.the_row_laws R P g (param_laws 0 X L) (param_laws 1 Z K);
      g = record { dealloc_token = λ _ _ _. ftrue };
      d = d;
      drops = dd;
    })
    ! v z.0.4.0
    (λ u is good.
    let inner = as_fields (layout S ∷ []) (u ∷ []) (good, tt) in
    use1 𝓛 (‵ (places_own R v.ptr 0 [] v.cap) ⊛ ‵ ((Emptied R P g).own_val v (u ∷ [])))
    (room_out R P g 𝓛 v none (u ∷ [])) $
    split ! $
    -- [the places; the words; nothing; the tokens]
    move ! (1 ∷ []) $ nothing ! $ move ! (1 ∷ 0 ∷ []) $ fjoin ! $
    feq_i ! (List Val) (one u ∷ []) (one u ∷ []) refl $ fjoin ! $
    fpack ! (Valss (Emptied R P g ∷ []))
    (within (record { name = []; args = []; types = []; fields = Emptied R P g ∷ [] }) (v, tt)
    (one u ∷ []))
    (u ∷ [], tt) $
    nothing ! $ fpack ! (Typed F.mir (one u ∷ [])) (λ _. ftrue) (inner, tt) $ fjoin ! $
    -- [what the owner owns; the places; nothing; the tokens]
    move ! (1 ∷ []) $
    use0 𝓛 (‵ ((Struct (shape (places.the_type R))).own_val (tt, tt) (mark ∷ []))) (mark_made R 𝓛) $
    fjoin ! $
    nothing ! $ move ! (2 ∷ 0 ∷ []) $ fjoin ! $ move ! (1 ∷ 0 ∷ []) $ fjoin ! $
    feq_i ! (List Val) (two mark (one u) ∷ []) (two mark (one u) ∷ []) refl $ fjoin ! $
    fpack ! (Valss (O ∷ F ∷ []))
    (within (Declared.shape (tuple_type (O ∷ F ∷ []))) (o, (v, tt)) (two mark (one u) ∷ []))
    (mark ∷ [], (one u ∷ [], tt)) $
    suffices ! (Run (u ∷ []))
    (subst (λ (us : List Val). ent 𝓤 (Run (u ∷ [])) (Run us)) (sym (λ i. is i ++ []))
    (id⊢ 𝓤 (Run (u ∷ [])))) $
    enter ! 𝓣.C 𝓣.Λ fn (u ∷ []) Post $ alloc_all ! (λ l. pass_all ! refl (good, tt) $
    sets ! (agg ! (no_more !)) refl (tt, tt) $
    sets ! (agg ! (and_then ! (get ! refl) (no_more !))) refl (tt, (tt, tt)) $
    sets ! (of_opd ! (get ! refl)) refl good $
    sets ! (agg ! (and_then ! (get ! refl) (no_more !))) refl inner $
    sets ! (agg ! (and_then ! (get ! refl) (and_then ! (get ! refl) (no_more !)))) refl
    (as_fields (layout O ∷ layout F ∷ []) (mark ∷ one u ∷ []) ((tt, (tt, tt)), (inner, tt))) $
    returns ! (look_at ! 0 refl) $ free_all ! refl $
    use0 𝓛 (raw (fact 𝓤 (v ≡ v))) (fact_i 𝓤 (v ≡ v) (emp 𝓤) refl) $
    use0 𝓛 (raw (fact 𝓤 Empty)) (fact_i 𝓤 Empty (emp 𝓤) (refl, refl, refl, refl)) $ join ! $
    nothing ! $ nothing ! $ fjoin ! $ keep ! (4 ∷ 0 ∷ 2 ∷ 1 ∷ []) $
    by !
    (leaves 𝓛 En hs c z (two mark (one u)) (o, v) ((tt, (tt, (tt, (tt, tt)))), tt) (tt, tt))))))

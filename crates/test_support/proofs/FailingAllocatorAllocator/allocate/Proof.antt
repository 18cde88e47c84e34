-- The call of the index is refused, and each other one asks the allocator that has the memory.
use Rattle.std.proofs.Common.{◌≡◌, Bool, true, false, List, [], ◌∷◌, refl, ap, w64}
use Rattle.std.proofs.raw_atomic.Walks.{proved, leaves}
use Rattle.std.proofs.alloc.Calls.{Al, Answer, answer_val, seen, Takes, Answered, at_takes}
use Rattle.std.proofs.alloc.Calls.{Takes-goes, Takes-gives, answers, Answer-Ok, Answer-err}
use Rattle.std.proofs.alloc.Calls.{Answer-typed}
use Rattle.std.proofs.VecSteps.Shapes.{after}
use Rattle.std.specs.Prelude.{Ok, Err}
use Rattle.test_support.specs.contracts.FailingAllocatorAllocator.allocate as f
use Rattle.test_support.specs.contracts.FailingAllocator.inner as lends
use Rattle.test_support.specs.contracts.FailingAllocator.is_refused as counts
use Rattle.test_support.specs.contracts.FailingAllocator as heaps
use Rattle.test_support.proofs.FailingAllocatorAllocator.allocate.Statement.{statement}
use Rattle.test_support.proofs.FailingAllocatorAllocator.allocate.Code as code
use Rattle.test_support.proofs.FailingAllocator.inner.Met.{met as lends_met}
use Rattle.test_support.proofs.FailingAllocator.is_refused.Met.{met as counts_met}
use Rattle.test_support.proofs.FailingAllocator.TheLaws.{the_row_laws}
use mir.Syntax.{a_type, named, dcons, dnil}
use mir.MapTy.{inst_fn}
use mir.Val.{Val, vptr}
use base.Logic.{id⊢, emp}
use base.Fml.{ftrue, fsep, flft}
use types.Kit.{‵, raw, at_ret, ◌⊛◌, suffices, rewrite, some, later, ◌$◌, ◌∵◌, !, qed, move, drop}
use types.Kit.{use0, use1, use2, split, join, pick, fsplit, fjoin, feq_i, feq_l, await, done}
use types.Run.{enter, lit, no_more, and_then, first, branches, skips, exec, returns, returns_within}
use types.ByLocal.{alloc_all, pass_all, free_all, look_at, get, is, sets, lands_as, env}
use types.Part.{agg}
use contract.Monad.{fact, fact_i}
use contract.Running.{tables}
use contract.BorrowLft.{⊑_trans}
use denote.Bor.{Bor}
use denote.Builtin.{RefOf, usize, bool}
use denote.Exit.{yes}
use denote.Opens.{shr_dup}
use denote.Param.{param, bounded}
use denote.Param.Laws.{param_laws}
use denote.Plain.{uint_vals, uint_Tells}
use denote.RattleType.{owns}
use denote.RawPtr.{block_ptr}
use denote.Ref.{shr_vals, shr_Tells}
use denote.Signature.{plain, type_at, types_at}
use denote.Steps.{nothing, heard, only}
use denote.Triple.Call.{calls_at}
use denote.Triple.Spec.{triple_of}
use denote.Triple.Table.{framed}
use denote.Triple.Walked.{Stays, walk_of, stay_dropped, Goes-dropped}

-- `allocate` keeps its contract: it refuses its one call, and else asks the inner allocator.
pub allocate_spec : {M : Type 1} → statement M
allocate_spec 𝓤 𝓛 𝓜 𝓡 wired B laws g d dd met drops =
    let Z : Al = record { row = B; laws = laws; g = g; d = d; drops = dd } in
    let T = f.ended B g d dd in
    let c = f.clauses B g d dd 𝓛 𝓜.mem 𝓡.returns in
    let 𝓣 = tables 𝓤 𝓛.H 𝓜 𝓡 𝓡.env in
    let inst = bounded (a_type ∷ []) (B, tt) (dcons d (dcons dd dnil)) in
    let fn = inst_fn inst code.function in
    let Heap = heaps.the_row (param 0 B) in
    let self = RefOf (0 ∷ []) tt (plain (λ _. Heap)) (λ _. tt) in
    let word = plain (λ _. usize) in
    let hs : Stays T.signature.params T.kept =
    (stay_dropped self yes, (stay_dropped word yes, (stay_dropped word yes, tt))) in
    let goes = Goes-dropped 𝓛 2 word yes (λ κs x w. refl) in
    proved 𝓛 T hs c 𝓜 𝓡 (Goes-dropped 𝓛 2 self yes (λ κs x w. refl), (goes, (goes, tt)))
    (f.Key.name inst) fn (code.unfolded 𝓤 𝓛.H 𝓜 𝓡 wired (B, tt) d dd)
    (λ κs. (shr_vals, (uint_vals w64, (uint_vals w64, tt))))
    (λ κs. (shr_Tells (named 0) κs.0 Heap, (uint_Tells w64, (uint_Tells w64, tt))))
    (λ κs qs bounds a τ are.
    let heap = a.0 in let size = a.1.0 in let align = a.1.1.0 in let held = heap.now.inner in
    let κ = κs.0 in
    let q = qs.0 in
    let others = fsep (flft κs.1.0 qs.1.0) ftrue in
    let alive = fsep (flft κ q) others in
    let at_heap = vptr heap.ref_ptr.0 heap.ref_ptr.1 ∷ [] in
    let y : (walk_of 𝓛 T hs c).Ghost =
    ((κs, qs, bounds, a, (shr_vals heap, (uint_vals w64 size, (uint_vals w64 align, tt)))), τ) in
    let Post = (walk_of 𝓛 T hs c).post y in
    let Counts = triple_of 𝓛 (counts.signature B) (counts.spec B g d dd 𝓛 𝓜.mem 𝓡.returns) in
    let asks : Counts.Ghost = ((κs, qs, bounds, (heap, tt), (shr_vals heap, tt)), tt) in
    let Lends = triple_of 𝓛 (lends.signature B) (lends.spec B g d dd 𝓛 𝓜.mem 𝓡.returns) in
    let lent : Lends.Ghost = ((κs, qs, bounds, (heap, tt), (shr_vals heap, tt)), tt) in
    qed 𝓛
    ((‵ alive ⊛ ‵ (owns (types_at T.signature.params κs) a y.0.4)) ∷ raw (fact 𝓤 _) ∷ raw (fact 𝓤 _)
    ∷ []) ∵
    split ! $ move ! (2 ∷ []) $ heard ! _ (λ outlived. move ! (2 ∷ []) $ heard ! _ (λ layout.
    move ! (1 ∷ []) $ fsplit ! $ move ! (1 ∷ []) $ drop ! $ fsplit ! $ feq_l ! (λ e.
    shr_dup ! Heap
    (the_row_laws (param 0 B) (param_laws 0 B laws)).shr_laws heap.now heap.ref_ptr.0 heap.ref_ptr.1
    κ $
    feq_i ! (List Val) at_heap at_heap refl $ fjoin ! $ nothing ! $ move ! (1 ∷ 0 ∷ []) $ fjoin ! $
    move ! (2 ∷ 0 ∷ []) $ join ! $
    nothing ! $ use0 𝓛 (raw (fact 𝓤 _)) (fact_i 𝓤 _ (emp 𝓤) outlived) $ join ! $
    move ! (1 ∷ 0 ∷ []) $ use2 𝓛 (raw (Counts.pre asks)) (id⊢ 𝓤 _) $
    -- [what `is_refused` asks; what a `&` to self has]
    enter ! _ _ _ _ _ $
    alloc_all !
    (λ l. pass_all ! refl
    ((tt, tt), ((tt, record { fits = are.1.0.1 }), ((tt, record { fits = are.1.1.0.1 }), tt))) $
    calls_at ! (framed 𝓤 𝓛.H 𝓜 𝓣) Counts
    (counts_met 𝓤 𝓛 𝓜 𝓡
    (code.calls-test_support::FailingAllocator::is_refused 𝓡.env wired) B laws g d dd met drops)
    asks
    (and_then ! (get ! refl) (no_more !)) (λ v.
    use1 𝓛
    (later (some (λ (r : Bool). (‵ alive ⊛ ‵ (bool.own_val r (v ∷ [])))
    ⊛ some (λ (ws : Unit {0} × Unit {0}). ‵ (fsep ftrue ftrue) ⊛ ‵ ftrue))))
    (id⊢ 𝓤 _) $
    await ! tt $ pick ! (λ r.
    split ! $ split ! $ move ! (2 ∷ []) $
    pick !
    (λ ws. split ! $ drop ! $ drop ! $ move ! (1 ∷ []) $
    feq_l ! (λ e'. lands_as ! (ap only e') refl (tt, tt) $
    -- [the tokens; what a `&` to self has]
    first ! $ branches ! (get ! refl)
    (λ refused. move ! (1 ∷ []) $ drop ! $ sets ! (agg ! (no_more !)) refl (tt, tt) $
    sets ! (is ! (agg ! (and_then ! (lit ! tt) (and_then ! (get ! refl) (no_more !)))) refl) refl
    (Answer-typed false 0 0) $
    returns_within ! Post refl (look_at ! 0 refl) $ free_all ! refl $
    suffices ! _
    (leaves 𝓛 T hs c y (answer_val false 0 0) (Err (record {})) (tt, (tt, (tt, tt)))
    (tt, (tt, (tt, tt)))) $
    nothing ! $
    use0 𝓛 (‵ (Answer.own_val (Err (record {})) (answer_val false 0 0 ∷ []))) (Answer-err 𝓛) $
    join ! $
    nothing ! $ nothing ! $ fjoin ! $ nothing ! $ fjoin ! $ nothing ! $ fjoin ! $ join ! $
    move ! (1 ∷ 0 ∷ []) $ join ! $ done !)
    (λ served. skips ! $ exec ! 𝓣.C 𝓣.Λ (env fn.locals l) (after 2 fn.body) (at_ret _ Post) $
    move ! (1 ∷ []) $ feq_i ! (List Val) at_heap at_heap refl $ fjoin ! $ nothing ! $
    move ! (1 ∷ 0 ∷ []) $ fjoin ! $ move ! (1 ∷ 0 ∷ []) $ join ! $
    nothing ! $ use0 𝓛 (raw (fact 𝓤 _)) (fact_i 𝓤 _ (emp 𝓤) outlived) $ join ! $
    move ! (1 ∷ 0 ∷ []) $ use2 𝓛 (raw (Lends.pre lent)) (id⊢ 𝓤 _) $
    calls_at ! (framed 𝓤 𝓛.H 𝓜 𝓣) Lends
    (lends_met 𝓤 𝓛 𝓜 𝓡
    (code.calls-test_support::FailingAllocator::inner 𝓡.env wired) B laws g d dd met drops)
    lent
    (and_then ! (get ! refl) (no_more !)) (λ w.
    use1 𝓛
    (later (some
    (λ (p : Bor B.Denot). (‵ alive ⊛ ‵ ((type_at (lends.signature B).result κs).own_val p (w ∷ [])))
    ⊛ some (λ (ws : Unit {0} × Unit {0}). ‵ (fsep ftrue ftrue) ⊛ raw (fact 𝓤 (p.now ≡ held))))))
    (id⊢ 𝓤 _) $
    await ! tt $ pick ! (λ p.
    split ! $ split ! $ move ! (2 ∷ []) $ pick ! (λ ws'. split ! $ drop ! $ heard ! _ (λ same.
    move ! (1 ∷ []) $ fsplit ! $
    feq_l !
    (λ e''. rewrite ! 0 (λ (h : B.Denot). ‵ (seen Z κ p.ref_ptr h)) same refl $
    lands_as ! (ap only e'') refl (tt, tt) $
    -- [the `&` to the allocator that has the memory; the tokens]
    let takes = at_takes Z 𝓛 𝓜.mem 𝓡.returns κ q p.ref_ptr held size align τ in
    move ! (1 ∷ []) $ fsplit ! $ move ! (2 ∷ 0 ∷ []) $
    use2 𝓛 (raw ((Takes Z 𝓛 𝓜.mem 𝓡.returns).pre takes))
    (Takes-goes Z 𝓛 𝓜.mem 𝓡.returns κ q p.ref_ptr held
    (⊑_trans κ κs.1.0 B.lives bounds.0 outlived) size align τ layout.0 layout.1 are.1.0.1
    are.1.1.0.1) $
    calls_at ! (framed 𝓤 𝓛.H 𝓜 𝓣) (Takes Z 𝓛 𝓜.mem 𝓡.returns) (met.allocate dd) takes
    (and_then ! (get ! refl) (and_then ! (get ! refl) (and_then ! (get ! refl) (no_more !)))) (λ u.
    use1 𝓛 (later (raw (Answered Z 𝓛 𝓜.mem 𝓡.returns held τ u) ⊛ ‵ (flft κ q)))
    (Takes-gives Z 𝓛 𝓜.mem 𝓡.returns κ q p.ref_ptr held size align τ u) $
    await ! tt $ split ! $
    answers Z ! 𝓜.mem 𝓡.returns held τ u
    (λ b o is.
    lands_as ! is refl (Answer-typed true b o) $ returns ! (look_at ! 0 refl) $ free_all ! refl $
    suffices ! _
    (leaves 𝓛 T hs c y (answer_val true b o) (Ok (block_ptr b o)) (tt, (tt, (tt, tt)))
    (tt, (tt, (tt, tt)))) $
    fjoin ! $
    use0 𝓛 (‵ (Answer.own_val (Ok (block_ptr b o)) (answer_val true b o ∷ []))) (Answer-Ok 𝓛 b o) $
    join ! $
    nothing ! $ nothing ! $ fjoin ! $ nothing ! $ fjoin ! $ nothing ! $ fjoin ! $ join ! $
    move ! (1 ∷ 2 ∷ 0 ∷ []) $ fjoin ! $ join ! $ done !)
    (λ is.
    lands_as ! is refl (Answer-typed false 0 0) $ returns ! (look_at ! 0 refl) $ free_all ! refl $
    suffices ! _
    (leaves 𝓛 T hs c y (answer_val false 0 0) (Err (record {})) (tt, (tt, (tt, tt)))
    (tt, (tt, (tt, tt)))) $
    nothing ! $
    use0 𝓛 (‵ (Answer.own_val (Err (record {})) (answer_val false 0 0 ∷ []))) (Answer-err 𝓛) $
    join ! $
    nothing ! $ nothing ! $ fjoin ! $ nothing ! $ fjoin ! $ nothing ! $ fjoin ! $ join ! $
    move ! (1 ∷ 2 ∷ 0 ∷ []) $ fjoin ! $ join ! $ done !)))))))))))))))))

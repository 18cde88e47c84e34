-- A block goes back to the allocator that gave it.
use Rattle.std.proofs.Common.{◌≡◌, [], ◌∷◌, refl, ap, w64}
use Rattle.std.proofs.raw_atomic.Walks.{proved, leaves}
use Rattle.std.proofs.alloc.Calls.{Al, token, seen, Gives, at_gives, Gives-goes, Gives-Gives}
use Rattle.test_support.specs.contracts.FailingAllocatorAllocator.deallocate as f
use Rattle.test_support.specs.contracts.FailingAllocator.inner as lends
use Rattle.test_support.specs.contracts.FailingAllocator as heaps
use Rattle.test_support.proofs.FailingAllocatorAllocator.deallocate.Statement.{statement}
use Rattle.test_support.proofs.FailingAllocatorAllocator.deallocate.Code as code
use Rattle.test_support.proofs.FailingAllocator.inner.Met.{met as lends_met}
use mir.Syntax.{a_type, named, dcons, dnil}
use mir.MapTy.{inst_fn}
use mir.Val.{vptr, vint, vunit}
use prog.Wp.{WpFn}
use base.Logic.{id⊢, emp, never, fst∗}
use base.Fml.{ftrue, fsep, flft}
use types.Logic.{sem}
use types.Kit.{‵, raw, prop, ◌⊛◌, regoal, suffices, learn, given, rewrite, some, later, ◌$◌, ◌∵◌}
use types.Kit.{
  !,
  qed,
  move,
  drop,
  use0,
  use1,
  use2,
  split,
  join,
  pick,
  fsplit,
  fjoin,
  feq_i,
  feq_l,
}
use types.Kit.{await, done}
use types.Run.{enter, of_opd, unit_lit, no_more, and_then, returns}
use types.ByLocal.{alloc_all, pass_all, free_all, look_at, get, sets, lands_as}
use Rattle.std.specs.Allocator.{owned_block}
use contract.Monad.{fact, fact_i}
use contract.Running.{tables}
use contract.BorrowLft.{⊑_trans}
use denote.Bor.{Bor}
use denote.Builtin.{RefOf, usize}
use denote.Exit.{yes}
use denote.Param.{param, bounded}
use denote.Plain.{uint_vals, uint_Tells}
use denote.RawPtr.{Ptr, RawPtr, ptr_val, block_ptr, null_ptr, in_a_block, rawptr_vals, rawptr_Tells}
use denote.Ref.{shr_vals, shr_Tells}
use denote.RattleType.{owns}
use denote.Signature.{plain, type_at, types_at}
use denote.Steps.{nothing, heard, only}
use denote.Triple.Call.{calls_at}
use denote.Triple.Spec.{triple_of}
use denote.Triple.Table.{framed}
use denote.Triple.Walked.{Stays, walk_of, stay_dropped, Goes-dropped}

-- `deallocate` keeps its contract: it gives the block back to the inner allocator.
pub deallocate_spec : {M : Type 1} → statement M
deallocate_spec 𝓤 𝓛 𝓜 𝓡 wired B laws g d dd met drops =
    let Z : Al = record { row = B; laws = laws; g = g; d = d; drops = dd } in
    let T = f.ended B g d dd in
    let c = f.clauses B g d dd 𝓛 𝓜.mem 𝓡.returns in
    let 𝓣 = tables 𝓤 𝓛.H 𝓜 𝓡 𝓡.env in
    let inst = bounded (a_type ∷ []) (B, tt) (dcons d (dcons dd dnil)) in
    let Heap = heaps.the_row (param 0 B) in
    let self = RefOf (0 ∷ []) tt (plain (λ _. Heap)) (λ _. tt) in
    let word = plain (λ _. usize) in
    let hs : Stays T.signature.params T.kept = (
      stay_dropped self yes,
      (
        stay_dropped (plain (λ _. RawPtr)) yes,
        (stay_dropped word yes, (stay_dropped word yes, tt)),
      ),
    ) in
    let goes = Goes-dropped 𝓛 2 word yes (λ κs x w. refl) in
    proved 𝓛 T hs c 𝓜 𝓡 (
      Goes-dropped 𝓛 2 self yes (λ κs x w. refl),
      (Goes-dropped 𝓛 2 (plain (λ _. RawPtr)) yes (λ κs x w. refl), (goes, (goes, tt))),
    )
    (f.Key.name inst) (inst_fn inst code.function) (code.unfolded 𝓤 𝓛.H 𝓜 𝓡 wired (B, tt) d dd)
    (λ κs. (shr_vals, (rawptr_vals, (uint_vals w64, (uint_vals w64, tt)))))
    (λ κs. (shr_Tells (named 0) κs.0 Heap, (rawptr_Tells, (uint_Tells w64, (uint_Tells w64, tt)))))
    (λ κs qs bounds a τ are.
    let heap = a.0 in
    let block = a.1.0 in
    let size = a.1.1.0 in
    let align = a.1.1.1.0 in
    let held = heap.now.inner in
    let κ = κs.0 in let q = qs.0 in let alive = fsep (flft κ q) (fsep (flft κs.1.0 qs.1.0) ftrue) in
    let y : Ptr → (walk_of 𝓛 T hs c).Ghost =
    λ p. (
      (
        κs,
        qs,
        bounds,
        (heap, (p, (size, (align, tt)))),
        (shr_vals heap, (rawptr_vals p, (uint_vals w64 size, (uint_vals w64 align, tt)))),
      ),
      τ,
    ) in
    let Lends = triple_of 𝓛 (lends.signature B) (lends.spec B g d dd 𝓛 𝓜.mem 𝓡.returns) in
    let asks : Lends.Ghost = ((κs, qs, bounds, (heap, tt), (shr_vals heap, tt)), tt) in
    qed 𝓛
    ((‵ alive ⊛ ‵ (owns (types_at T.signature.params κs) a (y block).0.4)) ∷ raw (fact 𝓤 _)
    ∷ raw (fact 𝓤 _) ∷ ‵ (owned_block (token Z held) τ block) ∷ []) ∵
    split ! $ move ! (2 ∷ []) $ heard ! _ (λ outlived. move ! (2 ∷ []) $ heard ! _ (λ layout.
    move ! (1 ∷ []) $ fsplit ! $ move ! (1 ∷ []) $ drop ! $
    -- [the `&`; the tokens; the block]
    move ! (2 ∷ []) $
    in_a_block ! block (λ p. owned_block (token Z held) τ p)
    (fst∗ 𝓤 (never 𝓤) (sem 𝓛 (token Z held τ null_ptr))) (λ b o at.
    regoal !
    (λ p. prop (WpFn 𝓤 𝓛.H 𝓣.C 𝓣.Λ (inst_fn inst code.function)
    (vptr heap.ref_ptr.0 heap.ref_ptr.1 ∷ ptr_val p ∷ vint w64 size ∷ vint w64 align ∷ [])
    ((walk_of 𝓛 T hs c).post (y p))))
    at refl $
    fsplit ! $ move ! (2 ∷ 3 ∷ []) $ nothing ! $ move ! (1 ∷ 0 ∷ []) $ fjoin ! $
    move ! (1 ∷ 0 ∷ []) $ join ! $
    nothing ! $ use0 𝓛 (raw (fact 𝓤 _)) (fact_i 𝓤 _ (emp 𝓤) outlived) $ join ! $
    move ! (1 ∷ 0 ∷ []) $ use2 𝓛 (raw (Lends.pre asks)) (id⊢ 𝓤 _) $
    -- [what `inner` asks; the block's room; the right to free it]
    enter ! _ _ _ _ _ $
    alloc_all !
    (λ l. pass_all ! refl (
      (tt, tt),
      (
        (tt, tt),
        ((tt, record { fits = are.1.1.0.1 }), ((tt, record { fits = are.1.1.1.0.1 }), tt)),
      ),
    ) $
    calls_at ! (framed 𝓤 𝓛.H 𝓜 𝓣) Lends
    (lends_met 𝓤 𝓛 𝓜 𝓡
    (code.calls-test_support::FailingAllocator::inner 𝓡.env wired) B laws g d dd met drops)
    asks
    (and_then ! (get ! refl) (no_more !)) (λ v.
    use1 𝓛
    (later (some
    (λ (r : Bor B.Denot). (‵ alive ⊛ ‵ ((type_at (lends.signature B).result κs).own_val r (v ∷ [])))
    ⊛ some (λ (ws : Unit {0} × Unit {0}). ‵ (fsep ftrue ftrue) ⊛ raw (fact 𝓤 (r.now ≡ held))))))
    (id⊢ 𝓤 _) $
    await ! tt $ pick ! (λ r.
    split ! $ split ! $ move ! (2 ∷ []) $ pick ! (λ ws. split ! $ drop ! $ heard ! _ (λ same.
    move ! (1 ∷ []) $ fsplit ! $
    feq_l !
    (λ e. rewrite ! 0 (λ (h : B.Denot). ‵ (seen Z κ r.ref_ptr h)) same refl $
    lands_as ! (ap only e) refl (tt, tt) $
    -- [the `&` to the allocator that has the memory; the tokens; the block's room; the right to
    -- free it]
    move ! (1 ∷ []) $ fsplit ! $ move ! (2 ∷ 0 ∷ []) $ join ! $ move ! (3 ∷ 0 ∷ []) $ join ! $
    move ! (2 ∷ 0 ∷ []) $
    use2 𝓛
    (raw ((Gives Z 𝓛 𝓜.mem 𝓡.returns).pre
    (at_gives Z 𝓛 𝓜.mem 𝓡.returns κ q r.ref_ptr held b o size align τ)))
    (Gives-goes Z 𝓛 𝓜.mem 𝓡.returns κ q r.ref_ptr held
    (⊑_trans κ κs.1.0 B.lives bounds.0 outlived) b o size align τ layout.0 layout.1 are.1.1.0.1
    are.1.1.1.0.1) $
    calls_at ! (framed 𝓤 𝓛.H 𝓜 𝓣) (Gives Z 𝓛 𝓜.mem 𝓡.returns) (met.deallocate dd)
    (at_gives Z 𝓛 𝓜.mem 𝓡.returns κ q r.ref_ptr held b o size align τ)
    (and_then ! (get ! refl)
    (and_then ! (get ! refl) (and_then ! (get ! refl) (and_then ! (get ! refl) (no_more !)))))
    (λ u.
    use1 𝓛 (later (given (u ≡ vunit) (‵ (flft κ q))))
    (Gives-Gives Z 𝓛 𝓜.mem 𝓡.returns κ q r.ref_ptr held b o size align τ u) $
    await ! tt $ learn ! (λ is_unit.
    lands_as ! is_unit refl (tt, tt) $ sets ! (of_opd ! (unit_lit !)) refl (tt, tt) $
    returns ! (look_at ! 0 refl) $ free_all ! refl $
    -- [the token of the `&`; the other tokens]
    suffices ! _
    (leaves 𝓛 T hs c (y (block_ptr b o)) vunit tt (tt, (tt, (tt, (tt, tt))))
    (tt, (tt, (tt, (tt, tt))))) $
    nothing ! $ feq_i ! _ (vunit ∷ []) _ refl $ join ! $ nothing ! $ nothing ! $ fjoin ! $
    nothing ! $ fjoin ! $ nothing ! $ fjoin ! $ nothing ! $ fjoin ! $ join ! $
    move ! (1 ∷ 2 ∷ 0 ∷ []) $ fjoin ! $ join ! $ done !))))))))))))

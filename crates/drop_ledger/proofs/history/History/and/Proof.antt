-- `and` makes a value of no bytes, whose ghost field has one item more.
use Rattle.std.proofs.Common.{[], ◌∷◌, ◌++◌, refl}
use Rattle.std.proofs.raw_atomic.Walks.{proved}
use base.Fml.{Fml}
use mir.Syntax.{a_type, named}
use mir.Val.{Val, vptr, vstruct, vcons, vnil}
use mir.MapTy.{inst_fn}
use types.Kit.{‵, raw, ◌⊛◌, ◌$◌, ◌∵◌, !, qed, done, move, keep, split, join, fjoin, use0, suffices}
use types.Run.{no_more, and_then, returns, enter}
use types.Part.{agg}
use types.ByLocal.{alloc_all, pass_all, free_all, look_at, get, sets}
use denote.RattleType.{RattleType, owns}
use denote.Builtin.{RefOf}
use denote.Exit.{yes}
use denote.Param.{layouts, param}
use denote.Ref.{shr_vals, shr_Tells}
use denote.Shadow.{makes_shadow}
use denote.Signature.{plain, type_at, types_at}
use denote.Steps.{nothing}
use denote.Triple.Entry.{Res, alive}
use denote.Triple.Walked.{says, Stays, stay_dropped, walk_of, ends_at, Goes-dropped}
use Rattle.drop_ledger.specs.contracts.history.History as history
use Rattle.drop_ledger.specs.contracts.history.History.and.{ended, clauses}
use Rattle.drop_ledger.specs.contracts.history.History.and.Key.{name as #self}
use Rattle.drop_ledger.proofs.history.History.and.Statement.{statement}
use Rattle.drop_ledger.proofs.history.History.and.Code as code

-- `and` keeps its contract: it gives the history with one more item.
pub and_spec : {M : Type 1} → statement M
and_spec 𝓤 𝓛 𝓜 𝓡 wired U _ =
    let T = ended U in let c = clauses U 𝓛 𝓜.mem 𝓡.returns in
    let inst = layouts (a_type ∷ []) (U, tt) in
    let R : RattleType = param 0 U in
    let H : RattleType = history.the_row R in
    let before = RefOf (0 ∷ []) tt (plain (λ _. H)) (λ _. tt) in
    let added = RefOf (1 ∷ []) tt (plain (λ _. R)) (λ _. tt) in
    let hs : Stays T.signature.params T.kept =
    (stay_dropped before yes, (stay_dropped added yes, tt)) in
    proved 𝓛 T hs c 𝓜 𝓡 (
      Goes-dropped 𝓛 3 before yes (λ κs x f. refl),
      (Goes-dropped 𝓛 3 added yes (λ κs x f. refl), tt),
    )
    (#self inst) (inst_fn inst code.function) (code.unfolded 𝓤 𝓛.H 𝓜 𝓡 wired (U, tt))
    (λ κs. (shr_vals, (shr_vals, tt)))
    (λ κs. (shr_Tells (named 0) κs.0 H, (shr_Tells (named 1) κs.1.0 R, tt)))
    (λ κs qs bounds a gh are.
    let b = a.0 in let x = a.1.0 in
    let p : Val = vptr b.ref_ptr.0 b.ref_ptr.1 in let q : Val = vptr x.ref_ptr.0 x.ref_ptr.1 in
    let y : (walk_of 𝓛 T hs c).Ghost = ((κs, qs, bounds, a, (p ∷ [], (q ∷ [], tt))), gh) in
    let v : Val = vstruct (vcons (vstruct vnil) vnil) in
    let r : Res T.signature κs = record { marker = record {}; items = b.now.items ++ x.now ∷ [] } in
    let O : Fml = (type_at T.signature.result κs).own_val r (v ∷ []) in
    qed 𝓛
    ((raw (alive 𝓛 T.signature κs qs) ⊛ ‵ (owns (types_at T.signature.params κs) a y.0.4))
    ∷ raw ((c κs a).requires gh) ∷ []) ∵
    split ! $ keep ! (0 ∷ []) $ enter ! _ _ _ _ _ $
    alloc_all ! (λ l. pass_all ! refl ((tt, tt), ((tt, tt), tt)) $
    sets ! (agg ! (no_more !)) refl (tt, tt) $
    sets ! (agg ! (and_then ! (get ! refl) (no_more !))) refl (tt, (tt, tt)) $
    returns ! (look_at ! 0 refl) $ free_all ! refl $
    use0 𝓛 (‵ O)
    (makes_shadow 𝓛 O ((λ vss. (tt, ((λ uss. (tt, tt)), tt))), tt)
    (((vstruct vnil ∷ [], tt), (refl, ((tt, (refl, tt)), tt))), tt)) $
    suffices ! _ (ends_at 𝓛 T hs c y v r (tt, (tt, tt)) (tt, (tt, tt))) $ says ! refl $
    nothing ! $ nothing ! $ fjoin ! $ nothing ! $ fjoin ! $ join ! $ move ! (1 ∷ 0 ∷ []) $ join ! $
    done !))

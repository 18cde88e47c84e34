use Rattle.std.proofs.Common.{◌≡◌, ◌∙◌, [], ◌∷◌, ◌++◌, ap, sym, subst}
use Rattle.std.proofs.lemmas.List.{append_assoc}
use Rattle.std.specs.List.{AllZip}
use Rattle.view_service.proofs.Zips.{zip_push}
use Rattle.view_service.proofs.keeper.copies_of.Goals as goal

pub loop-span-preserved : goal.loop-span-preserved
loop-span-preserved g c =
    let inv = c.loop-span.invariant in
    let x = c.in-Some.span.now in
    let y = c.in_ok-clone.field-0 in
    let put : c.push.new.self.items ≡ c.loop-span.copies.items ++ y ∷ [] =
    c.in_ok-push.ensures.items in (
      inv.0 ++ x ∷ [],
      append_assoc inv.0 (x ∷ []) c.next.new.self
          ∙ ap (λ l. inv.0 ++ l) (sym c.in-Some.ensures.steps) ∙ inv.1,
      subst (AllZip g.S.Clone.is_clone (inv.0 ++ x ∷ [])) (sym put)
          (zip_push g.S.Clone.is_clone inv.0 c.loop-span.copies.items x y inv.2
          c.in_ok-clone.ensures.cases),
    )

use Rattle.std.proofs.Common.{ap, List, ◌≡◌, ◌≤◌, ◌∙◌, ◌++◌, ◌∷◌, [], subst, sym}
use Rattle.std.proofs.lemmas.List.{append_assoc}
use Rattle.model_processor.specs.Passes.{PassAccount}
use Rattle.batch_service.specs.Service.{ServiceView}
use Rattle.batch_service.proofs.Stops.{served}
use Rattle.batch_service.proofs.service.Service.end.Goals as goal

pub returns-clause-served : goal.returns-clause-served
returns-clause-served g c =
    let inside = c.self.inside in
    let begun = inside.thread.promise.worker.value in
    let ended = c.join-worker.result.worker in
    let kept = c.join-worker.ensures in
    let inv = c.self.invariant in
    let control = inside.control in
    let shut =
    subst (λ (v : ServiceView). 1 ≤ v.control.shutdowns) (sym c.self.view_is) c.requires.shut in
    let passes = c.args.passes.items in
    let all = c.push_reserved-2.new.self.items in
    let gathered =
    c.gather.ensures.items ∙ ap (λ (xs : List PassAccount). xs ++ passes) inv.1.1.1.0 in
    let with_control =
    c.push_reserved.ensures.items ∙ ap (λ (xs : List PassAccount). xs ++ control ∷ []) gathered in
    let is : all ≡ passes ++ control ∷ ended.names ∷ [] =
    c.push_reserved-2.ensures.items
    ∙ ap (λ (xs : List PassAccount). xs ++ ended.names ∷ []) with_control
    ∙ append_assoc passes (control ∷ []) (ended.names ∷ []) in
    rw (← c.self.view_is)
    (served _ passes c.in-Ok.field-0.desk _ _ begun.worker ended.worker begun.names ended.names
    control c.join-worker.result.end all
    inv.1.0 inv.1.1.0 kept.0 kept.1.0 kept.1.1 inv.0 shut is c.in-Ok.ensures.accounts
    c.in-Ok.ensures.works)

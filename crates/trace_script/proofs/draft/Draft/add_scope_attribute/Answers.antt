use Rattle.std.proofs.Common.{◌≡◌, ◌∙◌, Some, slice_get, length, refl, sym}
use Rattle.std.proofs.lemmas.Bool.{not-false}
use Rattle.std.proofs.lemmas.Option.{slice_get_read}
use Rattle.trace_script.proofs.Drafts.{add_scope_attribute}
use Rattle.trace_script.proofs.draft.Draft.add_scope_attribute.Goals as goal

pub returns : goal.returns
returns g c = λ s h.
    let scopes = c.args.self.now.scopes.items in
    let found : slice_get scopes c.args.number ≡ Some c.in-Some.scope.now =
    slice_get_read scopes
    (length scopes) c.args.number c.in-Some.scope.now refl c.in-Some.ensures.item.3.0
    c.in-Some.ensures.item.1 in
    add_scope_attribute c.args.self.now _ s c.args.number c.in-Some.scope.now c.set.new.self _
    (not-false _ (sym (c.has_steps.ensures s h) ∙ c.if-has_steps.false)) found
    c.in_ok-set.ensures.ok refl h

use Rattle.std.proofs.Common.{◌∙◌, sym}
use Rattle.std.proofs.lemmas.Bool.{not-false}
use Rattle.trace_script.proofs.Drafts.{add_attribute}
use Rattle.trace_script.proofs.draft.Draft.add_attribute.Goals as goal

pub returns : goal.returns
returns g c =
    λ s h. add_attribute c.args.self.now _ s _
    (not-false _ (sym (c.has_steps.ensures s h) ∙ c.if-has_steps.false)) c.in_ok-set.ensures.ok h

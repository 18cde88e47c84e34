use Rattle.std.proofs.Common.{◌∙◌, sym}
use Rattle.std.proofs.lemmas.Bool.{not-false}
use Rattle.trace_script.proofs.Drafts.{set_max_body}
use Rattle.trace_script.proofs.draft.Draft.set_max_body.Goals as goal

pub returns : goal.returns
returns g c =
    λ s h. set_max_body c.args.self.now s c.args.greatest
    (not-false _ (sym (c.has_steps.ensures s h) ∙ c.if-has_steps.false))
    (sym (c.has_max_body.ensures s h) ∙ c.if-has_max_body.false) h

use Rattle.std.proofs.Common.{◌∙◌, sym}
use Rattle.std.proofs.lemmas.Bool.{not-false}
use Rattle.trace_script.proofs.Drafts.{set_desk}
use Rattle.trace_script.proofs.draft.Draft.set_desk.Goals as goal

pub returns : goal.returns
returns g c =
    λ s h. set_desk c.args.self.now s c.args.config
    (not-false _ (sym (c.has_steps.ensures s h) ∙ c.if-has_steps.false))
    (sym (c.has_desk.ensures s h) ∙ c.if-has_desk.false) h

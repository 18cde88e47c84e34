use Rattle.std.proofs.Common.{◌∙◌, sym}
use Rattle.std.proofs.lemmas.Bool.{not-false}
use Rattle.trace_script.proofs.Drafts.{set_limits}
use Rattle.trace_script.proofs.draft.Draft.set_limits.Goals as goal

pub returns : goal.returns
returns g c =
    λ s h. set_limits c.args.self.now s c.args.values
    (not-false _ (sym (c.has_steps.ensures s h) ∙ c.if-has_steps.false))
    (sym (c.has_limits.ensures s h) ∙ c.if-has_limits.false) h

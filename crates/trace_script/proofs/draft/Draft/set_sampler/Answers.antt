use Rattle.std.proofs.Common.{◌∙◌, sym}
use Rattle.std.proofs.lemmas.Bool.{not-false}
use Rattle.trace_script.proofs.Drafts.{set_sampler}
use Rattle.trace_script.proofs.draft.Draft.set_sampler.Goals as goal

pub returns : goal.returns
returns g c =
    λ s h. set_sampler c.args.self.now s c.args.name
    (not-false _ (sym (c.has_steps.ensures s h) ∙ c.if-has_steps.false))
    (sym (c.has_sampler.ensures s h) ∙ c.if-has_sampler.false) h

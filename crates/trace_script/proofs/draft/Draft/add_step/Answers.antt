use Rattle.trace_script.proofs.Drafts.{add_step}
use Rattle.trace_script.proofs.draft.Draft.add_step.Goals as goal

pub returns : goal.returns
returns g c =
    λ s h. add_step c.args.self.now c.push.new.self s c.args.more c.in_ok-push.ensures.items h

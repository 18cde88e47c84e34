use Rattle.trace_script.proofs.Drafts.{add_outcome}
use Rattle.trace_script.proofs.draft.Draft.add_outcome.Goals as goal

pub returns : goal.returns
returns g c =
    λ s h. add_outcome c.args.self.now c.push.new.self s c.args.more c.in_ok-push.ensures.items h

use Rattle.std.proofs.Common.{◌∙◌, sym}
use Rattle.std.proofs.lemmas.Bool.{not-false}
use Rattle.trace_script.proofs.Drafts.{add_words}
use Rattle.trace_script.proofs.draft.Draft.add_words.Goals as goal

pub returns : goal.returns
returns g c =
    λ s h. add_words c.args.self.now c.extend_from_slice.new.self s c.args.more.items
    (not-false _ (sym (c.has_steps.ensures s h) ∙ c.if-has_steps.false))
    (rw (← c.as_slice.ensures.value) c.in_ok-extend_from_slice.ensures.items) h

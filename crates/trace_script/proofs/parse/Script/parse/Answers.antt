use Rattle.std.proofs.Common.{sym, ap, ◌∙◌, rules}
use Rattle.text_words.proofs.Each.{words_at}
use Rattle.trace_script.proofs.Loop.{one_more_line, bad_line, no_more_lines, whole_text}
use Rattle.trace_script.proofs.Kept.{sizes, bad_line_is}
use Rattle.trace_script.proofs.parse.Script.parse.Goals as goal

pub returns-in-Err-Bad-clause-exact : goal.returns-in-Err-Bad-clause-exact
returns-in-Err-Bad-clause-exact g c =
    let all =
    whole_text c.deref-line-items.result.now c.args.text.now
    (ap words_at c.deref-line-items.ensures.value ∙ c.in-Ok.ensures) in
    let so_far = c.loop-index.invariant in
    let bad = (rw c.in-Err-Bad.field-0-is at c.in-Err-Bad.ensures) so_far.0 so_far.1 in
    sym all
    ∙ bad_line so_far.0 c.deref-line-items.result.now c.loop-index.index _ _
    (search rules) bad so_far.2

pub returns-in-Err-Bad-clause-numbered : goal.returns-in-Err-Bad-clause-numbered
returns-in-Err-Bad-clause-numbered g c =
    bad_line_is c.args.text.now _ (returns-in-Err-Bad-clause-exact g c)

pub loop-index-preserved : goal.loop-index-preserved
loop-index-preserved g c =
    let so_far = c.loop-index.invariant in
    let more = c.in-Ok-add_line.ensures so_far.0 so_far.1 in (
      more.0,
      more.2,
      one_more_line so_far.0 more.0 c.deref-line-items.result.now c.loop-index.index _ _
          (search rules) more.1 so_far.2,
    )

pub returns-clause-exact : goal.returns-clause-exact
returns-clause-exact g c =
    let all =
    whole_text c.deref-line-items.result.now c.args.text.now
    (ap words_at c.deref-line-items.ensures.value ∙ c.in-Ok.ensures) in
    let so_far = c.loop-index.invariant in (
      so_far.0,
      sym all
          ∙ no_more_lines so_far.0 c.deref-line-items.result.now c.loop-index.index _
          (search rules) so_far.2,
      c.in_ok-from_draft.ensures so_far.0 so_far.1,
    )

pub returns-clause-sizes : goal.returns-clause-sizes
returns-clause-sizes g c =
    let s = returns-clause-exact g c in sizes c.in_ok-from_draft.field-0 s.0 c.args.text.now s.2 s.1

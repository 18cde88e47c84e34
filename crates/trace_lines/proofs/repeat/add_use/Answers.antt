use Rattle.std.proofs.Common.{◌∙◌, ap, cond, Some}
use Rattle.std.specs.Cmp.Lexicographic.{slice_cmp}
use Rattle.std.specs.Ordering.{is_eq, nat_cmp}
use Rattle.trace_lines.specs.Keys.{value_at}
use Rattle.trace_lines.specs.Repeats.{use_of}
use Rattle.trace_lines.proofs.Keyed.{value_after}
use Rattle.trace_lines.proofs.Repeats.{use_more}
use Rattle.trace_lines.proofs.repeat.add_use.Goals as goal

pub returns : goal.returns
returns g c spans span h is at = record {
  each = λ q.
      use_more spans span q (value_at c.insert.new.self q) c.copied-before.result
      c.next_use.result c.args.place at
      (c.copied-before.ensures ∙ c.get.ensures.value ∙ h.each c.args.id.now
      ∙ ap (use_of spans) is)
      c.next_use.ensures
      (value_after c.args.uses.now c.insert.new.self c.in_ok-key.key c.next_use.result
      c.in_ok-insert.ensures.updates q
      ∙ ap (λ l. cond (is_eq (slice_cmp nat_cmp l q)) (Some c.next_use.result)
      (value_at c.args.uses.now q))
      (c.in_ok-key.ensures.items ∙ is)
      ∙ ap (λ o. cond (is_eq (slice_cmp nat_cmp span.span.span_id.items q))
      (Some c.next_use.result) o)
      (h.each q));
}

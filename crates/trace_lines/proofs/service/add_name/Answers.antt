use Rattle.std.proofs.Common.{◌∙◌, ap, cond, is_some, sym, Some}
use Rattle.std.specs.Cmp.Lexicographic.{slice_cmp}
use Rattle.std.specs.Ordering.{is_eq, nat_cmp}
use Rattle.trace_lines.specs.Keys.{value_at}
use Rattle.trace_lines.proofs.Keyed.{value_after}
use Rattle.trace_lines.proofs.Names.{len_more, name_new, name_there}
use Rattle.trace_lines.proofs.service.add_name.Goals as goal

pub returns-then-contains_key : goal.returns-then-contains_key
returns-then-contains_key g c names h =
    name_there names c.args.name.now c.args.places.now
    (sym (ap is_some (h.each c.args.name.now)) ∙ sym c.contains_key.ensures
    ∙ c.if-contains_key.true)
    h

pub returns : goal.returns
returns g c names h =
    name_new names c.args.name.now c.args.places.now c.insert.new.self c.len-place.result
    (sym (ap is_some (h.each c.args.name.now)) ∙ sym c.contains_key.ensures
    ∙ c.if-contains_key.false)
    h c.len-place.ensures.len
    (λ q. value_after c.args.places.now c.insert.new.self c.in_ok-key.key c.len-place.result
    c.in_ok-insert.ensures.updates q
    ∙ ap (λ l. cond (is_eq (slice_cmp nat_cmp l q)) (Some c.len-place.result)
    (value_at c.args.places.now q))
    c.in_ok-key.ensures.items)
    (len_more _ _ c.in_ok-insert.field-0
    (ap is_some c.in_ok-insert.ensures.old
    ∙ ap (λ l. is_some (value_at c.args.places.now l)) c.in_ok-key.ensures.items
    ∙ sym c.contains_key.ensures ∙ c.if-contains_key.false)
    c.in_ok-insert.ensures.len)

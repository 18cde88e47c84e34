use Rattle.std.proofs.Common.{◌≡◌, ◌-◌, [], length, take, drop, arith, rules, length-drop}
use Rattle.std.proofs.lemmas.List.{map_push, take_all}
use Rattle.std.proofs.lemmas.Result.{err_from_is_err_and}
use Rattle.otlp_value.specs.Value.{attribute_view, attributes_view}
use Rattle.trace_script.proofs.Pairs.{goes_on, stops, is_done, no_value}
use Rattle.trace_script.proofs.value.parse_pairs.Goals as goal

pub returns-in_err-parse_pair : goal.returns-in_err-parse_pair
returns-in_err-parse_pair g c =
    let p = err_from_is_err_and c.from_residual.result c.from_residual.ensures.1 in
    rw (p.1, p.2)
    (stops g.row.A.Denot (attributes_view c.loop-rest.pairs.items) c.loop-rest.rest.now
    (record { ref_ptr = (0, 0); now = [] }) c.in_err-parse_pair.field-0.0 _
    c.in-len2-up.len_at_least c.in_err-parse_pair.ensures c.loop-rest.invariant)

pub loop-rest-preserved : goal.loop-rest-preserved
loop-rest-preserved g c =
    let rest = c.loop-rest.rest.now in
    let others : take (length rest - 2) (drop 2 rest) ≡ drop 2 rest =
    take_all _ _ (omega (arith, length-drop 2 rest)) in
    rw (
      c.in_ok-push.ensures.items,
      map_push attribute_view c.loop-rest.pairs.items c.in_ok-parse_pair.field-0,
      others,
    )
    (goes_on (attributes_view c.loop-rest.pairs.items) rest
    (record { ref_ptr = (0, 0); now = [] }) _ _ c.in-len2-up.len_at_least c.in_ok-parse_pair.ensures
    c.loop-rest.invariant)

pub returns-then-is_empty : goal.returns-then-is_empty
returns-then-is_empty g c =
    is_done (attributes_view c.loop-rest.pairs.items) c.loop-rest.rest.now _
    (search rules) c.loop-rest.invariant

pub returns-else-is_empty : goal.returns-else-is_empty
returns-else-is_empty g c =
    no_value (attributes_view c.loop-rest.pairs.items) c.loop-rest.rest.now _ (search rules)
    (omega arith) c.loop-rest.invariant

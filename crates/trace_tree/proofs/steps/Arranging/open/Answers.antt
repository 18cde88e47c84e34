use Rattle.std.proofs.Common.{ap, map, length, subst, sym, ◌∙◌}
use Rattle.std.specs.List.{range_with_len}
use Rattle.trace_tree.specs.Cycles.{AreInList, IsTree}
use Rattle.trace_tree.specs.Parents.{parents_of}
use Rattle.trace_tree.specs.Rows.{ArePlaced}
use Rattle.trace_tree.specs.Steps.{parents_in}
use Rattle.trace_tree.specs.declared.steps.Kin.{Kin}
use Rattle.trace_tree.proofs.Stepping.{all_parents, all_roots, all_starts, kept_in_list, sound}
use Rattle.trace_tree.proofs.steps.Arranging.open.Goals as goal

pub open_cycles-requires : goal.open_cycles-requires
open_cycles-requires g c =
    subst AreInList
    (sym (c.deref-2.ensures.value ∙ c.in_ok-parents.ensures ∙ ap parents_in c.deref.ensures.value))
    (kept_in_list c.args.self.kins.items)

pub invariant_of-result : goal.invariant_of-result
invariant_of-result g c =
    sound c.args.self.kins.items c.in_ok-tree.tree.items c.in_ok-places.places.items
    c.in_ok-starts.starts.items
    (subst (λ l. IsTree l c.in_ok-tree.tree.items)
    (c.deref-2.ensures.value ∙ c.in_ok-parents.ensures ∙ ap parents_in c.deref.ensures.value)
    c.in_ok-tree.ensures)
    (c.in_ok-places.ensures.as_many ∙ ap length c.deref-3.ensures.value)
    (c.in_ok-starts.ensures.places
    ∙ ap (λ l. range_with_len 0 (length l)) c.deref-6.ensures.value)

pub returns : goal.returns
returns g c spans first = record {
  is_tree =
      subst (λ l. IsTree l c.in_ok-tree.tree.items)
      (c.deref-2.ensures.value ∙ c.in_ok-parents.ensures ∙ ap parents_in c.deref.ensures.value
      ∙ all_parents spans c.args.self first)
      c.in_ok-tree.ensures;
  placed =
      subst (λ l. ArePlaced spans (parents_of spans) l c.in_ok-places.places.items)
      c.deref-5.ensures.value
      (subst (λ l. ArePlaced spans l c.deref-5.result.now c.in_ok-places.places.items)
      (c.deref-4.ensures.value ∙ c.in_ok-parents.ensures ∙ ap parents_in c.deref.ensures.value
      ∙ all_parents spans c.args.self first)
      (c.in_ok-places.ensures.placed spans
      (ap (map (λ (k : Kin). k.names_none)) c.deref-3.ensures.value
      ∙ all_roots spans c.args.self first)));
  starts =
      all_starts spans c.args.self first c.in_ok-starts.starts.items
      (c.in_ok-starts.ensures.places
      ∙ ap (λ l. range_with_len 0 (length l)) c.deref-6.ensures.value)
      (c.in_ok-starts.ensures.each
      ∙ ap (map (λ (k : Kin). k.start_time_unix_nano)) c.deref-6.ensures.value);
}

use Rattle.std.proofs.Common.{◌∙◌, sym, subst}
use Rattle.std.specs.List.Sorted.{IsPermutation}
use Rattle.trace_demo.proofs.SameLosses.{same-losses}
use Rattle.trace_demo.proofs.soak.losses.are_named.Goals as goal

-- sorted, both are one list
pub returns : goal.returns
returns c same =
    let named = c.sort_unstable_by_key.new.self.items in
    let one = same-losses c.as_slice.result.now c.as_slice-2.result.now (sym c.eq.ensures ∙ same) in
    let equal = sym c.as_slice-2.ensures.value ∙ sym one ∙ c.as_slice.ensures.value in
    record {
      sorted = named;
      named_are = rw c.in_ok-named.ensures.items at c.sort_unstable_by_key.ensures.permutation;
      wanted_are =
          rw c.in_ok-wanted.ensures.items at
          (subst (λ xs. IsPermutation c.in_ok-wanted.wanted.items xs) equal
          c.sort_unstable_by_key-2.ensures.permutation);
    }

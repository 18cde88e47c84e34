use Rattle.std.proofs.Common.{◌≡◌, ◌++◌, List}
use Rattle.std.specs.List.{AllZip}
use Rattle.view_service.proofs.keeper.copies_of.Given as goal

-- those that are copied, and those that are left
abbrev pub invariant-loop-span : goal.invariant-loop-span
invariant-loop-span g l = (taken : List g.row.S.Denot) × (taken ++ l.span-iterator ≡ l.spans)
    × AllZip g.S.Clone.is_clone taken l.copies.items

use Rattle.std.proofs.Common.{rules, sym, subst}
use Rattle.view_service.specs.Routes.{AreTraceDigits}
use Rattle.view_service.proofs.Strips.{left_between}
use Rattle.view_service.proofs.route.trace_between.Goals as goal

pub returns-in-Err : goal.returns-in-Err
returns-in-Err c digits is are =
    let left =
    left_between _ _ _ _ _ digits c.in-Some.ensures.cases c.in-Some-strip_suffix.ensures.cases is in
    let there = subst AreTraceDigits (sym left) are in
    let ok = c.from_hex.ensures.ok in
    let err = c.in-Err.is in
    search rules

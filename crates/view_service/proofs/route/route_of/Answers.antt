use Rattle.std.proofs.Common.{refl}
use Rattle.view_service.specs.Routes.{Names}
use Rattle.view_service.proofs.route.route_of.Goals as goal

pub returns-in-Some-trace_between : goal.returns-in-Some-trace_between
returns-in-Some-trace_between c =
    Names.page c.in-Some-trace_between.trace c.in-Some-trace_between.ensures refl

pub returns-in-Some-trace_between-2 : goal.returns-in-Some-trace_between-2
returns-in-Some-trace_between-2 c =
    Names.text c.in-Some-trace_between-2.trace c.in-Some-trace_between-2.ensures refl

pub returns-in-Some-trace_between-3 : goal.returns-in-Some-trace_between-3
returns-in-Some-trace_between-3 c =
    Names.api c.in-Some-trace_between-3.trace c.in-Some-trace_between-3.ensures refl

use Rattle.std.proofs.Common.{refl, subst}
use Rattle.std.specs.Option.{option_copied}
use Rattle.traced_http.specs.Serves.{serving}
use Rattle.traced_http.proofs.Started.{ends-as}
use Rattle.traced_http.proofs.Served.{serves}
use Rattle.traced_http.proofs.server.service.TracedServiceService.call.Goals as goal

pub returns-clause-ok : goal.returns-clause-ok
returns-clause-ok g c =
    serves g.S.Sampler.meaning g.R.Rng.stream g.C.Clock.tells g.H.Handler.routes g.H.Handler.answers
    g.P.EndPass.admits
    (serving c.args.self.now) _ c.args.request.now c.lend-span.new.response _ _
    (option_copied c.route-route.result) c.now-begun.result c.now-ended.result
    c.start_if_any-span.result
    (record { span = c.lend-span.result.span; left_out = c.lend-span.result.left_out })
    c.end_if_any-has_ended.result
    c.now-begun.ensures
    (subst (λ k. g.C.Clock.tells k c.now-ended.result) c.start_if_any-span.ensures.clock
    c.now-ended.ensures)
    c.route-route.ensures c.start_if_any-span.ensures.started c.lend-span.ensures.goes_on
    c.lend-span.ensures.answered c.say_date.ensures
    (ends-as _ _ _ _ _ _ _ _ c.ending_of.ensures c.end_if_any-has_ended.ensures.ended)
    c.end_if_any-has_ended.ensures.untouched c.count_untraced-self.ensures
    c.saturating_add-self.ensures
    c.start_if_any-span.ensures.tracer c.start_if_any-span.ensures.clock
    (rw c.start_if_any-span.ensures.server refl)

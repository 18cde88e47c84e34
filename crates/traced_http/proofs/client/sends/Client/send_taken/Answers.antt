use Rattle.std.proofs.Common.{refl, ap, ◌∙◌}
use Rattle.trace_context.specs.Pairs.{fields_view}
use Rattle.traced_http.proofs.Closed.{closes}
use Rattle.traced_http.proofs.Started.{ends-as}
use Rattle.traced_http.proofs.Traced.{sends}
use Rattle.traced_http.proofs.client.sends.Client.send_taken.Goals as goal

pub returns : goal.returns
returns g c =
    rw (← c.self.view_is)
    (sends _ _ _ _ _ _ _ _ _ _ _ _ _ c.now-begun.result c.now-ended.result c.begin-span.result.span
    c.begin-span.ensures.started.0 (fields_view c.deref.result.now) c.end_if_any-has_ended.result
    c.now-begun.ensures c.now-ended.ensures
    c.begin-span.ensures.started.1 c.begin-span.ensures.started.2
    (ap fields_view c.deref.ensures.value ∙ c.begin-span.ensures.carried) c.ask-reply.ensures
    (closes _ _ _ _ _ _ _ _ c.say_version-said.ensures
    (ends-as _ _ _ _ _ _ _ _ c.ending_of.ensures c.end_if_any-has_ended.ensures.ended))
    c.end_if_any-has_ended.ensures.untouched
    c.count_untraced-self-inside.ensures refl refl refl)

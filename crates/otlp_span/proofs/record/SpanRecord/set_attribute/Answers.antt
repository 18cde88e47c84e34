use Rattle.std.proofs.Common.{◌≡◌, sym, ap, subst, ◌∙◌, string_bytes}
use Rattle.otlp_value.specs.Value.{value_view}
use Rattle.otlp_span.specs.Body.{IsLimited, recording_view}
use Rattle.otlp_span.proofs.Recorded.{on-ok, set-adds}
use Rattle.otlp_span.proofs.record.SpanRecord.set_attribute.Goals as goal

pub returns-clause-ok : goal.returns-clause-ok
returns-clause-ok g c =
    let before : recording_view c.deref_mut.result.now ≡ c.args.self.now =
    ap recording_view c.deref_mut.ensures.value ∙ c.self.view_is in
    let limited : IsLimited c.deref_mut.result.now =
    subst IsLimited (sym c.deref_mut.ensures.value) c.self.invariant.0 in
    rw (← before) (on-ok c.set.result
    (set-adds c.deref_mut.result.now
    (record { key = string_bytes c.args.key; value = value_view c.args.value }) c.set.new.self
    limited)
    c.set.ensures.ok)

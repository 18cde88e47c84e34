use Rattle.std.proofs.Common.{◌∙◌, ap, subst, map, take, drop, suc, take_all, refl}
use Rattle.model_span.specs.Spans.{Adds, is_end}
use Rattle.otlp_span.specs.Parts.{call_view, start_view, opened_recording}
use Rattle.otlp_span.proofs.Recorded.{stays, from-index, through-index, ended, no-end, unended}
use Rattle.otlp_span.proofs.calls.replay.Goals as goal

pub returns-in-End : goal.returns-in-End
returns-in-End g c =
    let i = c.loop-call.invariant in
    let all =
    from-index call_view c.args.calls.now c.loop-call.call-index c.call-item.result
    c.loop-call-test.true c.call-item.is in
    ended (opened_recording c.args.limits.now c.args.opening) c.loop-call.record c.close.result
    (start_view c.args.opening) (map call_view (take c.loop-call.call-index c.args.calls.now))
    (map call_view (drop (suc c.loop-call.call-index) c.args.calls.now)) c.in-End.at i.place i.value
    c.close.ensures
    ∙ rw (all, c.in-End.is) refl

pub call-requires : goal.call-requires
call-requires g c =
    ap is_end c.in_ok-copy-in_default.ensures.value ∙ no-end c.call-item.result c.in_default.not-End

pub loop-call-preserved : goal.loop-call-preserved
loop-call-preserved g c =
    let i = c.loop-call.invariant in
    let added =
    subst (λ call. Adds call c.loop-call.record c.call.new.self)
    c.in_ok-copy-in_default.ensures.value c.in_ok-call-in_default.ensures.ok in
    record {
      place = stays _ _ _ i.place added.place;
      value =
          rw (through-index call_view c.args.calls.now c.loop-call.call-index c.call-item.result
          c.loop-call-test.true c.call-item.is)
          (added.value (start_view c.args.opening) _ i.value);
    }

pub returns : goal.returns
returns g c =
    let i = c.loop-call.invariant in
    unended (opened_recording c.args.limits.now c.args.opening) c.loop-call.record c.close-2.result
    (start_view c.args.opening)
    (map call_view (take c.loop-call.call-index c.args.calls.now)) i.place i.value c.close-2.ensures
    ∙ rw (take_all c.loop-call.call-index c.args.calls.now c.loop-call-test.false) refl

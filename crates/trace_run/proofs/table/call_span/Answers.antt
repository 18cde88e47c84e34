use Rattle.std.proofs.Common.{◌∙◌, sym, refl, true≢false}
use Rattle.trace_run.proofs.SpanCalls.{does-nothing, not-end, where-made, where-refused}
use Rattle.trace_run.proofs.table.call_span.Goals as goal

pub returns-in-End : goal.returns-in-End
returns-in-End g c = record {
  made = λ k. true≢false (rw c.in-End.is at k);
  asks_nothing = λ k. absurd (true≢false (rw c.in-End.is at k));
  ended = rw c.in-End.is (record {
    does = c.end.ensures.ended;
    said = c.end.result;
    answered = refl;
    already_ended = c.end.ensures.already_ended;
    not_sampled = c.end.ensures.not_sampled;
    sampled = c.end.ensures.sampled;
  });
}

pub returns-then-not-is_recording : goal.returns-then-not-is_recording
returns-then-not-is_recording g c =
    let call = not-end c.args.call.now c.in_default.not-End in
    record {
      made =
          λ k. does-nothing _ c.args.span.now k
          (sym c.is_recording.ensures ∙ c.if-not-is_recording.true);
      asks_nothing = λ k. refl;
      ended = rw call.1 tt;
    }

pub returns-then-is_err : goal.returns-then-is_err
returns-then-is_err g c =
    let call = not-end c.args.call.now c.in_default.not-End in
    record {
      made = λ k. (
        sym c.is_recording.ensures ∙ c.if-not-is_recording.false,
        where-refused c.copy_call.result
            (sym c.is_err.ensures.value ∙ c.if-is_err.true) c.copy_call.ensures.refused,
        where-refused c.copy_call.result
            (sym c.is_err.ensures.value ∙ c.if-is_err.true) c.copy_call.ensures.err,
      );
      asks_nothing = λ k. c.copy_call.ensures.asks_nothing;
      ended = rw call.1 tt;
    }

pub returns : goal.returns
returns g c =
    let call = not-end c.args.call.now c.in_default.not-End in
    record {
      made =
          λ k. where-made c.copy_call.result
          (sym c.is_err.ensures.value ∙ c.if-is_err.false) c.copy_call.ensures.ok;
      asks_nothing = λ k. c.copy_call.ensures.asks_nothing;
      ended = rw call.1 tt;
    }

use Rattle.std.proofs.Common.{ap, ◌∙◌, option_map}
use Rattle.trace_api.specs.Starts.{ids_view}
use Rattle.trace_api.proofs.Drawn.{no-trace, after-trace}
use Rattle.trace_api.proofs.provider.draw_ids.Goals as goal

pub returns-in_err-trace : goal.returns-in_err-trace
returns-in_err-trace g c =
    let done = no-trace _ _ _ c.in_err-trace.ensures.value c.in_err-trace.ensures.spent in
    record { value = ap (option_map ids_view) c.from_residual.ensures ∙ done.0; spent = done.1 }

pub returns-in_err-span : goal.returns-in_err-span
returns-in_err-span g c =
    let done =
    after-trace _ _ _ _ _ _ c.in_ok-trace.ensures.value c.in_ok-trace.ensures.spent
    c.in_err-span.ensures.value c.in_err-span.ensures.spent in
    record {
      value = ap (option_map ids_view) c.from_residual-in_err-span.ensures ∙ done.0;
      spent = done.1;
    }

pub returns : goal.returns
returns g c =
    let done =
    after-trace _ _ _ _ _ _ c.in_ok-trace.ensures.value c.in_ok-trace.ensures.spent
    c.in_ok-span.ensures.value c.in_ok-span.ensures.spent in
    record { value = done.0; spent = done.1 }

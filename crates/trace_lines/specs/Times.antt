-- When spans ran, and where their bars are in the time of their trace.
use Rattle.std.specs.Prelude.{ℕ, ◌-◌, ◌*◌, ◌/◌, ◌^◌, min, max, Bool, ◌==◌, nat_lt, if◌then◌else◌}
use Rattle.std.specs.Prelude.{List, fold}
use Rattle.otlp_read.specs.declared.span.Span.{Span}
use Rattle.trace_tree.specs.declared.draw.Frame.{Frame}
use Rattle.trace_store.specs.Facts.{end_of}
use Rattle.trace_store.specs.declared.span.ViewSpan.{ViewSpan}

-- whether it ends before it starts
abbrev pub ends_early : {A : Type 0} → Span A → Bool
ends_early span = nat_lt span.end_time_unix_nano span.start_time_unix_nano

-- how long it took: nothing where it ends before it starts
abbrev pub time_of : {A : Type 0} → Span A → ℕ
time_of span = span.end_time_unix_nano - span.start_time_unix_nano

-- the time that no span takes, and that with one more span
abbrev pub no_time : Frame
no_time = record { from = 2 ^ 64 - 1; until = 0 }

abbrev pub frame_with : {A : Type 0} → Frame → Span A → Frame
frame_with frame span = record {
  from = min frame.from span.start_time_unix_nano;
  until = max frame.until (end_of span);
}

-- the time from the earliest start to the latest end
abbrev pub frame_of : {A : Type 0} → List (ViewSpan A) → Frame
frame_of spans = fold (λ frame s. frame_with frame s.span) no_time spans

-- how long after the start of the trace a time is, in ten thousandths of the time that it takes
unfoldable pub share_of : Frame → ℕ → ℕ
share_of frame time =
    if frame.until - frame.from == 0 then 0
    else min ((time - frame.from) * 10000 / (frame.until - frame.from)) 10000

-- how wide the bar of a span is
abbrev pub width_of : {A : Type 0} → Span A → Frame → ℕ
width_of span frame = share_of frame (end_of span) - share_of frame span.start_time_unix_nano

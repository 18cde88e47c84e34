-- Facts of answers.
use Rattle.std.proofs.Common.{Result, Ok, Err, OnOk, OnErr}
use Rattle.model_span.specs.Spans.{SpanRecord}
use Rattle.model_span.specs.Starts.{SpanState, recording, not_recording, ended}
use Rattle.trace_api.specs.Calls.{IsRecordingWith}

-- What holds of a success carries over to whatever follows from it.
pub on-ok : {T E : Type 0} {P Q : Type 0} (r : Result T E) → (P → Q) → OnOk r P → OnOk r Q
on-ok (Ok x) f h = f h
on-ok (Err e) f h = tt

-- What holds of an error carries over to whatever follows from it.
pub on-err : {T E : Type 0} {P Q : Type 0} (r : Result T E) → (P → Q) → OnErr r P → OnErr r Q
on-err (Ok x) f h = tt
on-err (Err e) f h = f h

-- What holds of the record of a recording span carries over to whatever follows from it.
pub recording-with : {P Q : SpanRecord → Type 0} (state : SpanState)
    → ((r : SpanRecord) → P r → Q r) → IsRecordingWith P state → IsRecordingWith Q state
recording-with (recording r) f h = f r h
recording-with not_recording f h = h
recording-with ended f h = h

-- A fact that follows from any record holds where a span is recording.
pub said-with : {P : SpanRecord → Type 0} {Q : Type 0} (state : SpanState)
    → ((r : SpanRecord) → P r → Q) → IsRecordingWith P state → Q
said-with (recording r) f h = f r h
said-with not_recording f h = absurd h
said-with ended f h = absurd h

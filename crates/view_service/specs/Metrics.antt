-- What is counted, as Prometheus reads it. (Prometheus, "Exposition formats", text format 0.0.4)
use Rattle.std.specs.Prelude.{ℕ, Option, Some, None, List, [], ◌∷◌, ◌++◌, codes, decimal}
use Rattle.std.specs.List.{flat_map}
use Rattle.view_json.specs.declared.list.Stats.{Stats}
use Rattle.otlp_receiver.specs.Metrics.{help_text, metric_text, sample_text, type_text}
use Rattle.view_service.specs.declared.metrics.Answered.{Answered}

-- how many answers had a status, whose number is between two `"` (34)
unfoldable pub answered_text : Answered → List ℕ
answered_text answered = codes "trace_view_answers_total{status=" ++ 34 ∷ []
    ++ decimal answered.status ++ 34 ∷ [] ++ sample_text (codes "}") answered.answers

-- the metrics of the spans
unfoldable pub span_metrics : Stats → List ℕ
span_metrics stats =
    metric_text (codes "trace_view_spans_received_total") (codes "Spans that were received.")
    (codes "counter") stats.received
    ++ metric_text (codes "trace_view_spans_kept") (codes "Spans that are kept.")
    (codes "gauge") stats.kept
    ++ metric_text (codes "trace_view_spans_evicted_total") (codes "Spans that were evicted.")
    (codes "counter") stats.evicted

-- the metrics of the traces
unfoldable pub trace_metrics : Stats → List ℕ
trace_metrics stats =
    metric_text (codes "trace_view_traces_kept") (codes "Traces that are kept.")
    (codes "gauge") stats.traces
    ++ metric_text (codes "trace_view_traces_evicted_total") (codes "Traces that were evicted.")
    (codes "counter") stats.evicted_traces

-- how many bytes are pending, where that is known
unfoldable pub pending_metric : Option ℕ → List ℕ
pending_metric None = []
pending_metric (Some bytes) = metric_text (codes "trace_view_pending_bytes")
    (codes "Bytes of requests and answers that are pending.") (codes "gauge") bytes

-- the answers, status by status
unfoldable pub answer_metrics : List Answered → List ℕ
answer_metrics answered =
    help_text (codes "trace_view_answers_total") (codes "Answers, by their status.")
    ++ type_text (codes "trace_view_answers_total") (codes "counter")
    ++ flat_map answered_text answered

-- all metrics
unfoldable pub metrics_text : Stats → List Answered → ℕ → List ℕ
metrics_text stats answered connections = span_metrics stats ++ trace_metrics stats
    ++ pending_metric stats.pending_bytes
    ++ metric_text (codes "trace_view_connections_total") (codes "Connections that were taken.")
    (codes "counter") connections
    ++ answer_metrics answered

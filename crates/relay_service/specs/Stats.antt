-- What became of what was received, in JSON and as Prometheus reads it. (profile; Prometheus,
-- "Exposition formats", text format 0.0.4)
use Rattle.std.specs.Prelude.{ℕ, List, [], ◌∷◌, ◌++◌, codes}
use Rattle.json.specs.Token.{Token, begin_object, end_object, key}
use Rattle.otlp_receiver.specs.Metrics.{metric_text}
use Rattle.otlp_json.specs.Seen.{number_member}
use Rattle.relay_queue.specs.declared.report.Amounts.{Amounts}
use Rattle.relay_queue.specs.declared.report.Report.{Report}

-- amounts, as the member with this name
unfoldable pub amount_members : List ℕ → Amounts → List Token
amount_members name amounts = key name ∷ begin_object
    ∷ (number_member (codes "received") amounts.received
    ++ number_member (codes "kept") amounts.kept
    ++ number_member (codes "delivered") amounts.delivered
    ++ number_member (codes "lost") amounts.lost ++ end_object ∷ [])

-- a report
unfoldable pub stats_tokens : Report → List Token
stats_tokens report = begin_object ∷ (amount_members (codes "bodies") report.bodies
    ++ amount_members (codes "spans") report.spans
    ++ number_member (codes "rejectedSpans") report.rejected_spans
    ++ number_member (codes "unwrittenNames") report.unwritten_names
    ++ number_member (codes "waitingBytes") report.waiting_bytes
    ++ number_member (codes "attempts") report.attempts
    ++ number_member (codes "refusals") report.refusals ++ end_object ∷ [])

-- the metrics of bodies
unfoldable pub body_metrics : Amounts → List ℕ
body_metrics amounts =
    metric_text (codes "otlp_relay_bodies_received_total") (codes "Bodies that were received.")
    (codes "counter") amounts.received
    ++ metric_text (codes "otlp_relay_bodies_kept") (codes "Bodies that are kept.")
    (codes "gauge") amounts.kept
    ++ metric_text (codes "otlp_relay_bodies_delivered_total")
    (codes "Bodies that a collector took.") (codes "counter") amounts.delivered
    ++ metric_text (codes "otlp_relay_bodies_lost_total") (codes "Bodies that are lost.")
    (codes "counter") amounts.lost

-- the metrics of spans
unfoldable pub span_metrics : Amounts → List ℕ
span_metrics amounts =
    metric_text (codes "otlp_relay_spans_received_total") (codes "Spans that were received.")
    (codes "counter") amounts.received
    ++ metric_text (codes "otlp_relay_spans_kept") (codes "Spans that are kept.")
    (codes "gauge") amounts.kept
    ++ metric_text (codes "otlp_relay_spans_delivered_total")
    (codes "Spans that a collector took.") (codes "counter") amounts.delivered
    ++ metric_text (codes "otlp_relay_spans_lost_total") (codes "Spans that are lost.")
    (codes "counter") amounts.lost

-- the metrics of spans whose names are nowhere: no reply says them, or they could not be written
unfoldable pub nameless_metrics : Report → List ℕ
nameless_metrics report =
    metric_text (codes "otlp_relay_spans_rejected_total")
    (codes "Spans that a collector rejected of bodies that it took.")
    (codes "counter") report.rejected_spans
    ++ metric_text (codes "otlp_relay_unwritten_names")
    (codes "Names of lost spans that are not written, since that failed.")
    (codes "gauge") report.unwritten_names

-- all metrics of a report, and the connections that were taken
unfoldable pub metrics_text : Report → ℕ → List ℕ
metrics_text report connections = body_metrics report.bodies ++ span_metrics report.spans
    ++ nameless_metrics report
    ++ metric_text (codes "otlp_relay_refused_requests")
    (codes "Requests in a row that the collector refused whatever they had.")
    (codes "gauge") report.refusals
    ++ metric_text (codes "otlp_relay_waiting_bytes") (codes "Bytes of bodies that are kept.")
    (codes "gauge") report.waiting_bytes
    ++ metric_text (codes "otlp_relay_attempts_total") (codes "Attempts to hand bodies on.")
    (codes "counter") report.attempts
    ++ metric_text (codes "otlp_relay_connections_total") (codes "Connections that were taken.")
    (codes "counter") connections

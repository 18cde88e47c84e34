use Rattle.trace_script.proofs.text.queued_spans.Goals as goal

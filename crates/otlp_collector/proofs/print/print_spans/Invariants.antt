use Rattle.std.proofs.Common.{◌≡◌, map, take}
use Rattle.std.specs.Io.KnownBytes.{Appends}
use Rattle.otlp_read.specs.Triples.{triple_view}
use Rattle.otlp_collector.specs.Lines.{spans_text}
use Rattle.otlp_collector.proofs.print.print_spans.Given as goal

-- the lines of the spans below the index went out, and nothing failed
abbrev pub invariant-loop-triple : goal.invariant-loop-triple
invariant-loop-triple g l =
    let contents = g.W.FaultWrite.contents in
    let failures = g.W.FaultWrite.failures in
    Appends (contents l.initial.writer) (contents l.writer)
    (spans_text (map triple_view (take l.triple-index l.triple-items)))
    × (failures l.writer ≡ failures l.initial.writer)

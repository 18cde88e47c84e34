use Rattle.std.proofs.Common.{◌≡◌, ◌++◌, string_bytes, drop}
use Rattle.std.specs.List.{flat_map}
use Rattle.otlp_read.specs.Spans.{links_view}
use Rattle.otlp_collector.specs.Lines.{link_lines}
use Rattle.otlp_collector.proofs.line.push_links.Given as goal

-- what is written, and then the lines of the links that are left, are all
abbrev pub invariant-loop-link : goal.invariant-loop-link
invariant-loop-link g l =
    string_bytes l.out ++ flat_map link_lines (links_view (drop l.link-index l.links))
    ≡ string_bytes l.initial.out ++ flat_map link_lines (links_view l.links)

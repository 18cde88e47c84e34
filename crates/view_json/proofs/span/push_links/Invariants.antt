use Rattle.std.proofs.Common.{◌≡◌, ◌++◌, drop}
use Rattle.std.specs.List.{flat_map}
use Rattle.otlp_json.specs.Seen.{seen}
use Rattle.view_json.specs.Spans.{link_seen}
use Rattle.view_json.proofs.span.push_links.Given as goal

-- what is written, and then those that are left, are all
abbrev pub invariant-loop-link : goal.invariant-loop-link
invariant-loop-link g l = record {
  written : seen l.out.tokens ++ flat_map link_seen (drop l.link-index l.links)
      ≡ seen l.fn.out.tokens ++ flat_map link_seen l.links;
  before : l.out.before ≡ l.fn.out.before;
}

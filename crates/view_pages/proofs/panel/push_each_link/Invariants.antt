use Rattle.std.proofs.Common.{◌≡◌, ◌++◌, string_bytes, drop}
use Rattle.view_pages.specs.Html.{each, html_bytes}
use Rattle.view_pages.specs.Panels.{link_html}
use Rattle.view_pages.proofs.panel.push_each_link.Given as goal

-- what is written, and then the links that are left, are all
abbrev pub invariant-loop-link : goal.invariant-loop-link
invariant-loop-link g l =
    string_bytes l.out ++ html_bytes (each link_html (drop l.link-index l.links))
    ≡ string_bytes l.initial.out ++ html_bytes (each link_html l.links)

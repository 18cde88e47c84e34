use Rattle.std.proofs.Common.{◌≡◌, ◌++◌, length, string_bytes, drop}
use Rattle.view_pages.specs.Html.{each, html_bytes}
use Rattle.view_pages.specs.Values.{any_html, item_html, pair_html}
use Rattle.view_pages.proofs.value.+value.Given as goal

-- what is written, and then what is left of the list, are all
abbrev pub invariant-push_array-loop-value : goal.invariant-push_array-loop-value
invariant-push_array-loop-value g l =
    string_bytes l.out ++ html_bytes (each item_html (drop l.value-index l.values))
    ≡ string_bytes l.initial.out ++ html_bytes (each item_html l.values)

abbrev pub invariant-push_list-loop-key : goal.invariant-push_list-loop-key
invariant-push_list-loop-key g l =
    string_bytes l.out ++ html_bytes (each pair_html (drop l.key-index l.pairs))
    ≡ string_bytes l.initial.out ++ html_bytes (each pair_html l.pairs)

-- a value's text is longer than what is listed in it, and that is longer than each part's
abbrev pub decreases-push_value : goal.decreases-push_value
decreases-push_value g l = length (html_bytes (any_html l.value.now))

abbrev pub decreases-push_array : goal.decreases-push_array
decreases-push_array g l = length (html_bytes (each item_html l.values.now))

abbrev pub decreases-push_list : goal.decreases-push_list
decreases-push_list g l = length (html_bytes (each pair_html l.pairs.now))

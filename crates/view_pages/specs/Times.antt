-- How long something took, in words.
use Rattle.std.specs.Prelude.{ℕ, ◌/◌, ◌%◌, nat_lt, if◌then◌else◌, List, codes}
use Rattle.view_pages.specs.Html.{Html, Markup, Number, ◌▹◌}

-- so many nanoseconds in a unit of so many, with two digits after the point
unfoldable pub scaled : ℕ → ℕ → List ℕ → Html
scaled nanos unit name =
    Number (nanos / unit) ▹ Markup (codes ".") ▹ Number (nanos % unit / (unit / 10))
    ▹ Number (nanos % unit / (unit / 100) % 10) ▹ Markup name

-- how long something took: in nanoseconds, microseconds, milliseconds or seconds
unfoldable pub duration : ℕ → Html
duration nanos =
    if nat_lt nanos 1_000 then Number nanos ▹ Markup (codes " ns")
    else (if nat_lt nanos 1_000_000 then scaled nanos 1_000 (codes " us")
    else (if nat_lt nanos 1_000_000_000 then scaled nanos 1_000_000 (codes " ms")
    else scaled nanos 1_000_000_000 (codes " s")))

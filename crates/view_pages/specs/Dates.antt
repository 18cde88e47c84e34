-- Dates and times of day in UTC, as RFC 3339, section 5.6, writes them.
use Rattle.std.specs.Prelude.{ℕ, ◌+◌, ◌/◌, ◌%◌, codes}
use Rattle.trace_lines.specs.Dates.{month_of, year_of}
use Rattle.trace_lines.specs.declared.date.MonthDay.{MonthDay}
use Rattle.trace_lines.specs.declared.date.YearDay.{YearDay}
use Rattle.view_pages.specs.Html.{Html, Markup, Number, ◌▹◌}

-- two digits, and three
unfoldable pub two_html : ℕ → Html
two_html n = Number (n / 10) ▹ Number (n % 10)

unfoldable pub three_html : ℕ → Html
three_html n = Number (n / 100) ▹ two_html (n % 100)

-- the date of a day
unfoldable pub date_html : YearDay → MonthDay → Html
date_html y m =
    Number y.year ▹ Markup (codes "-") ▹ two_html m.month ▹ Markup (codes "-")
    ▹ two_html (m.day + 1)

-- the date of the day that is so many days after 1 January 1970
abbrev pub day_html : ℕ → Html
day_html days = date_html (year_of days) (month_of (year_of days))

-- the hour, the minute and the second
unfoldable pub hour_html : ℕ → Html
hour_html seconds =
    two_html (seconds / 3600 % 24) ▹ Markup (codes ":") ▹ two_html (seconds / 60 % 60)
    ▹ Markup (codes ":") ▹ two_html (seconds % 60)

-- nine digits of a second
unfoldable pub fraction_html : ℕ → Html
fraction_html nanos =
    three_html (nanos / 1_000_000) ▹ three_html (nanos / 1_000 % 1_000) ▹ three_html (nanos % 1_000)

-- a date and a time, of nanoseconds since 1970
unfoldable pub moment_html : ℕ → Html
moment_html nanos =
    day_html (nanos / 1_000_000_000 / 86_400) ▹ Markup (codes "T")
    ▹ hour_html (nanos / 1_000_000_000) ▹ Markup (codes ".")
    ▹ fraction_html (nanos % 1_000_000_000) ▹ Markup (codes "Z")

-- the same to the second, as lists have it
unfoldable pub second_html : ℕ → Html
second_html nanos =
    day_html (nanos / 1_000_000_000 / 86_400)
    ▹ Markup (codes " ") ▹ hour_html (nanos / 1_000_000_000)

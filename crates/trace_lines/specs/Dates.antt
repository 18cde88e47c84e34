-- Days of years and of months, by the calendar of RFC 3339.
use Rattle.std.specs.Prelude.{ℕ, zero, suc, ◌+◌, ◌-◌, ◌%◌, ◌==◌, nat_lt, Bool, not, ◌&&◌, ◌||◌}
use Rattle.std.specs.Prelude.{if◌then◌else◌}
use Rattle.trace_lines.specs.declared.date.MonthDay.{MonthDay}
use Rattle.trace_lines.specs.declared.date.YearDay.{YearDay}

-- the Gregorian rule (RFC 3339, appendix C)
abbrev pub is_leap_year : ℕ → Bool
is_leap_year y = (y % 4 == 0) && (not (y % 100 == 0) || (y % 400 == 0))

abbrev pub days_in_year : ℕ → ℕ
days_in_year y = if is_leap_year y then 366 else 365

-- thirty days have September, April, June and November
abbrev pub days_in_month : ℕ → ℕ → ℕ
days_in_month y m =
    if m == 2 then (if is_leap_year y then 29 else 28)
    else (if (m == 4) || (m == 6) || (m == 9) || (m == 11) then 30 else 31)

-- the day that is so many days after the first one of a year, at most n years later
unfoldable pub year_from : ℕ → ℕ → ℕ → YearDay
year_from zero year day = record { year = year; day = day }
year_from (suc n) year day =
    if nat_lt day (days_in_year year) then record { year = year; day = day }
    else year_from n (year + 1) (day - days_in_year year)

-- the year of the day that is so many days after 1 January 1970, up to the year 2570, and how many
-- days of that year are before it
abbrev pub year_of : ℕ → YearDay
year_of days = year_from 600 1970 days

-- the day that is so many days after the first one of a month, at most n months later
unfoldable pub month_from : ℕ → ℕ → ℕ → ℕ → MonthDay
month_from zero year month day = record { month = month; day = day }
month_from (suc n) year month day =
    if nat_lt day (days_in_month year month) then record { month = month; day = day }
    else month_from n year (month + 1) (day - days_in_month year month)

-- the month of a day of a year, and how many days of that month are before it
abbrev pub month_of : YearDay → MonthDay
month_of date = month_from 11 date.year 1 date.day

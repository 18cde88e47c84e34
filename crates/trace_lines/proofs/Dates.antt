-- A year, or a month, more.
use Rattle.std.proofs.Common.{◌≡◌, sym, ap, ◌∙◌, ℕ, suc, ◌+◌, ◌-◌, ◌<◌, ◌≤◌}
use Rattle.std.proofs.Common.{arith}
use Rattle.std.proofs.lemmas.Bool.{cond-true, cond-false, lt-ltb, le-ltb}
use Rattle.trace_lines.specs.Dates.{days_in_month, days_in_year, month_from, year_from}
use Rattle.trace_lines.specs.declared.date.MonthDay.{MonthDay}
use Rattle.trace_lines.specs.declared.date.YearDay.{YearDay}

-- the years that are left, where some are
one_left : (n i : ℕ) → i < n → n - i ≡ suc (n - (i + 1))
one_left n i h = omega arith

-- it is in this year, or later
pub year_here : (n i year day : ℕ) → i < n → day < days_in_year year
    → ◌≡◌ {A = YearDay} (record { year = year; day = day }) (year_from (n - i) year day)
unfolding year_from
year_here n i year day within h =
    sym (ap (λ k. year_from k year day) (one_left n i within)
    ∙ cond-true _ _ _ (lt-ltb day (days_in_year year) h))

-- Where the day is past the year, the count goes on in the next year with the days that are left.
pub year_later : (n i year day : ℕ) → i < n → days_in_year year ≤ day
    → year_from (n - i) year day ≡ year_from (n - (i + 1)) (year + 1) (day - days_in_year year)
unfolding year_from
year_later n i year day within h =
    ap (λ k. year_from k year day) (one_left n i within)
    ∙ cond-false _ _ _ (le-ltb day (days_in_year year) h)

-- it is in this month, or later
pub month_here : (n i year month day : ℕ) → i < n → day < days_in_month year month
    → ◌≡◌ {A = MonthDay} (record { month = month; day = day }) (month_from (n - i) year month day)
unfolding month_from
month_here n i year month day within h =
    sym (ap (λ k. month_from k year month day) (one_left n i within)
    ∙ cond-true _ _ _ (lt-ltb day (days_in_month year month) h))

-- Where the day is past the month, the count goes on in the next month with the days that are left.
pub month_later : (n i year month day : ℕ) → i < n → days_in_month year month ≤ day
    → month_from (n - i) year month day
    ≡ month_from (n - (i + 1)) year (month + 1) (day - days_in_month year month)
unfolding month_from
month_later n i year month day within h =
    ap (λ k. month_from k year month day) (one_left n i within)
    ∙ cond-false _ _ _ (le-ltb day (days_in_month year month) h)

none_left : (n i : ℕ) → n ≤ i → n - i ≡ 0
none_left n i h = omega arith

-- no year is left, and no month
pub year_last : (n i year day : ℕ) → n ≤ i
    → ◌≡◌ {A = YearDay} (record { year = year; day = day }) (year_from (n - i) year day)
unfolding year_from
year_last n i year day h = sym (ap (λ k. year_from k year day) (none_left n i h))

-- After the last month the count ends with the month and the day that it has.
pub month_last : (n i year month day : ℕ) → n ≤ i
    → ◌≡◌ {A = MonthDay} (record { month = month; day = day }) (month_from (n - i) year month day)
unfolding month_from
month_last n i year month day h = sym (ap (λ k. month_from k year month day) (none_left n i h))

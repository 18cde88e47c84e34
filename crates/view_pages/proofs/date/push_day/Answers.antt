use Rattle.trace_lines.specs.Dates.{month_of}
use Rattle.view_pages.proofs.Parts.{same_ok}
use Rattle.view_pages.specs.Dates.{date_html}
use Rattle.view_pages.proofs.date.push_day.Goals as goal

pub returns : goal.returns
returns g c =
    same_ok _ _ _ _ _ (λ y. date_html y (month_of y)) c.year_of-year.ensures.value
    (same_ok _ _ _ _ _
    (λ m. date_html c.year_of-year.result m) c.month_of.ensures.value c.push_date.ensures)

use Rattle.std.proofs.Common.{refl}
use Rattle.std.specs.Fmt.{digits}
use Rattle.trace_lines.specs.Dates.{month_from, year_from}
use Rattle.view_pages.specs.Dates.{date_html, fraction_html, hour_html, moment_html, three_html}
use Rattle.view_pages.specs.Dates.{two_html}
use Rattle.view_pages.specs.Html.{html_bytes}
use Rattle.view_pages.proofs.worked.dates.Goals as goal

pub returns-clause-first : goal.returns-clause-first
unfolding html_bytes moment_html date_html hour_html fraction_html two_html three_html year_from
    month_from digits
returns-clause-first c = refl

pub returns-clause-leap : goal.returns-clause-leap
unfolding html_bytes moment_html date_html hour_html fraction_html two_html three_html year_from
    month_from digits
returns-clause-leap c = refl

pub returns-clause-plain : goal.returns-clause-plain
unfolding html_bytes moment_html date_html hour_html fraction_html two_html three_html year_from
    month_from digits
returns-clause-plain c = refl

pub returns-clause-century : goal.returns-clause-century
unfolding html_bytes moment_html date_html hour_html fraction_html two_html three_html year_from
    month_from digits
returns-clause-century c = refl

pub returns-clause-last : goal.returns-clause-last
unfolding html_bytes moment_html date_html hour_html fraction_html two_html three_html year_from
    month_from digits
returns-clause-last c = refl

use Rattle.std.proofs.Common.{refl}
use Rattle.std.specs.Fmt.{digits}
use Rattle.view_pages.specs.Html.{html_bytes, markup_if, text_after}
use Rattle.view_pages.specs.Rows.{depth_html, id_html, remark_html}
use Rattle.view_pages.proofs.worked.rows.Goals as goal

pub returns-clause-top : goal.returns-clause-top
returns-clause-top c = refl

pub returns-clause-deepest : goal.returns-clause-deepest
returns-clause-deepest c = refl

pub returns-clause-depth : goal.returns-clause-depth
unfolding html_bytes depth_html digits
returns-clause-depth c = refl

pub returns-clause-remark : goal.returns-clause-remark
unfolding html_bytes remark_html digits
returns-clause-remark c = refl

pub returns-clause-no_remark : goal.returns-clause-no_remark
unfolding html_bytes remark_html digits
returns-clause-no_remark c = refl

pub returns-clause-bad : goal.returns-clause-bad
unfolding html_bytes markup_if digits
returns-clause-bad c = refl

pub returns-clause-no_query : goal.returns-clause-no_query
unfolding html_bytes text_after
returns-clause-no_query c = refl

pub returns-clause-again : goal.returns-clause-again
unfolding html_bytes id_html digits
returns-clause-again c = refl

use Rattle.std.proofs.Common.{refl}
use Rattle.std.specs.Fmt.{digits}
use Rattle.view_pages.specs.Html.{html_bytes}
use Rattle.view_pages.specs.Dates.{three_html, two_html}
use Rattle.view_pages.specs.Lists.{grouped, millions, thousands}
use Rattle.view_pages.proofs.worked.numbers.Goals as goal

pub returns-clause-three : goal.returns-clause-three
unfolding grouped html_bytes digits
returns-clause-three c = refl

pub returns-clause-thousands : goal.returns-clause-thousands
unfolding grouped thousands three_html two_html html_bytes digits
returns-clause-thousands c = refl

pub returns-clause-millions : goal.returns-clause-millions
unfolding grouped millions three_html two_html html_bytes digits
returns-clause-millions c = refl

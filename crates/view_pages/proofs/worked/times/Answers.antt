use Rattle.std.proofs.Common.{refl}
use Rattle.std.specs.Fmt.{digits}
use Rattle.view_pages.specs.Html.{html_bytes}
use Rattle.trace_lines.specs.Times.{share_of}
use Rattle.view_pages.specs.Times.{duration, scaled}
use Rattle.view_pages.proofs.worked.times.Goals as goal

pub returns-clause-quarter : goal.returns-clause-quarter
unfolding share_of
returns-clause-quarter c = refl

pub returns-clause-start : goal.returns-clause-start
unfolding share_of
returns-clause-start c = refl

pub returns-clause-before : goal.returns-clause-before
unfolding share_of
returns-clause-before c = refl

pub returns-clause-after : goal.returns-clause-after
unfolding share_of
returns-clause-after c = refl

pub returns-clause-no_time : goal.returns-clause-no_time
unfolding share_of
returns-clause-no_time c = refl

pub returns-clause-nanoseconds : goal.returns-clause-nanoseconds
unfolding duration html_bytes scaled digits
returns-clause-nanoseconds c = refl

pub returns-clause-microseconds : goal.returns-clause-microseconds
unfolding duration html_bytes scaled digits
returns-clause-microseconds c = refl

pub returns-clause-milliseconds : goal.returns-clause-milliseconds
unfolding duration html_bytes scaled digits
returns-clause-milliseconds c = refl

pub returns-clause-seconds : goal.returns-clause-seconds
unfolding duration html_bytes scaled digits
returns-clause-seconds c = refl

use Rattle.std.proofs.Common.{refl}
use Rattle.trace_lines.specs.Services.{with_name}
use Rattle.trace_store.specs.Facts.{service_in}
use Rattle.view_pages.proofs.worked.services.Goals as goal

pub returns-clause-names : goal.returns-clause-names
unfolding with_name
returns-clause-names c = refl

pub returns-clause-more : goal.returns-clause-more
unfolding with_name
returns-clause-more c = refl

pub returns-clause-colour : goal.returns-clause-colour
returns-clause-colour c = refl

pub returns-clause-none : goal.returns-clause-none
unfolding service_in
returns-clause-none c = refl

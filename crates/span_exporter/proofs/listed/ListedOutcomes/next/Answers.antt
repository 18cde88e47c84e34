use Rattle.std.proofs.Common.{drop, sym, ap, ◌∙◌}
use Rattle.retry_core.specs.Retries.{outcome_view}
use Rattle.span_exporter.specs.Memory.{next_outcome}
use Rattle.span_exporter.proofs.Outcomes.{next_first}
use Rattle.span_exporter.proofs.listed.ListedOutcomes.next.Goals as goal

pub returns-in-Some-clause-outcome : goal.returns-in-Some-clause-outcome
returns-in-Some-clause-outcome g c =
    let xs = c.self.inside.outcomes.items in let n = c.self.inside.given in
    let x = c.in-Some.outcome.now in let found = c.in-Some.ensures.lookup in
    let found_is = rw c.deref.ensures.value at found in
    let first = next_first outcome_view xs n x found_is.3.0 found_is.1 in
    sym (ap next_outcome (sym c.self.view_is ∙ first))

pub returns-in-Some-clause-rest : goal.returns-in-Some-clause-rest
returns-in-Some-clause-rest g c =
    let xs = c.self.inside.outcomes.items in let n = c.self.inside.given in
    let x = c.in-Some.outcome.now in let found = c.in-Some.ensures.lookup in
    let found_is = rw c.deref.ensures.value at found in
    let first = next_first outcome_view xs n x found_is.3.0 found_is.1 in
    sym (ap (drop 1) (sym c.self.view_is ∙ first))

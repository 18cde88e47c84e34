use Rattle.std.proofs.Common.{subst}
use Rattle.otlp_receiver.specs.Denials.{IsDenial}
use Rattle.relay_service.proofs.Answered.{failed_answer, kept_answer}
use Rattle.relay_service.proofs.Unchanged.{on_err, unchanged}
use Rattle.relay_service.proofs.receive.receive.Goals as goal

pub returns-in-Kept-clause-answer : goal.returns-in-Kept-clause-answer
returns-in-Kept-clause-answer g c =
    kept_answer _ _ _ _ c.denial_format-format.ensures c.in-Kept.is c.in_ok-taken.ensures

pub returns-in_ok-fill_denial-in-Denied-clause-answer :
    goal.returns-in_ok-fill_denial-in-Denied-clause-answer
returns-in_ok-fill_denial-in-Denied-clause-answer g c =
    subst (λ f. IsDenial c.in-Denied.denial f c.fill_denial.new.response)
    c.denial_format-format.ensures c.in_ok-fill_denial-in-Denied.ensures

pub returns-in_err-fill_denial-in-Denied-clause-refused :
    goal.returns-in_err-fill_denial-in-Denied-clause-refused
returns-in_err-fill_denial-in-Denied-clause-refused g c =
    on_err _ (unchanged _ _ _ _ _ _ c.in-Denied.is _ _ _ _ c.keep_post-outcome.ensures)

pub returns-in-Failed-clause-answer : goal.returns-in-Failed-clause-answer
returns-in-Failed-clause-answer g c =
    failed_answer _ _ _ _ c.denial_format-format.ensures c.in-Failed.is c.in_ok-failed.ensures

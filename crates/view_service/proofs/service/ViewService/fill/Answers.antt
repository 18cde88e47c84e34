use Rattle.std.proofs.Common.{◌∙◌, ap, bytes_eq, codes, refl, subst, sym}
use Rattle.otlp_receiver.specs.Denials.{IsDenial}
use Rattle.otlp_receiver.specs.Requests.{other_signal}
use Rattle.view_service.specs.Serves.{Answers}
use Rattle.view_service.proofs.service.ViewService.fill.Goals as goal

pub returns-in-Some-clause-answers : goal.returns-in-Some-clause-answers
returns-in-Some-clause-answers g c =
    let path =
    ap (λ p. bytes_eq p (codes "/v1/traces")) (sym c.path_of-path.ensures) ∙ sym c.eq.ensures
    ∙ c.if-eq.false in
    let other =
    ap other_signal (sym c.path_of-path.ensures) ∙ sym c.other_signal.ensures ∙ c.in-Some.is in
    Answers.not_taken path c.in-Some.denial other
    (subst (λ f. IsDenial c.in-Some.denial f c.fill_denial.new.response) c.denial_format.ensures
    c.in_ok-fill_denial.ensures)
    refl refl

pub returns-clause-answers : goal.returns-clause-answers
returns-clause-answers g c =
    let path =
    ap (λ p. bytes_eq p (codes "/v1/traces")) (sym c.path_of-path.ensures) ∙ sym c.eq.ensures
    ∙ c.if-eq.false in
    let other =
    ap other_signal (sym c.path_of-path.ensures) ∙ sym c.other_signal.ensures
    ∙ c.in_default.is in
    Answers.shown path other c.in_ok-rest.ensures refl

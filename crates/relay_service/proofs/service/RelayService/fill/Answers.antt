use Rattle.std.proofs.Common.{◌∙◌, ◌||◌, ap, bytes_eq, codes, refl, subst, sym}
use Rattle.otlp_receiver.specs.Denials.{IsDenial}
use Rattle.otlp_receiver.specs.Requests.{other_signal}
use Rattle.relay_service.specs.Serves.{Answers, failed_of}
use Rattle.relay_service.proofs.Answering.{shown_with}
use Rattle.relay_service.proofs.service.RelayService.fill.Goals as goal

pub returns-then-eq-clause-answers : goal.returns-then-eq-clause-answers
returns-then-eq-clause-answers g c =
    let path =
    ap (λ p. bytes_eq p (codes "/v1/traces")) (sym c.path_of-path.ensures) ∙ sym c.eq.ensures
    ∙ c.if-eq.true in
    let method =
    ap (λ m. bytes_eq m (codes "OPTIONS")) (sym (c.as_str.ensures.value ∙ c.method.ensures))
    ∙ sym c.eq-then-eq.ensures ∙ c.if-eq-2.false in
    let failed =
    c.either-self.ensures ∙ ap (λ b. failed_of c.args.self.now || b) c.is_failure.ensures in
    Answers.received path method c.in_ok-outcome.outcome c.in_ok-outcome.ensures.received
    c.in_ok-outcome.ensures.answer failed

pub returns-in-Some-clause-answers : goal.returns-in-Some-clause-answers
returns-in-Some-clause-answers g c =
    let path =
    ap (λ p. bytes_eq p (codes "/v1/traces")) (sym c.path_of-path.ensures) ∙ sym c.eq.ensures
    ∙ c.if-eq.false in
    let other =
    ap other_signal (sym c.path_of-path.ensures) ∙ sym c.other_signal.ensures ∙ c.in-Some.is in
    Answers.not_taken path c.in-Some.denial other
    (subst (λ f. IsDenial c.in-Some.denial f c.fill_denial.new.response) c.denial_format.ensures
    c.in_ok-fill_denial.ensures)
    (refl, refl)

pub returns-clause-answers : goal.returns-clause-answers
returns-clause-answers g c =
    let path =
    ap (λ p. bytes_eq p (codes "/v1/traces")) (sym c.path_of-path.ensures) ∙ sym c.eq.ensures
    ∙ c.if-eq.false in
    let other =
    ap other_signal (sym c.path_of-path.ensures) ∙ sym c.other_signal.ensures
    ∙ c.in_default.is in
    Answers.shown path other
    (shown_with _ _ _ _ _ _ _ _ c.connections.ensures c.in_ok-show.ensures)
    (refl, refl)

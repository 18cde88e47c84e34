use Rattle.std.proofs.Common.{◌∙◌, ap, refl, subst, sym}
use Rattle.otlp_receiver.specs.Denials.{IsDenial}
use Rattle.view_service.specs.Shows.{AnswersPage, page_denial}
use Rattle.view_service.proofs.show.Viewer.show.Goals as goal

pub returns-in-Some : goal.returns-in-Some
returns-in-Some g c =
    let method = c.as_str.ensures.value ∙ c.method.ensures in
    let why =
    ap (page_denial c.route_in-route.result) (sym method) ∙ sym c.page_denial.ensures
    ∙ c.in-Some.is in
    AnswersPage.refused c.route_in-route.result c.in-Some.denial c.route_in-route.ensures why
    (subst (λ f. IsDenial c.in-Some.denial f c.fill_denial.new.response) c.denial_format.ensures
    c.in_ok-fill_denial.ensures)
    refl

pub returns : goal.returns
returns g c =
    let method = c.as_str.ensures.value ∙ c.method.ensures in
    let why =
    ap (page_denial c.route_in-route.result) (sym method) ∙ sym c.page_denial.ensures
    ∙ c.in_default.is in
    AnswersPage.shown c.route_in-route.result c.route_in-route.ensures why
    (record {
      became = c.in_ok-shown.shown;
      fits = c.in_ok-shown.ensures.fits;
      body = _;
      is = c.in_ok-answer_page.ensures;
      shows = c.in_ok-shown.ensures.shows;
    })

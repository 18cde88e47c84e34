use Rattle.std.proofs.Common.{◌∙◌, ap, subst, sym}
use Rattle.otlp_receiver.specs.Denials.{IsDenial}
use Rattle.otlp_receiver.specs.Pages.{is_read}
use Rattle.otlp_receiver.specs.declared.reply.denial.Denial.TheVariants as denials
use Rattle.relay_service.specs.Shows.{AnswersPage, page_of}
use Rattle.relay_service.proofs.show.Viewer.show.Goals as goal

pub returns-in_default : goal.returns-in_default
returns-in_default g c =
    AnswersPage.no_path (ap page_of (sym c.path_of.ensures) ∙ sym c.in_default.ensures)
    (subst (λ f. IsDenial denials.NoPath f c.fill_denial.new.response) c.denial_format.ensures
    c.in_ok-fill_denial.ensures)

pub returns-then-not-is_read : goal.returns-then-not-is_read
returns-then-not-is_read g c =
    let method = c.as_str.ensures.value ∙ c.method.ensures in
    AnswersPage.no_method c.in-Some.page
    (ap page_of (sym c.path_of.ensures) ∙ sym c.in-Some.ensures)
    (ap is_read (sym method) ∙ sym c.is_read.ensures ∙ c.if-not-is_read.true)
    (subst (λ f. IsDenial denials.PageMethod f c.fill_denial-then-not-is_read.new.response)
    c.denial_format-then-not-is_read.ensures c.in_ok-fill_denial-2.ensures)

pub returns : goal.returns
returns g c =
    let method = c.as_str.ensures.value ∙ c.method.ensures in
    AnswersPage.shown c.in-Some.page
    (ap page_of (sym c.path_of.ensures) ∙ sym c.in-Some.ensures)
    (ap is_read (sym method) ∙ sym c.is_read.ensures ∙ c.if-not-is_read.false)
    c.in_ok-fill.ensures

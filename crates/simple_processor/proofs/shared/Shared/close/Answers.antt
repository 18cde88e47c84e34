use Rattle.std.proofs.Common.{rules, ◌≡◌, ◌≤◌, [], List, ap, ◌∙◌, sym, subst, refl, length}
use Rattle.std.proofs.lemmas.List.{nil_from_length}
use Rattle.account_book.specs.Accounts.{Removes}
use Rattle.account_book.proofs.Facts.{closes_part, removes_told, yields_end}
use Rattle.model_processor.specs.Passes.{PassAccount}
use Rattle.simple_processor.specs.AnyAccounts.{AnyAccount, Origin, origin_in, pass, pass_account}
use Rattle.simple_processor.specs.AnyAccounts.{processor}
use Rattle.simple_processor.specs.Kept.{Agrees}
use Rattle.simple_processor.proofs.Agree.{kept_of}
use Rattle.simple_processor.proofs.Closing.{agrees_end, max_end}
use Rattle.simple_processor.proofs.shared.Shared.close.Goals as goal

pub loop-pass-preserved : goal.loop-pass-preserved
loop-pass-preserved g c =
    let i = c.loop-pass.invariant in
    let book = c.loop-pass.self-inside.book in
    let is = c.pass.invariant ∙ ap pass c.pass.view_is in
    let more =
    closes_part pass_account c.close.new.self book c.close-in-loop-pass.new.self c.loop-pass.yielded
    c.loop-pass.pass-iterator.rest.items c.next.new.self.rest.items c.args.passes.items
    (pass c.in-Some-pass.pass) c.in-Some-pass.pass refl
    (subst (λ (h : AnyAccount). Removes book h c.close-in-loop-pass.new.self) is
    c.close-in-loop-pass.ensures)
    c.in-Some-pass.ensures.steps.0 i.0 i.1 i.2 in
    (more.0, more.1, more.2, i.3, i.4, i.5, i.6)

pub returns : goal.returns
returns g c =
    let handed = g.E.Exporter.handed in
    let export = c.in-Some.export in
    let i = c.loop-pass.invariant in
    let origin : Origin =
    record {
      passes = c.self.inside.passes;
      had = handed c.self.inside.began.value;
      max_body = c.self.inside.max_body;
    } in
    let said = origin_in c.args.account in
    let kept =
    kept_of (λ d. handed d.exporter)
    (λ d. d.state) origin c.self.inside.export export c.self.inside.book c.self.invariant
    (sym c.in-Some.ensures.value) in
    let gone =
    removes_told c.self.inside.book c.recognize.new.self c.close.new.self c.recognize.new.account
    (processor said) c.recognize.ensures.book
    (c.recognize.ensures.account ∙ c.requires.processor) c.close.ensures in
    let none : c.loop-pass.pass-iterator.rest.items ≡ [] = search (rules, nil_from_length) in
    let whole : c.loop-pass.yielded ≡ c.args.passes.items =
    yields_end c.loop-pass.yielded c.loop-pass.pass-iterator.rest.items c.args.passes.items i.2
    none in
    let enough : said.passes ≤ length c.loop-pass.yielded = rw whole (search rules) in
    let agrees : Agrees said.had (handed export.exporter) export.state c.loop-pass.yielded =
    agrees_end origin said
    (handed export.exporter) export.state c.self.inside.book c.close.new.self
    c.loop-pass.self-inside.book c.loop-pass.yielded kept gone i.0 i.1 enough in
    record {
      state = export.state;
      totals = c.into_accounts.ensures.totals;
      ledger_is = c.into_accounts.ensures.ledger;
      lost_is = c.into_accounts.ensures.lost;
      max_body =
          max_end origin said
          (handed export.exporter) export.state c.self.inside.book c.close.new.self
          c.loop-pass.self-inside.book c.loop-pass.yielded kept gone i.0 i.1 enough;
      agrees =
          subst (λ o. Agrees said.had o export.state c.args.passes.items)
          (ap handed (sym c.into_accounts.ensures.exporter))
          (subst
          (λ (ps : List PassAccount). Agrees said.had (handed export.exporter) export.state ps)
          whole agrees);
    }

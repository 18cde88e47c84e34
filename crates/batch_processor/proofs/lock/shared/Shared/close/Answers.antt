use Rattle.std.proofs.Common.{rules, ◌≡◌, ◌≤◌, [], List, ap, ◌∙◌, sym, subst, refl, length}
use Rattle.std.proofs.lemmas.List.{nil_from_length}
use Rattle.account_book.specs.Accounts.{Removes}
use Rattle.account_book.proofs.Facts.{closes_part, removes_told, yields_end}
use Rattle.model_desk.specs.Desks.{Desk, DeskConfig}
use Rattle.model_processor.specs.Passes.{PassAccount}
use Rattle.model_processor.specs.AnyAccounts.{AnyAccount, origin_in, pass, pass_account, processor}
use Rattle.model_processor.specs.AnyAccounts.{worker, worker_in}
use Rattle.model_processor.specs.Kept.{IsAccountOf}
use Rattle.model_processor.proofs.AccountState.{none_shared}
use Rattle.model_processor.proofs.Closing.{account_end, of_worker_is, none_left}
use Rattle.batch_processor.specs.Views.{setup_view}
use Rattle.batch_processor.proofs.lock.shared.Shared.close.Goals as goal

pub loop-pass-preserved : goal.loop-pass-preserved
loop-pass-preserved g c =
    let i = c.loop-pass.invariant in
    let book = c.loop-pass.self-inside.book in
    let is = c.holder.view_is ∙ c.pass.invariant ∙ ap pass c.pass.view_is in
    let more =
    closes_part pass_account c.close-2.new.self book c.close-in-loop-pass.new.self
    c.loop-pass.yielded c.loop-pass.pass-iterator.rest.items c.next.new.self.rest.items
    c.args.passes.items
    (pass c.in-Some.pass) c.in-Some.pass refl
    (subst (λ (h : AnyAccount). Removes book h c.close-in-loop-pass.new.self) is
    c.close-in-loop-pass.ensures)
    c.in-Some.ensures.steps.0 i.0 i.1 i.2 in
    (more.0, more.1, more.2, i.3, i.4, i.5)

pub returns-clause-origin : goal.returns-clause-origin
returns-clause-origin g c =
    let desk = c.self.inside.desk in
    let i = c.loop-pass.invariant in
    let origin = setup_view c.self.inside.setup in
    let said = origin_in c.args.account in
    let of_worker = origin_in c.args.of_worker in
    let w = worker_in c.args.of_worker in
    let kept = c.self.invariant c.args.account c.recognize.ensures.there in
    let gone =
    removes_told c.self.inside.book c.recognize.new.self c.close.new.self c.recognize.new.account
    (processor said) c.recognize.ensures.book
    (c.recognize.ensures.account ∙ c.requires.processor) c.close.ensures in
    let left : Removes c.close.new.self (worker of_worker w) c.close-2.new.self =
    subst (λ (h : AnyAccount). Removes c.close.new.self h c.close-2.new.self) c.requires.worker
    c.close-2.ensures in
    let none : c.loop-pass.pass-iterator.rest.items ≡ [] = search (rules, nil_from_length) in
    let whole : c.loop-pass.yielded ≡ c.args.passes.items =
    yields_end c.loop-pass.yielded c.loop-pass.pass-iterator.rest.items c.args.passes.items i.2
    none in
    let enough : said.passes ≤ length c.loop-pass.yielded = rw whole (search rules) in
    of_worker_is origin said of_worker c.self.inside.left desk c.self.inside.book c.close.new.self
    c.close-2.new.self c.loop-pass.self-inside.book w c.loop-pass.yielded kept gone left i.0 i.1
    enough

pub returns-clause-accounts : goal.returns-clause-accounts
returns-clause-accounts g c =
    let desk = c.self.inside.desk in
    let i = c.loop-pass.invariant in
    let origin = setup_view c.self.inside.setup in
    let said = origin_in c.args.account in
    let of_worker = origin_in c.args.of_worker in
    let w = worker_in c.args.of_worker in
    let kept = c.self.invariant c.args.account c.recognize.ensures.there in
    let gone =
    removes_told c.self.inside.book c.recognize.new.self c.close.new.self c.recognize.new.account
    (processor said) c.recognize.ensures.book
    (c.recognize.ensures.account ∙ c.requires.processor) c.close.ensures in
    let left : Removes c.close.new.self (worker of_worker w) c.close-2.new.self =
    subst (λ (h : AnyAccount). Removes c.close.new.self h c.close-2.new.self) c.requires.worker
    c.close-2.ensures in
    let none : c.loop-pass.pass-iterator.rest.items ≡ [] = search (rules, nil_from_length) in
    let whole : c.loop-pass.yielded ≡ c.args.passes.items =
    yields_end c.loop-pass.yielded c.loop-pass.pass-iterator.rest.items c.args.passes.items i.2
    none in
    let enough : said.passes ≤ length c.loop-pass.yielded = rw whole (search rules) in
    let taken : desk ≡ c.replace-desk.result = search rules in
    subst (λ (d : Desk). IsAccountOf said d c.args.passes.items w) taken
    (subst (λ (ps : List PassAccount). IsAccountOf said desk ps w) whole
    (account_end origin said of_worker c.self.inside.left desk c.self.inside.book c.close.new.self
    c.close-2.new.self c.loop-pass.self-inside.book w c.loop-pass.yielded kept gone left i.0 i.1
    enough))

pub returns-clause-room : goal.returns-clause-room
returns-clause-room g c =
    let desk = c.self.inside.desk in
    let kept = c.self.invariant c.args.account c.recognize.ensures.there in
    let taken : desk ≡ c.replace-desk.result = search rules in
    let some : 1 ≤ desk.config.batch =
    subst (λ (x : DeskConfig). 1 ≤ x.batch) (sym kept.config) kept.sizes in
    subst (λ (d : Desk). 1 ≤ d.config.batch) taken some

pub invariant_of-self : goal.invariant_of-self
invariant_of-self g c =
    let desk = c.self.inside.desk in
    let i = c.loop-pass.invariant in
    let origin = setup_view c.self.inside.setup in
    let said = origin_in c.args.account in
    let of_worker = origin_in c.args.of_worker in
    let w = worker_in c.args.of_worker in
    let kept = c.self.invariant c.args.account c.recognize.ensures.there in
    let gone =
    removes_told c.self.inside.book c.recognize.new.self c.close.new.self c.recognize.new.account
    (processor said) c.recognize.ensures.book
    (c.recognize.ensures.account ∙ c.requires.processor) c.close.ensures in
    let left : Removes c.close.new.self (worker of_worker w) c.close-2.new.self =
    subst (λ (h : AnyAccount). Removes c.close.new.self h c.close-2.new.self) c.requires.worker
    c.close-2.ensures in
    let none : c.loop-pass.pass-iterator.rest.items ≡ [] = search (rules, nil_from_length) in
    let whole : c.loop-pass.yielded ≡ c.args.passes.items =
    yields_end c.loop-pass.yielded c.loop-pass.pass-iterator.rest.items c.args.passes.items i.2
    none in
    let enough : said.passes ≤ length c.loop-pass.yielded = rw whole (search rules) in
    none_shared (setup_view c.loop-pass.self-inside.setup) c.loop-pass.self-inside.left
    c.loop-pass.self-inside.desk c.loop-pass.self-inside.book
    (none_left origin said of_worker c.self.inside.left desk c.self.inside.book c.close.new.self
    c.close-2.new.self c.loop-pass.self-inside.book w c.loop-pass.yielded kept gone left i.0 i.1
    enough)

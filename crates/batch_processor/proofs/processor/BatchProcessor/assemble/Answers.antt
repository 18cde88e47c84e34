use Rattle.std.proofs.Common.{rules, ◌≤◌, length}
use Rattle.model_processor.proofs.Closing.{kept_begins}
use Rattle.batch_processor.specs.Views.{setup_view}
use Rattle.batch_processor.proofs.processor.BatchProcessor.assemble.Goals as goal

pub new-requires : goal.new-requires
new-requires g c _ _ =
    let origin = setup_view c.args.setup in let opened = c.in_ok-accounts.accounts.items in
    let few : length opened ≤ c.args.setup.passes = search rules in
    kept_begins origin c.args.desk.last_moment c.args.desk c.named-book.result
    c.open-account.new.self c.record.new.self c.open-of_worker.new.self c.record-2.new.self
    c.open_all.new.self opened c.open-account.result c.record.new.account c.open-of_worker.result
    c.record-2.new.account
    c.requires.desk c.named-book.ensures c.open-account.ensures.book c.record.ensures.book
    c.record.ensures.account c.open-of_worker.ensures.book c.open-of_worker.ensures.account
    c.record-2.ensures.book c.record-2.ensures.account c.in_ok-accounts.ensures.book few
    c.requires.size c.in_ok-accounts.ensures.first

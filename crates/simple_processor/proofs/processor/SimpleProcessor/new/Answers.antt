use Rattle.std.proofs.Common.{rules, ◌≤◌, ap, ◌∙◌, sym, length}
use Rattle.simple_processor.specs.ExportStates.{new_state}
use Rattle.simple_processor.specs.AnyAccounts.{Origin}
use Rattle.simple_processor.proofs.Closing.{kept_begins}
use Rattle.simple_processor.proofs.processor.SimpleProcessor.new.Goals as goal

pub invariant_of-shared : goal.invariant_of-shared
invariant_of-shared g c =
    let handed = g.E.Exporter.handed in
    let origin : Origin =
    record { passes = c.args.passes; had = handed c.of.result.value; max_body = c.args.max_body } in
    let opened = c.in_ok-accounts.accounts.items in
    let few : length opened ≤ c.args.passes = search rules in
    kept_begins origin
    (handed c.new-2.result.exporter) c.new-2.result.state c.named-book.result
    c.open-account.new.self c.record.new.self c.open_all.new.self opened c.open-account.result
    c.record.new.account
    (ap (λ d. handed d.exporter) c.new-2.ensures ∙ ap handed (sym c.of.ensures))
    (ap (λ d. d.state) c.new-2.ensures ∙ ap new_state c.in_ok-sender.ensures) c.named-book.ensures
    c.open-account.ensures.book c.record.ensures.book c.record.ensures.account
    c.in_ok-accounts.ensures.book few c.in_ok-accounts.ensures.first

use Rattle.std.proofs.Common.{ap}
use Rattle.simple_processor.specs.Accounts.{after_shutdown}
use Rattle.simple_processor.specs.AnyAccounts.{Origin, account_in}
use Rattle.simple_processor.proofs.Agree.{kept_of, kept_told}
use Rattle.simple_processor.proofs.Ends.{shutdown_step}
use Rattle.simple_processor.proofs.shared.Shared.shutdown.Goals as goal

pub invariant_of-self : goal.invariant_of-self
invariant_of-self g c =
    let handed = g.E.Exporter.handed in
    let export = c.in-Some.export in
    let after = c.shutdown.new.self in
    let origin : Origin =
    record {
      passes = c.self.inside.passes;
      had = handed c.self.inside.began.value;
      max_body = c.self.inside.max_body;
    } in
    let kept =
    kept_of (λ d. handed d.exporter)
    (λ d. d.state) origin c.self.inside.export export c.self.inside.book c.self.invariant
    c.in-Some.is in
    kept_told origin (handed export.exporter)
    (handed after.exporter) export.state after.state c.self.inside.book c.recognize.new.self
    c.record.new.self c.args.account.now c.recognize.new.account c.record.new.account
    after_shutdown kept c.recognize.ensures.book c.recognize.ensures.account c.requires
    c.record.ensures.book c.record.ensures.account
    (shutdown_step (handed export.exporter) (handed after.exporter) export.state after.state
    (account_in c.args.account.now)
    (ap handed c.shutdown.ensures.exporter) c.shutdown.ensures.state)

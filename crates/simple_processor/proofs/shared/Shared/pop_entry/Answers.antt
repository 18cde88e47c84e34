use Rattle.std.proofs.Common.{ap}
use Rattle.otlp_span.specs.Dropped.{entry_view}
use Rattle.model_processor.specs.Passes.{after_pop}
use Rattle.simple_processor.specs.AnyAccounts.{Origin, account_in}
use Rattle.simple_processor.proofs.Agree.{kept_of, kept_told}
use Rattle.simple_processor.proofs.Ends.{pop_step}
use Rattle.simple_processor.proofs.shared.Shared.pop_entry.Goals as goal

pub invariant_of-self-2 : goal.invariant_of-self-2
invariant_of-self-2 g c =
    let handed = g.E.Exporter.handed in
    let export = c.in-Some.export in
    let after = c.pop_entry.new.self in
    let entry = entry_view c.in_ok-entry.entry in
    let origin : Origin =
    record {
      passes = c.self.inside.passes;
      had = handed c.self.inside.began.value;
      max_body = c.self.inside.max_body;
    } in
    let kept =
    kept_of (λ d. handed d.exporter)
    (λ d. d.state) origin c.self.inside.export export c.self.inside.book c.self.invariant
    c.in-Some.is in
    kept_told origin (handed export.exporter)
    (handed after.exporter) export.state after.state c.self.inside.book c.recognize.new.self
    c.record.new.self c.args.account.now c.recognize.new.account c.record.new.account
    (after_pop entry) kept c.recognize.ensures.book c.recognize.ensures.account c.requires
    c.record.ensures.book c.record.ensures.account
    (pop_step (handed export.exporter) (handed after.exporter) export.state after.state
    (account_in c.args.account.now) entry
    (ap handed c.in_ok-entry.ensures.exporter) c.in_ok-entry.ensures.state)

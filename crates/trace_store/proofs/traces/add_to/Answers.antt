use Rattle.std.proofs.Common.{◌∙◌, sym}
use Rattle.trace_store.proofs.Puts.{added_there, never_fails, put_twice}
use Rattle.trace_store.proofs.traces.add_to.Goals as goal

pub returns-in_err-put-clause-traces : goal.returns-in_err-put-clause-traces
returns-in_err-put-clause-traces g c =
    absurd (never_fails _ _ c.put-2.result _
    (put_twice c.args.traces.now c.put.new.self c.args.trace c.empty-empty.result c.append.new.self
    c.in-Some.kept
    (sym c.in_ok-kept.ensures.old ∙ c.in-Some.is) c.in_ok-kept.ensures.entries).0
    c.put-2.ensures.succeeds c.in_err-put.was)

pub returns-in_err-put-clause-never : goal.returns-in_err-put-clause-never
returns-in_err-put-clause-never g c =
    absurd (never_fails _ _ c.put-2.result _
    (put_twice c.args.traces.now c.put.new.self c.args.trace c.empty-empty.result c.append.new.self
    c.in-Some.kept
    (sym c.in_ok-kept.ensures.old ∙ c.in-Some.is) c.in_ok-kept.ensures.entries).0
    c.put-2.ensures.succeeds c.in_err-put.was)

pub returns-clause-traces : goal.returns-clause-traces
returns-clause-traces g c =
    added_there c.args.traces.now c.put.new.self c.put-2.new.self c.args.trace c.empty-empty.result
    c.in-Some.kept c.args.spans c.append.new.self
    (sym c.in_ok-kept.ensures.old ∙ c.in-Some.is)
    c.in_ok-kept.ensures.entries c.append.ensures c.in_ok-put.ensures.entries

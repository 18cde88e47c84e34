use Rattle.trace_lines.proofs.rows.TraceLines.new.Goals as goal

pub returns-clause-plan : goal.returns-clause-plan
returns-clause-plan g c = λ lines frame h. h (c.new-planning.ensures c.args.spans.items)

use Rattle.std.proofs.Common.{subst, ◌∙◌, OnErr}
use Rattle.otlp_collector.specs.Printed.{AppendsFront}
use Rattle.otlp_collector.proofs.print.print_triple.Goals as goal

pub returns-clause-err : goal.returns-clause-err
returns-clause-err g c =
    let is = rw c.new-text.ensures.bytes at (c.deref.ensures ∙ c.in_ok-push_triple.ensures) in
    subst (λ l. OnErr c.write_text.result
    (AppendsFront (g.W.FaultWrite.contents c.args.writer.now)
    (g.W.FaultWrite.contents c.write_text.new.writer) l))
    is c.write_text.ensures.err

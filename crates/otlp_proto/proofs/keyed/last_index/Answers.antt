use Rattle.std.proofs.Common.{sym, ◌∙◌}
use Rattle.otlp_proto.proofs.Adding.{last-index}
use Rattle.otlp_proto.proofs.keyed.last_index.Goals as goal

pub returns : goal.returns
returns g c =
    sym (rw c.len-count.ensures.len
    (last-index g.K.PartialEq.eq g.met.K.Eq.laws c.args.groups.now.entries c.in-Some.last.now
    c.args.key.now c.in-Some.field-0-1.now c.len-count.ensures.unique
    (sym c.in-Some.ensures.entry) (sym c.eq.ensures ∙ c.if-eq.true)))

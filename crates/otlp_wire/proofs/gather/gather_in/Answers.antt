use Rattle.std.proofs.Common.{refl}
use Rattle.model_message.specs.Tables.{message}
use Rattle.otlp_wire.specs.Fields.{field_of}
use Rattle.otlp_wire.proofs.Finished.{in-skips, in-more, in-fails, both-ok, on-err}
use Rattle.otlp_wire.proofs.gather.gather_in.Goals as goal

pub returns-in-Some-clause-ok : goal.returns-in-Some-clause-ok
returns-in-Some-clause-ok g c =
    let seen = g.G.GatherFields.gathered in
    both-ok c.gather.result
    (λ step good. in-more g.G.GatherFields.table c.args.number (field_of c.args.field)
    (seen c.args.gathered.now) (seen c.gather.new.gathered) c.in-Some.content.now
    (c.in-Some.ensures (message g.G.GatherFields.table) refl) step good)
    c.gather.ensures.ok c.gather.ensures.whole

pub returns-in-Some-clause-err : goal.returns-in-Some-clause-err
returns-in-Some-clause-err g c =
    on-err c.gather.result
    (λ fault bad. in-fails g.G.GatherFields.table c.args.number
    (field_of c.args.field) c.in-Some.content.now
    (c.in-Some.ensures (message g.G.GatherFields.table) refl) fault bad)
    c.gather.ensures.err

pub returns-in-None-clause-ok : goal.returns-in-None-clause-ok
returns-in-None-clause-ok g c =
    in-skips g.G.GatherFields.table c.args.number (field_of c.args.field)
    (g.G.GatherFields.gathered c.args.gathered.now)
    (c.in-None.ensures (message g.G.GatherFields.table) refl)

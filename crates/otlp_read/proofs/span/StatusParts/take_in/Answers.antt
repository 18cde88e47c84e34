use Rattle.std.proofs.Common.{refl}
use Rattle.model_message.specs.Tables
use Rattle.model_message.specs.Tables.{message}
use Rattle.otlp_wire.specs.Fields.{field_of}
use Rattle.otlp_read.specs.Spans.{status_gathered}
use Rattle.otlp_wire.proofs.Finished.{in-skips, in-more, in-fails, both-ok, on-err}
use Rattle.otlp_read.proofs.span.StatusParts.take_in.Goals as goal

pub returns-in_default-clause-ok : goal.returns-in_default-clause-ok
returns-in_default-clause-ok g c =
    in-skips Tables.status c.args.number (field_of c.args.field) (status_gathered c.args.self.now)
    (c.in_default.ensures (message Tables.status) refl)

pub returns-clause-ok : goal.returns-clause-ok
returns-clause-ok g c =
    both-ok c.take_all.result
    (λ step good. in-more Tables.status c.args.number (field_of c.args.field)
    (status_gathered c.args.self.now) (status_gathered c.take_all.new.self) c.in-Some.content.now
    (c.in-Some.ensures (message Tables.status) refl) step good)
    c.take_all.ensures.ok c.take_all.ensures.whole

pub returns-clause-err : goal.returns-clause-err
returns-clause-err g c =
    on-err c.take_all.result
    (λ fault bad. in-fails Tables.status c.args.number (field_of c.args.field) c.in-Some.content.now
    (c.in-Some.ensures (message Tables.status) refl) fault bad)
    c.take_all.ensures.err

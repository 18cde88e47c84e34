use Rattle.std.specs.Io.KnownBytes.{prepend_known}
use Rattle.http_exporter.proofs.BufferLemmas.{given_front}
use Rattle.http_exporter.proofs.buffer.BufferedFaultRead.read.Goals as goal

pub returns-clause-bytes : goal.returns-clause-bytes
returns-clause-bytes g c =
    let left = g.L.FaultRead.remaining in
    let mid = c.refill.new.self in
    let given = c.give.ensures in
    rw given.unread
    (given_front (prepend_known c.args.self.now.unread (left c.args.self.now.link))
    (left mid.link) mid.unread c.args.buf.now c.give.new.buf c.give.result
    c.refill.ensures.kept c.in_ok-refill.ensures.end given.count given.room given.bytes)

use Rattle.std.proofs.Common.{[], ◌++◌, ◌∙◌, append_assoc}
use Rattle.http1.specs.declared.conn.BodySize.TheVariants.{Unknown}
use Rattle.http1.specs.Conn.{finish_text}
use Rattle.http1.specs.Server.{planned_response, writing}
use Rattle.http1_typed.specs.Parts.{reason_of}
use Rattle.http_server.specs.Response.{fields_of}
use Rattle.http_connection.specs.Connections.{pending_of}
use Rattle.http_connection.specs.Texts.{opened}
use Rattle.http_connection.proofs.connection.Connection.reply_in_pieces.Goals as goal

pub returns-then-is_head-clause-text : goal.returns-then-is_head-clause-text
returns-then-is_head-clause-text g c =
    let s = c.args.self.now.server in
    let r = c.args.response.now in
    rw c.if-is_head.true (λ lives.
    c.finish.ensures.text lives
    ∙ (λ i. c.in-Ok.ensures.text i ++ finish_text (writing (c.in-Ok.ensures.next i)) [])
    ∙ append_assoc (pending_of c.args.self.now)
    (planned_response s r.status (reason_of r.status) Unknown (fields_of r))
    (finish_text (writing (opened s r)) []))

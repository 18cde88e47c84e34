use Rattle.std.proofs.Common.{◌≡◌, ◌++◌, Ok, ap, inl, inr, ◌∙◌}
use Rattle.http.specs.Request.{head_of}
use Rattle.http_connection.specs.Connections.{pending_of, place_at}
use Rattle.http_connection.specs.Texts.{piece_text}
use Rattle.http_connection.proofs.RunLemmas.{piece_run, writing_rests}
use Rattle.http_connection.proofs.connection.Connection.write_piece.Goals as goal

pub returns-clause-writes : goal.returns-clause-writes
returns-clause-writes g c =
    let next = c.in-Ok.ensures.goes_on in
    let is : c.deref.result.now ≡ next.0 =
    c.deref.ensures.value ∙ next.1 ∙ (λ i. c.new-piece.ensures.items i ++ next.0) in
    piece_run _ _ _ _ _ _ c.in-Pieces.pieces c.in-Ok.more c.next.new.self next.0
    c.args.self.now.server _ _ _
    (λ i. place_at (c.in-Pieces.is i) (head_of c.args.self.now.request) c.args.self.now.body.items)
    next.2
    (λ last. c.next.ensures.ends (c.in-Ok.is ∙ ap Ok last)) c.put_piece.ensures.place
    (λ lives. c.put_piece.ensures.text lives
    ∙ (λ i. pending_of c.args.self.now ++ piece_text c.in-Ok.more c.args.self.now.server (is i)))

pub returns-clause-rests : goal.returns-clause-rests
returns-clause-rests g c = λ rested stops.
    elim (c.put_piece.ensures.rests stops) [
      | inl same ↦ writing_rests _ c.next.new.self _ _ same
      | inr rests ↦ rests
    ]

use Rattle.std.proofs.Common.{slice_range, ap, ◌∙◌}
use Rattle.http.specs.Request.{head_of}
use Rattle.http_connection.specs.Connections.{place_at}
use Rattle.http_connection.specs.Outputs.{waiting}
use Rattle.http_connection.proofs.RunLemmas.{kept_run}
use Rattle.http_connection.proofs.connection.Connection.take.Goals as goal

pub returns-clause-runs : goal.returns-clause-runs
returns-clause-runs g c =
    kept_run _ _ _ _ _ _ (head_of c.args.self.now.request) c.args.self.now.body.items
    (slice_range c.args.self.now.input.bytes.items c.args.piece.start c.args.piece.end) _ _ _
    (λ i.
    place_at (c.requires.stage i) (head_of c.args.self.now.request) c.args.self.now.body.items)
    (λ i.
    place_at ((c.keep.ensures.stage ∙ c.requires.stage) i) (head_of (c.keep.ensures.request i))
    (c.in-Ok.ensures.body i))
    (λ _. ap waiting c.keep.ensures.output)

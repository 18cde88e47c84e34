use Rattle.std.proofs.Common.{◌≡◌, drop, length, ap, arith, length-drop}
use Rattle.http.specs.Request.{head_of}
use Rattle.http_connection.specs.Connections.{place_of}
use Rattle.http_connection.proofs.RunLemmas.{head_is_open}
use Rattle.http_connection.proofs.connection.Connection.begin.Goals as goal

pub returns-in-Err-clause-runs : goal.returns-in-Err-clause-runs
returns-in-Err-clause-runs g c =
    c.refuse.ensures.runs (place_of c.args.self.now)
    (head_is_open c.args.self.now.stage (head_of c.args.self.now.request) c.args.self.now.body.items
    c.requires.stage)

pub returns-in-Err-clause-works : goal.returns-in-Err-clause-works
returns-in-Err-clause-works g c = λ goes_on.
    let falls = c.refuse.ensures.works goes_on in
    let rest : length c.advance.new.self.items
    ≡ length (drop c.args.head.now.len c.args.self.now.input.bytes.items) =
    ap length c.advance.ensures.items in
    omega (arith, falls, simp length-drop at rest)

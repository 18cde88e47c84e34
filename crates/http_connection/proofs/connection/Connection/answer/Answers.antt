use Rattle.std.proofs.Common.{◌≡◌, ◌++◌, None, Some, sym, ap, ◌∙◌, length}
use Rattle.http.specs.Request.{head_of}
use Rattle.http1.specs.Framing.{method_kind}
use Rattle.http1.specs.Server.{is_head}
use Rattle.http_server.specs.Encoding.{final_text}
use Rattle.http_connection.specs.Connections.{pending_of, whole_of}
use Rattle.http_connection.specs.Outputs.{waiting}
use Rattle.http_connection.specs.Runs.{asks_head}
use Rattle.http_connection.specs.Texts.{opening_text}
use Rattle.http_connection.proofs.RunLemmas.{answered_run, whole_rank, whole_takes, whole_within}
use Rattle.http_connection.proofs.RunLemmas.{work_falls}
use Rattle.http_connection.proofs.connection.Connection.answer.Goals as goal

pub returns-in-None-clause-runs : goal.returns-in-None-clause-runs
returns-in-None-clause-runs g c =
    let old = c.args.self.now in
    let request = c.in-Some.request in
    let is : whole_of old ≡ Some request = sym c.take_whole.ensures.whole ∙ c.in-Some.is in
    let r = c.call.new.response in
    let server = c.release_request.new.self.server in
    let pending : pending_of c.release_request.new.self ≡ pending_of old =
    ap waiting (c.release_request.ensures.output ∙ c.take_whole.ensures.output) in
    let head : c.is_head-is_head.result ≡ asks_head request =
    c.is_head-is_head.ensures ∙ (λ i. is_head (method_kind (c.method.ensures i))) in
    answered_run _ _ _ _ _ request r None server _ _ _ _ _
    (whole_takes old.stage (head_of old.request) old.body.items request is)
    (rw c.in-None.is at c.in-Ok.ensures.ok)
    (whole_within old.limits.max_body old.stage request is old.whole_bounded)
    c.reply.ensures.place
    (λ lives. c.reply.ensures.text lives ∙ (λ i. pending i ++ final_text (head i) server r))

pub returns-in-None-clause-works : goal.returns-in-None-clause-works
returns-in-None-clause-works g c = λ goes_on.
    let is : whole_of c.args.self.now ≡ Some c.in-Some.request =
    sym c.take_whole.ensures.whole ∙ c.in-Some.is in
    work_falls _ _ _ _ (c.reply.ensures.works goes_on)
    (λ i. length ((c.release_request.ensures.input ∙ c.take_whole.ensures.input) i).bytes.items)
    (whole_rank c.args.self.now.stage c.in-Some.request is)

pub returns-clause-runs : goal.returns-clause-runs
returns-clause-runs g c =
    let old = c.args.self.now in
    let request = c.in-Some.request in
    let is : whole_of old ≡ Some request = sym c.take_whole.ensures.whole ∙ c.in-Some.is in
    let r = c.call.new.response in
    let server = c.release_request.new.self.server in
    let pending : pending_of c.release_request.new.self ≡ pending_of old =
    ap waiting (c.release_request.ensures.output ∙ c.take_whole.ensures.output) in
    let head : c.is_head-is_head.result ≡ asks_head request =
    c.is_head-is_head.ensures ∙ (λ i. is_head (method_kind (c.method.ensures i))) in
    answered_run _ _ _ _ _ request r (Some c.in-Some-pieces.pieces) server _ _ _ _ _
    (whole_takes old.stage (head_of old.request) old.body.items request is)
    (rw c.in-Some-pieces.is at c.in-Ok.ensures.ok)
    (whole_within old.limits.max_body old.stage request is old.whole_bounded)
    (rw (sym head) c.reply_in_pieces.ensures.place)
    (λ lives.
    c.reply_in_pieces.ensures.text lives ∙ (λ i. pending i ++ opening_text (head i) server r))

pub returns-clause-works : goal.returns-clause-works
returns-clause-works g c = λ goes_on.
    let is : whole_of c.args.self.now ≡ Some c.in-Some.request =
    sym c.take_whole.ensures.whole ∙ c.in-Some.is in
    work_falls _ _ _ _ (c.reply_in_pieces.ensures.works goes_on)
    (λ i. length ((c.release_request.ensures.input ∙ c.take_whole.ensures.input) i).bytes.items)
    (whole_rank c.args.self.now.stage c.in-Some.request is)

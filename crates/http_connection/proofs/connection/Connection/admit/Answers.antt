use Rattle.std.proofs.Common.{[], refl, sym, append-nil, inl, inr}
use Rattle.http.specs.Request.{head_of}
use Rattle.http_connection.specs.Connections.{place_at}
use Rattle.http_connection.specs.Texts.{continue_text}
use Rattle.http_connection.proofs.RunLemmas.{admitted_run, rejected_run, vacuous}
use Rattle.http_connection.proofs.connection.Connection.admit.Goals as goal

pub returns-then-not-admitted-clause-runs : goal.returns-then-not-admitted-clause-runs
returns-then-not-admitted-clause-runs g c =
    rejected_run _ _ _ _ c.in-Ok.admitted c.args.self.now.request c.admit.new.response _ _ _ _ _
    c.if-not-admitted.true c.in-Ok.ensures.ok c.send_refusal.ensures.place
    c.send_refusal.ensures.text

pub returns-then-not-expects_continue-clause-runs :
    goal.returns-then-not-expects_continue-clause-runs
returns-then-not-expects_continue-clause-runs g c =
    admitted_run _ _ _ _ c.in-Ok.admitted c.args.self.now.request c.admit.new.response _ _ [] _ _ _
    c.if-not-admitted.false c.in-Ok.ensures.ok (inl refl)
    (inl (λ i. place_at (c.requires.stage i) (head_of c.args.self.now.request) (c.requires.body i)))
    (λ _. sym (append-nil _))

pub returns-in-Ok-write_continue-clause-runs : goal.returns-in-Ok-write_continue-clause-runs
returns-in-Ok-write_continue-clause-runs g c =
    admitted_run _ _ _ _ c.in-Ok.admitted c.args.self.now.request c.admit.new.response _ _
    continue_text _ _ _ c.if-not-admitted.false c.in-Ok.ensures.ok (inr refl)
    (inl (λ i. place_at (c.requires.stage i) (head_of c.args.self.now.request) (c.requires.body i)))
    (λ _. c.in-Ok-write_continue.ensures)

pub returns-clause-runs : goal.returns-clause-runs
returns-clause-runs g c =
    admitted_run _ _ _ _ c.in-Ok.admitted c.args.self.now.request c.admit.new.response _ _ [] _ _ _
    c.if-not-admitted.false c.in-Ok.ensures.ok (inl refl) (inr c.abort-in-Err.ensures.place)
    (λ lives. vacuous _ c.abort-in-Err.ensures.aborted lives)

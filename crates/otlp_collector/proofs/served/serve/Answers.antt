use Rattle.std.proofs.Common.{refl}
use Rattle.otlp_collector.specs.Served.{broken, no_outcome, outcome_view, whole}
use Rattle.otlp_collector.proofs.Prints.{err-weaker, ok-weaker}
use Rattle.otlp_collector.proofs.served.serve.Goals as goal

pub returns-in-Ok-clause-ok : goal.returns-in-Ok-clause-ok
returns-in-Ok-clause-ok g c =
    ok-weaker c.print_connection.result _ _
    (λ gained. record {
      outcome = outcome_view c.in-Ok.answered;
      is = whole c.in-Ok.ensures.served;
      gained = gained;
    })
    c.print_connection.ensures.ok

pub returns-in-Ok-clause-err : goal.returns-in-Ok-clause-err
returns-in-Ok-clause-err g c =
    err-weaker c.print_connection.result _ _
    (λ front. record {
      outcome = outcome_view c.in-Ok.answered;
      is = whole c.in-Ok.ensures.served;
      front = front;
    })
    c.print_connection.ensures.err

pub returns-in-Err-clause-ok : goal.returns-in-Err-clause-ok
returns-in-Err-clause-ok g c =
    ok-weaker c.print_none.result _ _
    (λ gained.
    record { outcome = no_outcome; is = broken _ c.in-Err.ensures.stopped refl; gained = gained })
    c.print_none.ensures.ok

pub returns-in-Err-clause-err : goal.returns-in-Err-clause-err
returns-in-Err-clause-err g c =
    err-weaker c.print_none.result _ _
    (λ front.
    record { outcome = no_outcome; is = broken _ c.in-Err.ensures.stopped refl; front = front })
    c.print_none.ensures.err

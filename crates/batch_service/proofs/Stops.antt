-- The end of a service, by the promise of its thread and by the end of its processor.
use Rattle.std.proofs.Common.{◌≡◌, ℕ, ◌≤◌, List, [], ◌∷◌, ◌++◌, sym, ap, ◌∙◌, subst, arith}
use Rattle.std.specs.Prelude.{Option, Result, Ok, Err, None}
use Rattle.model_desk.specs.Desks.{Desk}
use Rattle.model_processor.specs.Passes.{PassAccount, new_account, after_drain, after_shutdown}
use Rattle.model_processor.specs.WorkerClauses.{IsAccounted, Origin, WorksUntilItLeaves, abandon}
use Rattle.span_exporter.specs.Handed.{Handed, Gains}
use Rattle.drop_ledger.specs.Named.{Named}
use Rattle.batch_processor.specs.Views.{after_answer}
use Rattle.batch_processor.specs.Working.{Work, attempts_of}
use Rattle.batch_processor.specs.declared.fault.WorkerLeft.{WorkerLeft}
use Rattle.batch_processor.specs.declared.pass.Flushed.{Flushed}
use Rattle.batch_processor.specs.declared.worker.WorkEnd.{WorkEnd}
use Rattle.batch_processor.specs.declared.worker.WorkEnd.TheVariants as ends
use Rattle.batch_service.specs.Working.{IsDrained, NoneSettles, WorksOn, state_of}
use Rattle.batch_service.specs.Rest.{GivesUp}
use Rattle.batch_service.specs.Service.{EndsNone, IsServed, IsStopped, ServiceView, new_work}
use Rattle.batch_service.specs.Service.{popping}

-- A pass that ended no span still has ended none after a shutdown.
none_after : (answer : Result Flushed WorkerLeft) (ticket mark : ℕ) (account : PassAccount)
    → EndsNone account → EndsNone (after_answer answer (after_shutdown ticket mark account))
none_after (Ok flushed) ticket mark account e =
    record { ends = e.ends; popped = e.popped; popped_lost = e.popped_lost; late = e.late }
none_after (Err left) ticket mark account e =
    record { ends = e.ends; popped = e.popped; popped_lost = e.popped_lost; late = e.late }

-- A pass that ended no span still has ended none after a shutdown and its answer.
pub shuts_none : (answer : Result Flushed WorkerLeft) (ticket mark : ℕ) (old new : PassAccount)
    → new ≡ after_answer answer (after_shutdown ticket mark old) → EndsNone old → EndsNone new
shuts_none answer ticket mark old new is e =
    subst EndsNone (sym is) (none_after answer ticket mark old e)

more_after : (answer : Result Flushed WorkerLeft) (ticket mark : ℕ) (account : PassAccount)
    → 1 ≤ (after_answer answer (after_shutdown ticket mark account)).shutdowns
more_after (Ok flushed) ticket mark account = omega arith
more_after (Err left) ticket mark account = omega arith

-- A pass has called shutdown at least once after a shutdown and its answer.
pub shuts_once : (answer : Result Flushed WorkerLeft) (ticket mark : ℕ) (old new : PassAccount)
    → new ≡ after_answer answer (after_shutdown ticket mark old) → 1 ≤ new.shutdowns
shuts_once answer ticket mark old new is =
    subst (λ (a : PassAccount). 1 ≤ a.shutdowns) (sym is) (more_after answer ticket mark old)

module _ (view : ServiceView) (passes : List PassAccount) (desk : Desk)
    (told' : Option (List Handed)) (named' : Option Named) (begun work : Work)
    (names names' control : PassAccount) (end : WorkEnd) (all : List PassAccount) where
  -- A service whose worker's thread and processor keep their promises ends as its contract says.
  pub served : begun ≡ new_work view.origin → names ≡ new_account
      → WorksOn (state_of view.handed view.named begun names) (state_of told' named' work names')
      → (end ≡ ends.Drained → IsDrained work.account) → NoneSettles work → EndsNone control
      → 1 ≤ control.shutdowns → all ≡ passes ++ control ∷ names' ∷ []
      → IsAccounted view.origin desk all (abandon work.account)
      → WorksUntilItLeaves view.origin work.account → IsServed view passes desk told' named' end
  served begun_is names_is works drained settles none once all_is accounts until =
      let on = works.goes_on in
      let more = works.names.more in
      let popped : names' ≡ popping more =
      works.names.popped ∙ ap (after_drain more.dropped more.lost) names_is in
      let attempts : attempts_of work.account ≡ on.more =
      on.attempts ∙ ap (λ (w : Work). attempts_of w.account ++ on.more) begun_is in
      record {
        worker = work.account;
        control = control;
        names = more;
        accounts =
            subst
            (λ (xs : List PassAccount). IsAccounted view.origin desk xs (abandon work.account))
            (all_is ∙ ap (λ (p : PassAccount). passes ++ control ∷ p ∷ []) popped) accounts;
        works = until;
        own = none;
        shut = once;
        stays = on.left ∙ ap (λ (w : Work). w.account.left) begun_is;
        sent = subst (λ (xs : List Handed). Gains xs view.handed told') (sym attempts) on.gains;
        given = works.names.gains;
        drained = drained;
        none_settles =
            subst (λ (o : Origin).
            NoneSettles (record { origin = o; account = work.account; encoded = None }))
            (on.origin ∙ ap (λ (w : Work). w.origin) begun_is) settles;
      }

-- The end of a service doesn't depend on what its own pass knew before.
pub same_service : (view view' : ServiceView) (passes : List PassAccount) (desk : Desk)
    (told : Option (List Handed)) (named : Option Named) (end : WorkEnd)
    → view' ≡ record view { control = view'.control } → IsServed view' passes desk told named end
    → IsServed view passes desk told named end
same_service view view' passes desk told named end is came =
    let s : IsServed (record view { control = view'.control }) passes desk told named end =
    subst (λ (v : ServiceView). IsServed v passes desk told named end) is came in
    record {
      worker = s.worker;
      control = s.control;
      names = s.names;
      accounts = s.accounts;
      works = s.works;
      own = s.own;
      shut = s.shut;
      stays = s.stays;
      sent = s.sent;
      given = s.given;
      drained = s.drained;
      none_settles = s.none_settles;
    }

-- A served service whose queue is given up then is stopped.
pub stopped : (view : ServiceView) (passes : List PassAccount) (desk desk' : Desk)
    (told : Option (List Handed)) (named named' : Option Named) (end : WorkEnd)
    → IsServed view passes desk told named end → GivesUp desk desk' named named'
    → IsStopped view passes desk' told named' end
stopped view passes desk desk' told named named' end was rest =
    record { closed = desk; named_before = named; served = was; rest = rest }

-- A pass that ended no span still has ended none after it began a shutdown.
pub begins_none : (ticket mark : ℕ) (old new : PassAccount) → new ≡ after_shutdown ticket mark old
    → EndsNone old → EndsNone new
begins_none ticket mark old new is e =
    subst EndsNone (sym is)
    (record { ends = e.ends; popped = e.popped; popped_lost = e.popped_lost; late = e.late })

-- A pass that began a shutdown has called it at least once.
pub begins_once : (ticket mark : ℕ) (old new : PassAccount) → new ≡ after_shutdown ticket mark old
    → 1 ≤ new.shutdowns
begins_once ticket mark old new is =
    subst (λ (a : PassAccount). 1 ≤ a.shutdowns) (sym is) (omega arith)

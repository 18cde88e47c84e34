-- What is lost, and that it is named.
use Rattle.std.proofs.Common.{◌≡◌, refl, sym, ap, ◌∙◌, arith, List, [], ◌++◌}
use Rattle.std.proofs.Common.{Bool, true, false, Option, Some, None, option_map}
use Rattle.std.specs.Prelude.{◌==◌, if◌then◌else◌, option_to_list}
use Rattle.std.proofs.lemmas.List.{append-nil}
use Rattle.model_span.specs.Spans.{SpanData}
use Rattle.model_span.specs.Dropped.{Entry}
use Rattle.model_desk.specs.Retries.{Fate, fate_of}
use Rattle.model_desk.specs.Queue.{DeskEvent, last_spans, losses_by, losses, lost_as}
use Rattle.model_desk.specs.Queue as desk
use Rattle.model_desk.proofs.Lists.{gather-more}
use Rattle.model_run.proofs.Losses.{losses-handed, reasons-apart}
use Rattle.model_run.specs.Steps.{Step}
use Rattle.model_run.specs.Runs.{event_by, desk_events}
use Rattle.model_run.proofs.More.{events-more}
use Rattle.model_run.specs.Laws.{OfHistories, OfRuns, IsAllowed, lost_by, BatchesAreLost}
use Rattle.model_run.specs.Laws.{LostWereHanded, LossesAreNamed}
use Rattle.model_run.proofs.Cases.{EventCases, by-event}
use Rattle.model_run.proofs.Steps.{none-unaccounted-for, handed-are-not-dropped, losses-name-ended}
use Rattle.model_run.proofs.Values.{ledger-names-the-lost}

-- what an event, if there is one, adds after others
abbrev adds : List DeskEvent → Option DeskEvent → List Entry
adds events None = []
adds events (Some y) = losses_by events y

added : (events : List DeskEvent) (o : Option DeskEvent)
    → losses (events ++ option_to_list o) ≡ losses events ++ adds events o
added events None = ap losses (append-nil events) ∙ sym (append-nil (losses events))
added events (Some y) = gather-more losses_by events y

-- The spans that an event loses are those that the answer says.
by-answer : (events : List DeskEvent) (step : Step)
    → EventCases step (λ a o. adds events o ≡ lost_by a (last_spans events))
by-answer events step = record {
  of_queued = λ n o. by-queued o;
  of_full = λ n o. by-full o;
  of_late = refl;
  of_flush = refl;
  of_shutdown = refl;
  of_taken = λ n s. refl;
  of_encoded = λ n s. refl;
  of_dropped = λ n r. refl;
  of_sent = λ n attempt outcome. by-handed (attempt == 1);
  of_replied = λ n next. by-settled (fate_of next);
  of_other = λ a s. sym (s.no_loss (last_spans events));
}
  where
    by-queued : (o : Option SpanData) → adds events (option_map desk.queued o) ≡ []
    by-queued None = refl
    by-queued (Some s) = refl

    by-full : (o : Option SpanData) → adds events (option_map desk.full o) ≡ []
    by-full None = refl
    by-full (Some s) = refl

    by-handed : (b : Bool) → adds events (if b then Some desk.handed else None) ≡ []
    by-handed true = refl
    by-handed false = refl

    by-settled : (o : Option Fate)
        → adds events (option_map desk.settled o) ≡ lost_as o (last_spans events)
    by-settled None = refl
    by-settled (Some f) = refl

batches-are-lost : OfHistories BatchesAreLost
batches-are-lost setup h before later x e =
    let events : List DeskEvent = desk_events setup before in
    ap losses (events-more setup before x (event_by setup before x.answer x.step) refl)
    ∙ added events (event_by setup before x.answer x.step)
    ∙ ap (λ (es : List Entry). losses events ++ es)
    (by-event setup before x.step (λ a o. adds events o ≡ lost_by a (last_spans events))
    (by-answer events x.step) x.answer)

lost-were-handed : OfRuns (λ run h. IsAllowed run h → LostWereHanded run.setup h)
lost-were-handed run h w l ticket =
    let few = losses-handed run.desk 0 (desk_events run.setup h) l ticket in
    let once = handed-are-not-dropped run.setup h (none-unaccounted-for run h w l) ticket in
    (few, omega (arith, few, once))

-- Lost spans are those of lost batches, were handed, are named once and for reasons of lost ones.
pub losses-are-named : OfRuns (λ run h. IsAllowed run h → LossesAreNamed run h)
losses-are-named run h w l = record {
  batches = batches-are-lost run.setup h;
  handed = lost-were-handed run h w l;
  values = losses-name-ended run h w;
  ledger = ledger-names-the-lost run h;
  apart = reasons-apart run.desk 0 (desk_events run.setup h) l;
}

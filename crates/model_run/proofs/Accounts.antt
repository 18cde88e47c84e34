-- What a right history does at the queue, and at what stage its last batch is.
use Rattle.std.proofs.Common.{◌≡◌, refl, sym, ap, subst, ◌∙◌, ℕ, ◌+◌, ◌-◌, ◌^◌, ◌<◌, arith, List}
use Rattle.std.proofs.Common.{[], ◌∷◌, ◌++◌, length, Bool, true, false, ◌||◌, Option, Some, None}
use Rattle.std.proofs.Common.{slice_get, length-append}
use Rattle.std.specs.List.{list_any}
use Rattle.std.proofs.lemmas.List.{append-nil}
use Rattle.model_span.specs.Spans.{SpanData}
use Rattle.model_desk.specs.Queue.{DeskEvent, ticket_of, tickets, Stage, in_hand, with_exporter}
use Rattle.model_desk.specs.Queue.{stage_by, stage}
use Rattle.model_desk.specs.Queue as desk
use Rattle.model_desk.specs.Desks.{desk_of, Allowed, AreAllowed}
use Rattle.model_desk.proofs.Lists.{some-more, any-more}
use Rattle.model_desk.proofs.Steps.{tickets-kept, stage-kept, allowed-more}
use Rattle.model_run.specs.Steps.{is_shutdown}
use Rattle.model_run.specs.Runs.{Answered, ended_by, event_by, desk_events}
use Rattle.model_run.specs.Answers.{RunConfig, Progress, not_out, to_encode, to_send, to_judge}
use Rattle.model_run.specs.Answers.{to_retry, progress_by, progress}
use Rattle.model_run.proofs.More.{is_shut, shut-more, events-more, progress-none}
use Rattle.model_run.proofs.Values.{Has, AreOf, has-no-ticket, are-push, are-more}

-- ---- accounts

-- the stage at the queue of a batch with this progress
abbrev pub stage_of : Progress → Stage
stage_of not_out = desk.not_out
stage_of to_encode = in_hand
stage_of to_send = in_hand
stage_of (to_judge outcome) = with_exporter
stage_of (to_retry moment) = with_exporter

pub record Account (run : RunConfig) (h : List Answered) : Type 0 where
  pub are : AreOf (ended_by run.setup h) (desk_events run.setup h)
  pub given : length (tickets (desk_events run.setup h)) ≡ length (ended_by run.setup h)
  pub stands : stage (desk_events run.setup h) ≡ stage_of (progress h)
  pub shut : list_any desk.is_shutdown (desk_events run.setup h) ≡ is_shut h
  pub allowed : length (ended_by run.setup h) < 2 ^ 64 - 1
      → AreAllowed run.desk 0 (desk_events run.setup h)

or-none : (b c : Bool) → c ≡ false → (b || c) ≡ b
or-none true c e = refl
or-none false c e = e

module _ (run : RunConfig) (h : List Answered) (x : Answered) where
  abbrev EndsNone : Type 0
  EndsNone = ended_by run.setup (h ++ x ∷ []) ≡ ended_by run.setup h

  abbrev Does : Option DeskEvent → Type 0
  Does o = event_by run.setup h x.answer x.step ≡ o

  -- A step that ends no span and does nothing at the queue keeps the account.
  pub quiet : EndsNone → Does None → stage_of (progress (h ++ x ∷ [])) ≡ stage_of (progress h)
      → is_shutdown x.step ≡ false → Account run h → Account run (h ++ x ∷ [])
  quiet e f p s a =
      let many : length (ended_by run.setup (h ++ x ∷ [])) ≡ length (ended_by run.setup h) =
      ap length e in
      let same : desk_events run.setup (h ++ x ∷ []) ≡ desk_events run.setup h =
      events-more run.setup h x None f ∙ append-nil (desk_events run.setup h) in
      record {
        are =
            subst (λ ended. AreOf ended (desk_events run.setup (h ++ x ∷ []))) (sym e)
            (subst (AreOf (ended_by run.setup h)) (sym same) a.are);
        given = ap (λ es. length (tickets es)) same ∙ a.given ∙ sym many;
        stands = ap stage same ∙ a.stands ∙ sym p;
        shut =
            ap (list_any desk.is_shutdown) same ∙ a.shut
            ∙ sym (shut-more h x ∙ or-none (is_shut h) (is_shutdown x.step) s);
        allowed =
            λ l. subst (AreAllowed run.desk 0) (sym same) (a.allowed (omega (arith, l, many)));
      }

  -- A step that ends no span and does something at the queue keeps the account.
  pub tells : (y : DeskEvent) → EndsNone → Does (Some y) → ticket_of y ≡ None
      → stage (desk_events run.setup h ++ y ∷ []) ≡ stage_of (progress (h ++ x ∷ []))
      → desk.is_shutdown y ≡ is_shutdown x.step
      → Allowed (desk_of run.desk 0 (desk_events run.setup h)) y → Account run h
      → Account run (h ++ x ∷ [])
  tells y e f t p s w a =
      let many : length (ended_by run.setup (h ++ x ∷ [])) ≡ length (ended_by run.setup h) =
      ap length e in
      let more : desk_events run.setup (h ++ x ∷ []) ≡ desk_events run.setup h ++ y ∷ [] =
      events-more run.setup h x (Some y) f in
      record {
        are = subst (λ ended. AreOf ended (desk_events run.setup (h ++ x ∷ []))) (sym e)
            (subst (AreOf (ended_by run.setup h)) (sym more)
            (are-push (ended_by run.setup h) (desk_events run.setup h) y a.are
            (has-no-ticket (λ s. slice_get (ended_by run.setup h) s.ticket ≡ Some s) y t)));
        given =
            ap (λ es. length (tickets es)) more
            ∙ ap length (tickets-kept (desk_events run.setup h) y t) ∙ a.given ∙ sym many;
        stands = ap stage more ∙ p;
        shut =
            ap (list_any desk.is_shutdown) more
            ∙ any-more desk.is_shutdown (desk_events run.setup h) y ∙ (λ j. a.shut j || s j)
            ∙ sym (shut-more h x);
        allowed =
            λ l. subst (AreAllowed run.desk 0) (sym more)
            (allowed-more run.desk 0 (desk_events run.setup h) y
            (a.allowed (omega (arith, l, many))) w);
      }

  -- A step that ends a span, which is queued or finds the queue full, keeps the account.
  pub ends : (s : SpanData) (y : DeskEvent)
      → ended_by run.setup (h ++ x ∷ []) ≡ ended_by run.setup h ++ s ∷ [] → Does (Some y)
      → Has (λ z. slice_get (ended_by run.setup h ++ s ∷ []) z.ticket ≡ Some z) y
      → ticket_of y ≡ Some s.ticket → stage_by y ≡ None → desk.is_shutdown y ≡ false
      → progress_by x.answer ≡ None → is_shutdown x.step ≡ false
      → (length (ended_by run.setup h) + 1 < 2 ^ 64 - 1
      → Allowed (desk_of run.desk 0 (desk_events run.setup h)) y)
      → Account run h → Account run (h ++ x ∷ [])
  ends s y e f own t g d p k w a =
      let many : length (ended_by run.setup (h ++ x ∷ [])) ≡ length (ended_by run.setup h) + 1 =
      ap length e ∙ length-append (ended_by run.setup h) (s ∷ []) in
      let more : desk_events run.setup (h ++ x ∷ []) ≡ desk_events run.setup h ++ y ∷ [] =
      events-more run.setup h x (Some y) f in
      let one : length (tickets (desk_events run.setup h ++ y ∷ []))
      ≡ length (tickets (desk_events run.setup h)) + 1 =
      ap length (some-more ticket_of (desk_events run.setup h) y s.ticket t)
      ∙ length-append (tickets (desk_events run.setup h)) (s.ticket ∷ []) in
      record {
        are = subst (λ ended. AreOf ended (desk_events run.setup (h ++ x ∷ []))) (sym e)
            (subst (AreOf (ended_by run.setup h ++ s ∷ [])) (sym more)
            (are-push (ended_by run.setup h ++ s ∷ []) (desk_events run.setup h) y
            (are-more (ended_by run.setup h) (s ∷ []) (desk_events run.setup h) a.are) own));
        given =
            ap (λ es. length (tickets es)) more ∙ one ∙ ap (λ (n : ℕ). n + 1) a.given ∙ sym many;
        stands =
            ap stage more ∙ stage-kept (desk_events run.setup h) y g ∙ a.stands
            ∙ ap stage_of (sym (progress-none h x p));
        shut =
            ap (list_any desk.is_shutdown) more
            ∙ any-more desk.is_shutdown (desk_events run.setup h) y
            ∙ (λ j. a.shut j || (d ∙ sym k) j) ∙ sym (shut-more h x);
        allowed =
            λ l. subst (AreAllowed run.desk 0) (sym more)
            (allowed-more run.desk 0 (desk_events run.setup h) y
            (a.allowed (omega (arith, l, many))) (w (omega (arith, l, many))));
      }

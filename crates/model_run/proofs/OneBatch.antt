-- At most one batch is out.
use Rattle.std.proofs.Common.{◌≡◌, refl, sym, ap, subst, ◌∙◌, ℕ, List, [], ◌∷◌, ◌++◌, Bool, true}
use Rattle.std.proofs.Common.{false, true≢false, ◌&&◌, ◌||◌, Option, Some, None, filter_map}
use Rattle.std.specs.Prelude.{is_none}
use Rattle.std.specs.List.{list_any, cons_option}
use Rattle.std.proofs.lemmas.List.Elements.{filter_map-append}
use Rattle.model_span.specs.Attributes.{last_or}
use Rattle.model_desk.specs.Queue.{last_batch, last_size}
use Rattle.model_desk.specs.Retries.{Next, again, give_up}
use Rattle.model_desk.specs.Desks.{out_as, is_due, desk_of}
use Rattle.model_run.specs.Steps.{Step}
use Rattle.model_run.specs.History.{Setup}
use Rattle.model_run.specs.Runs.{Answer, replied, Answered, desk_events}
use Rattle.model_run.specs.Answers.{RunConfig, Progress, not_out, to_encode, to_send, to_judge}
use Rattle.model_run.specs.Answers.{to_retry, progress_by, progress, desk_after, AreAnswers}
use Rattle.model_run.specs.Laws.{may_take, says_taken, ends_batch, OfRuns, OneBatchIsOut}
use Rattle.model_run.proofs.RightHistories.{front}
use Rattle.model_run.proofs.Cases.{by-answer}
use Rattle.model_run.proofs.Answered.{taken-where-due}
use Rattle.model_run.proofs.Accounts.{Account, stage_of}
use Rattle.model_run.proofs.Steps.{account}

-- ---- whether the last batch is out

abbrev is_out : Progress → Bool
is_out not_out = false
is_out to_encode = true
is_out to_send = true
is_out (to_judge outcome) = true
is_out (to_retry moment) = true

last-after : {A : Type 0} (d : A) (xs : List A) (y : A) (ys : List A)
    → last_or d (xs ++ y ∷ ys) ≡ last_or y ys
last-after d [] y ys = refl
last-after d (x ∷ xs) y ys = last-after x xs y ys

-- An answer that says where a batch is, and doesn't end it, says that it is out.
abbrev TellsOut : Answer → Type 0
TellsOut a = (p : Progress) → ends_batch a ≡ false → progress_by a ≡ Some p → is_out p ≡ true

told-out : Setup → (a : Answer) → TellsOut a
told-out setup a = by-answer TellsOut
    (record {
      of_taken = λ n size p r e. let k : to_encode ≡ p = cc in ap is_out (sym k);
      of_encoded = λ n size p r e. let k : to_send ≡ p = cc in ap is_out (sym k);
      of_dropped = λ n reason p r e. absurd (true≢false r);
      of_sent = λ n attempt outcome p r e. let k : to_judge outcome ≡ p = cc in ap is_out (sym k);
      of_replied = replied-out;
      of_other = λ a s p r e. absurd (none-some p (sym s.no_progress ∙ e));
    })
    setup a
  where
    none-some : (p : Progress) → None ≡ Some p → ⊥
    none-some p e = cc

    replied-out : (number : ℕ) (next : Next) → TellsOut (replied number next)
    replied-out number (again moment) p r e = let k : to_retry moment ≡ p = cc in ap is_out (sym k)
    replied-out number Next.done p r e = absurd (true≢false r)
    replied-out number (Next.partial rejected) p r e = absurd (true≢false r)
    replied-out number (give_up cause) p r e = absurd (true≢false r)

or-left : (b c : Bool) → (b || c) ≡ false → b ≡ false
or-left true c e = absurd (true≢false e)
or-left false c e = refl

or-right : (b c : Bool) → (b || c) ≡ false → c ≡ false
or-right true c e = absurd (true≢false e)
or-right false c e = e

-- A batch stays out where no answer ends it.
stays-out : (setup : Setup) (p : Progress) (between : List Answered) → is_out p ≡ true
    → list_any (λ z. ends_batch z.answer) between ≡ false
    → is_out (last_or p (filter_map (λ z. progress_by z.answer) between)) ≡ true
stays-out setup p [] o n = o
stays-out setup p (z ∷ between) o n =
    by (progress_by z.answer) refl
    (λ q k. stays-out setup q between k
    (or-right (ends_batch z.answer) (list_any (λ z. ends_batch z.answer) between) n))
  where
    by : (q : Option Progress) → progress_by z.answer ≡ q
        → ((r : Progress) → is_out r ≡ true
        → is_out (last_or r (filter_map (λ z. progress_by z.answer) between)) ≡ true)
        → is_out (last_or p (cons_option q (filter_map (λ z. progress_by z.answer) between))) ≡ true
    by None e rest = rest p o
    by (Some q) e rest =
        rest q
        (told-out setup z.answer q
        (or-left (ends_batch z.answer) (list_any (λ z. ends_batch z.answer) between) n) e)

-- After a take a batch is out, until an answer ends it.
taken-out : (setup : Setup) (before between : List Answered) (x : Answered)
    → progress_by x.answer ≡ Some to_encode → list_any (λ z. ends_batch z.answer) between ≡ false
    → is_out (progress (before ++ x ∷ between)) ≡ true
unfolding progress
taken-out setup before between x e n =
    ap is_out
    (ap (last_or not_out)
    (filter_map-append (λ z. progress_by z.answer) before (x ∷ between)
    ∙ ap (λ o. filter_map (λ z. progress_by z.answer) before
    ++ cons_option o (filter_map (λ z. progress_by z.answer) between))
    e)
    ∙ last-after not_out (filter_map (λ z. progress_by z.answer) before) to_encode
    (filter_map (λ z. progress_by z.answer) between))
    ∙ stays-out setup to_encode between refl n

says-taken : Setup → (a : Answer) → says_taken a ≡ true → progress_by a ≡ Some to_encode
says-taken setup a = by-answer (λ a. says_taken a ≡ true → progress_by a ≡ Some to_encode)
    (record {
      of_taken = λ n size e. refl;
      of_encoded = λ n size e. absurd (true≢false (sym e));
      of_dropped = λ n reason e. absurd (true≢false (sym e));
      of_sent = λ n attempt outcome e. absurd (true≢false (sym e));
      of_replied = λ n next e. absurd (true≢false (sym e));
      of_other = λ a s e. absurd (true≢false (sym e ∙ s.no_take));
    })
    setup a

-- ---- before a take

and-right : (a b : Bool) → (a && b) ≡ true → b ≡ true
and-right true b e = e
and-right false b e = absurd (true≢false (sym e))

none-out : (run : RunConfig) (h : List Answered) (step : Step) → may_take run h step ≡ true
    → is_none (desk_after run h).out ≡ true
none-out run h (Step.take now) e =
    and-right (is_due (desk_after run h) now) (is_none (desk_after run h).out) e
none-out run h (Step.start scope parent kind at name) e = absurd (true≢false (sym e))
none-out run h (Step.call n c) e = absurd (true≢false (sym e))
none-out run h Step.flush e = absurd (true≢false (sym e))
none-out run h Step.shutdown e = absurd (true≢false (sym e))
none-out run h Step.encode e = absurd (true≢false (sym e))
none-out run h (Step.attempt now) e = absurd (true≢false (sym e))
none-out run h (Step.reply now word) e = absurd (true≢false (sym e))

stage-none : (p : Progress) (number size : ℕ) → is_none (out_as (stage_of p) number size) ≡ true
    → is_out p ≡ false
stage-none not_out number size e = refl
stage-none to_encode number size e = absurd (true≢false (sym e))
stage-none to_send number size e = absurd (true≢false (sym e))
stage-none (to_judge outcome) number size e = absurd (true≢false (sym e))
stage-none (to_retry moment) number size e = absurd (true≢false (sym e))

not-out : (run : RunConfig) (h : List Answered) → Account run h
    → is_none (desk_after run h).out ≡ true → is_out (progress h) ≡ false
unfolding desk_after desk_of
not-out run h a e =
    stage-none (progress h) (last_batch (desk_events run.setup h))
    (last_size (desk_events run.setup h))
    (ap (λ s.
    is_none (out_as s (last_batch (desk_events run.setup h)) (last_size (desk_events run.setup h))))
    (sym a.stands)
    ∙ e)

-- Between two takes that give batches, an answer ends the first of these.
pub one-batch-is-out : OfRuns (λ run. OneBatchIsOut)
one-batch-is-out run h all before between later x y e t u =
    by (list_any (λ z. ends_batch z.answer) between) refl
  where
    by : (b : Bool) → list_any (λ z. ends_batch z.answer) between ≡ b → b ≡ true
    by true k = refl
    by false k =
        let may : may_take run (before ++ x ∷ between) y.step ≡ true =
        sym (taken-where-due run h all (before ++ x ∷ between) later y e) ∙ u in
        let a : Account run (before ++ x ∷ between) =
        account run (before ++ x ∷ between)
        (front run (before ++ x ∷ between) (y ∷ later) (subst (AreAnswers run) (sym e) all)) in
        let none : is_out (progress (before ++ x ∷ between)) ≡ false =
        not-out run (before ++ x ∷ between) a (none-out run (before ++ x ∷ between) y.step may) in
        absurd (true≢false
        (sym (taken-out run.setup before between x (says-taken run.setup x.answer t) k) ∙ none))

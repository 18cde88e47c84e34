-- What each turn of the worker's pass does.
use Rattle.std.proofs.Common.{◌≡◌, ℕ, ◌+◌, ◌<◌, ◌≤◌, min, Bool, true, false, List, [], ◌∷◌, ◌++◌}
use Rattle.std.proofs.Common.{length, sym, refl, ap, ◌∙◌, subst, arith}
use Rattle.std.specs.Prelude.{IfSome, Option, Some, None, option_map, nat_lt, if◌then◌else◌}
use Rattle.std.specs.List.{AllByRecursion, flat_map}
use Rattle.std.specs.Option.{option_map_or}
use Rattle.std.proofs.lemmas.List.{append-nil, append_assoc, length-append, nil_from_length}
use Rattle.std.proofs.lemmas.Grind.{flat_map-append}
use Rattle.account_book.proofs.Facts.{each_append}
use Rattle.model_span.specs.Spans.{SpanData}
use Rattle.model_span.specs.Dropped.{Reason}
use Rattle.model_export.specs.Export.{LacksBody}
use Rattle.model_desk.specs.Retries.{Outcome, Fate, again, fate_of, next_of}
use Rattle.model_desk.specs.Retries as retries
use Rattle.model_desk.specs.Waits.{RetryConfig, next_after, retried, wait_ns, greatest_moment}
use Rattle.model_desk.proofs.Again.{again-few}
use Rattle.span_exporter.specs.Handed.{Handed, Gains, handing}
use Rattle.batch_desk.specs.Batch.{BatchView}
use Rattle.batch_sending.specs.Sendings as sendings
use Rattle.batch_sending.specs.Sendings.{Sending, Stage, attempts_at, is_pending_at, is_sent_at}
use Rattle.batch_sending.specs.Sendings.{to_judge, to_retry, to_send}
use Rattle.batch_sending.specs.Answers.{MayBeSentAt}
use Rattle.model_processor.specs.Worker.{EndedBatch, OutBatch, WorkerAccount, settled, dropped}
use Rattle.model_processor.specs.WorkerClauses.{EachLeadsOn, EndByWork, IsByWork, IsBodyOf}
use Rattle.model_processor.specs.WorkerClauses.{IsOutByWork, IsSent, IsSentSoFar, LeadsTo, Origin}
use Rattle.model_processor.specs.WorkerClauses.{WorksUntilItLeaves, abandon, abandon_out}
use Rattle.model_processor.specs.AnyAccounts.{AnyAccount, after_drained, after_drop}
use Rattle.model_processor.specs.AnyAccounts.{after_left, after_settle, after_take, ended_with}
use Rattle.model_processor.specs.AnyAccounts.{handed_with, on_worker, origin_in, settled_with}
use Rattle.model_processor.specs.AnyAccounts.{worker, worker_in}
use Rattle.batch_processor.specs.Holds.{IsBatchSize, TakesBatch}
use Rattle.batch_processor.specs.Working.{GoesOn, Hand, HasLeft, HasRoom, IsAsFar}
use Rattle.batch_processor.specs.Working.{IsPassWith, IsPrepared, IsReady, IsWorkingWith}
use Rattle.batch_processor.specs.Working.{LeadTo, StepsAside, TakesStep, Work, WorkerState}
use Rattle.batch_processor.specs.Working.{attempts_by, attempts_from, attempts_of, attempts_out}
use Rattle.batch_processor.specs.Working.{attempts_with, begun, begun_at, hand_at}
use Rattle.batch_processor.specs.Working.{handed_at, handed_in, in_hand, is_pending_in}
use Rattle.batch_processor.specs.Working.{outcomes_out, with_outcomes, work_in}

-- ---- attempts

-- One more outcome of a batch adds one attempt, with the next number, to its attempts.
pub attempts-more : (number attempt : ℕ) (body : List ℕ) (outcomes : List Outcome) (o : Outcome)
    → attempts_from number attempt body (outcomes ++ o ∷ [])
    ≡ attempts_from number attempt body outcomes
    ++ handing number (attempt + length outcomes) body o
attempts-more number attempt body [] o =
    ap (λ (n : ℕ). handing number n body o) (let e : attempt ≡ attempt + 0 = omega arith in e)
attempts-more number attempt body (p ∷ outcomes) o =
    let first : Handed = record { number = number; attempt = attempt; body = body; outcome = p } in
    ap (λ (l : List Handed). first ∷ l)
    (attempts-more number (attempt + 1) body outcomes o
    ∙ ap (λ (n : ℕ). attempts_from number (attempt + 1) body outcomes ++ handing number n body o)
    (let e : (attempt + 1) + length outcomes ≡ attempt + length (p ∷ outcomes) = omega arith in e))

-- Outcomes that each lead to another attempt still do so after one more such outcome.
pub leads-more : (retry : RetryConfig) (attempt : ℕ) (outcomes : List Outcome) (o : Outcome)
    → EachLeadsOn retry attempt outcomes → LeadsTo retry (attempt + length outcomes) o None
    → EachLeadsOn retry attempt (outcomes ++ o ∷ [])
leads-more retry attempt [] o all one = (
  (λ now word. let e : attempt ≡ attempt + 0 = omega arith in
      ap (λ (n : ℕ). fate_of (next_after retry n o now word)) e ∙ one now word),
  tt,
)
leads-more retry attempt (p ∷ outcomes) o all one = (
  all.0,
  leads-more retry (attempt + 1) outcomes o all.1
      (λ now word.
      let e : (attempt + 1) + length outcomes ≡ attempt + length (p ∷ outcomes) = omega arith in
      ap (λ (n : ℕ). fate_of (next_after retry n o now word)) e ∙ one now word),
)

-- ---- what an outcome leads to depends neither on the moment nor on the word

lead_of : (retry : RetryConfig) (attempt : ℕ) (o : Outcome) (now word now' word' : ℕ) (b : Bool)
    (r : Option (Option retries.RetryAfter))
    → fate_of (if b
    then option_map_or
    (λ after. again (min (now + wait_ns retry attempt after now word) greatest_moment)) r
    (next_of o)
    else next_of o)
    ≡ fate_of (if b
    then option_map_or
    (λ after. again (min (now' + wait_ns retry attempt after now' word') greatest_moment)) r
    (next_of o)
    else next_of o)
lead_of retry attempt o now word now' word' true None = refl
lead_of retry attempt o now word now' word' true (Some after) = refl
lead_of retry attempt o now word now' word' false r = refl

-- What an outcome leads to depends neither on the moment nor on the drawn word.
pub same_lead : (retry : RetryConfig) (attempt : ℕ) (o : Outcome) (now word now' word' : ℕ)
    → fate_of (next_after retry attempt o now word)
    ≡ fate_of (next_after retry attempt o now' word')
same_lead retry attempt o now word now' word' =
    lead_of retry attempt o now word now' word' (nat_lt attempt retry.attempts) (retried o)

-- ---- nothing is sent

gains_none : (told told' : Option (List Handed)) → told' ≡ told → Gains [] told told'
gains_none None told' same = same
gains_none (Some had) told' same = same ∙ ap Some (sym (append-nil had))

gains_more : (xs ys : List Handed) (a b d : Option (List Handed)) → Gains xs a b → Gains ys b d
    → Gains (xs ++ ys) a d
gains_more xs ys None b d first second =
    second ∙ ap (option_map (λ (had : List Handed). had ++ ys)) first
gains_more xs ys (Some had) b d first second =
    second ∙ ap (option_map (λ (all : List Handed). all ++ ys)) first
    ∙ ap Some (append_assoc had xs ys)

-- Work that hands nothing to the exporter and ends no batch goes on as the contract says.
pub goes_quiet : (told told' : Option (List Handed)) (old new : Work) → told' ≡ told
    → new.origin ≡ old.origin → attempts_of new.account ≡ attempts_of old.account
    → new.account.ended ≡ old.account.ended → new.account.left ≡ old.account.left
    → (old.account.left ≡ true → new ≡ old) → GoesOn told told' old new
goes_quiet told told' old new same origin attempts ended left stays = record {
  origin = origin;
  more = [];
  gains = gains_none told told' same;
  attempts = attempts ∙ sym (append-nil (attempts_of old.account));
  batches = [];
  ended = ended ∙ sym (append-nil old.account.ended);
  by_work = tt;
  left = left;
  stays = stays;
}

-- The worker hasn't left.
stays_here : (w : WorkerAccount) {X : Type 0} → w.left ≡ false → w.left ≡ true → X
stays_here w here is = absurd (let e : true ≡ false = sym is ∙ here in cc)

-- Two stretches of work, one after the other, are one.
pub goes_on : (told told' told'' : Option (List Handed)) (old mid new : Work)
    → GoesOn told told' old mid → GoesOn told' told'' mid new → GoesOn told told'' old new
goes_on told told' told'' old mid new a b = record {
  origin = b.origin ∙ a.origin;
  more = a.more ++ b.more;
  gains = gains_more a.more b.more told told' told'' a.gains b.gains;
  attempts =
      b.attempts ∙ ap (λ (l : List Handed). l ++ b.more) a.attempts
      ∙ append_assoc (attempts_of old.account) a.more b.more;
  batches = a.batches ++ b.batches;
  ended =
      b.ended ∙ ap (λ (l : List EndedBatch). l ++ b.batches) a.ended
      ∙ append_assoc old.account.ended a.batches b.batches;
  by_work =
      each_append (IsByWork old.origin) a.batches b.batches a.by_work
      (subst (λ (o : Origin). AllByRecursion (IsByWork o) b.batches) a.origin b.by_work);
  left = b.left ∙ a.left;
  stays = λ is. b.stays (a.left ∙ is) ∙ a.stays is;
}

-- the attempts of the batches that have ended
abbrev before : WorkerAccount → List Handed
before w = flat_map (λ (b : EndedBatch). attempts_by b.number b.ending) w.ended

module _ (s : WorkerState) (hand : Option Hand) where
  attempts_to : (b : OutBatch) → s.account.out ≡ Some b
      → attempts_of (work_in s hand).account
      ≡ before s.account ++ attempts_with b.number b.body s.outcomes
  attempts_to b out =
      ap (λ (o : Option OutBatch). before s.account ++ attempts_out (with_outcomes s.outcomes o))
      out

  attempts_none : s.account.out ≡ None → attempts_of (work_in s hand).account ≡ before s.account
  attempts_none none =
      ap (λ (o : Option OutBatch). before s.account ++ attempts_out (with_outcomes s.outcomes o))
      none
      ∙ append-nil (before s.account)

-- the batch that is out, as the worker's account has it
abbrev out_with : BatchView → Option (List ℕ) → OutBatch
out_with batch body =
    record { number = batch.number; spans = batch.spans; body = body; outcomes = [] }

-- ---- steps without a batch in hand

-- Work that changes nothing goes on as the contract says.
pub no_turn : (told : Option (List Handed)) (work : Work) → GoesOn told told work work
no_turn told work = goes_quiet told told work work refl refl refl refl refl (λ _. refl)

-- A worker whose state is unchanged has taken a step that leaves the exporter alone.
pub no_step : (old new : WorkerState) (hand : Option Hand) → IsWorkingWith old hand → new ≡ old
    → StepsAside old hand new hand
no_step old new hand k is = subst (λ (s : WorkerState). StepsAside old hand s hand) (sym is)
    (λ told room prepared. record {
      ready = record { works = k; prepared = prepared };
      goes_on = no_turn told (work_in old hand);
    })

-- The take of a batch is a step that leaves the exporter alone.
pub take_step : (old new : WorkerState) (batch : BatchView) → IsWorkingWith old None
    → batch.room ≡ old.origin.desk.batch → IsBatchSize old.origin batch.spans
    → new ≡ record old { account = after_take batch.number batch.spans old.account }
    → StepsAside old None new (hand_at batch None)
take_step old new batch k room size is =
    subst (λ (s : WorkerState). StepsAside old None s (hand_at batch None)) (sym is)
    (λ told place prepared. record {
      ready = record {
        works = record {
          here = k.here;
          retry = k.retry;
          by_work = k.by_work;
          tied = record { out = refl; room = room; some = size.0; few = size.1; far = k.tied.1 };
        };
        prepared = tt;
      };
      goes_on =
          let new : WorkerState =
          record old { account = after_take batch.number batch.spans old.account } in
          goes_quiet told told (work_in old None) (work_in new (hand_at batch None))
          refl refl
          (append-nil (before old.account) ∙ sym (attempts_none old None k.tied.0)) refl refl
          (stays_here old.account k.here);
    })

-- A step without a batch is still one where the account then notes that all is drained.
pub drained_step : (old mid new : WorkerState) (b : Bool) → StepsAside old None mid None
    → (b ≡ true → new ≡ record mid { account = after_drained mid.account })
    → (b ≡ false → new ≡ mid) → StepsAside old None new None
drained_step old mid new false s yes' no' =
    subst (λ (x : WorkerState). StepsAside old None x None) (sym (no' refl)) s
drained_step old mid new true s yes' no' =
    subst (λ (x : WorkerState). StepsAside old None x None) (sym (yes' refl))
    (λ told room prepared.
    let t = s told room prepared in
    let k = t.ready.works in
    let after : WorkerState = record mid { account = after_drained mid.account } in
    record {
      ready = record {
        works = record { here = k.here; retry = k.retry; by_work = k.by_work; tied = k.tied };
        prepared = tt;
      };
      goes_on =
          goes_on told told told (work_in old None) (work_in mid None) (work_in after None)
          t.goes_on
          (goes_quiet told told (work_in mid None) (work_in after None) refl refl refl refl refl
          (stays_here mid.account k.here));
    })

-- A worker with no batch in hand has none out.
pub no_hand_out : (state : WorkerState) (hand : Option Hand) → hand ≡ None
    → IsWorkingWith state None → (work_in state hand).account.out ≡ None
no_hand_out state hand is k =
    subst (λ (h : Option Hand). (work_in state h).account.out ≡ None) (sym is)
    (ap (with_outcomes state.outcomes) k.tied.0)

-- ---- a batch is encoded

module _ (told told' : Option (List Handed)) (room room' : ℕ → ℕ) (s : WorkerState)
    (batch : BatchView) (r : IsReady room s (hand_at batch None)) (same : told' ≡ told) where
  abbrev encoded : List ℕ → Sending
  encoded body = record {
    number = batch.number;
    body = body;
    retry = s.origin.retry;
    stage = to_send;
  }

  -- The encoding of a batch is a step, where the exporter has room for all attempts.
  pub encode_step : (sending : Sending) → sending ≡ encoded sending.body
      → IsBodyOf batch.spans sending.body → length sending.body ≤ s.origin.max_body
      → sendings.HasRoom room' sending
      → TakesStep told told' room' s (hand_at batch None) s (hand_at batch (Some sending))
  encode_step sending is means fits place =
      let k = r.works in
      let body = sending.body in
      let has : sendings.HasRoom room' (encoded body) =
      subst (sendings.HasRoom room') is place in
      subst (λ (x : Sending).
      TakesStep told told' room' s (hand_at batch None) s (hand_at batch (Some x)))
      (sym is)
      (record {
        ready = record {
          works = record {
            here = k.here;
            retry = k.retry;
            by_work = k.by_work;
            tied = record {
              out = k.tied.out;
              room = k.tied.room;
              some = k.tied.some;
              few = k.tied.few;
              far = record {
                number = refl;
                retry = refl;
                means = means;
                fits = fits;
                made = ap length k.tied.far;
                counted = tt;
                led = tt;
              };
            };
          };
          prepared =
              subst (λ (o : Option OutBatch).
              s.origin.retry.attempts
              ≤ room' (length body) + length (outcomes_out (with_outcomes s.outcomes o)))
              (sym k.tied.out)
              (omega arith);
        };
        goes_on =
            goes_quiet told told' (work_in s (hand_at batch None))
            (work_in s (hand_at batch (Some (encoded body)))) same refl refl refl refl
            (stays_here s.account k.here);
      })

  abbrev lacking_batch : Reason → EndedBatch
  lacking_batch reason =
      record { number = batch.number; spans = batch.spans; ending = dropped reason }

  -- The drop of a batch without a body is a step.
  pub lack_step : (new : WorkerState) (reason : Reason)
      → LacksBody s.origin.max_body batch.spans reason
      → new ≡ record s { account = after_drop reason s.account }
      → TakesStep told told' room' s (hand_at batch None) new None
  lack_step new reason lacks is =
      let k = r.works in
      let ended : (after_drop reason s.account).ended
      ≡ s.account.ended ++ lacking_batch reason ∷ [] =
      ap (λ (x : Option OutBatch). s.account.ended ++ ended_with (λ _. dropped reason) x)
      k.tied.out in
      let by_work : IsByWork s.origin (lacking_batch reason) =
      record { some = k.tied.some; few = k.tied.few; ending = lacks } in
      subst (λ (x : WorkerState). TakesStep told told' room' s (hand_at batch None) x None)
      (sym is)
      (record {
        ready = record {
          works = record {
            here = k.here;
            retry = k.retry;
            by_work =
                subst (AllByRecursion (IsByWork s.origin)) (sym ended)
                (each_append (IsByWork s.origin) s.account.ended (lacking_batch reason ∷ [])
                k.by_work
                (by_work, tt));
            tied = (refl, k.tied.far);
          };
          prepared = tt;
        };
        goes_on = record {
          origin = refl;
          more = [];
          gains = gains_none told told' same;
          attempts =
              append-nil (before (after_drop reason s.account))
              ∙ ap (flat_map (λ (x : EndedBatch). attempts_by x.number x.ending)) ended
              ∙ flat_map-append (λ (x : EndedBatch). attempts_by x.number x.ending)
              s.account.ended
              (lacking_batch reason ∷ [])
              ∙ sym (attempts_to s (hand_at batch None) (out_with batch None) k.tied.out)
              ∙ sym (append-nil (attempts_of (work_in s (hand_at batch None)).account));
          batches = lacking_batch reason ∷ [];
          ended = ended;
          by_work = (by_work, tt);
          left = refl;
          stays = stays_here s.account k.here;
        };
      })

-- ---- a batch is on its way

begun_before : (body : List ℕ) (stage : Stage) (w : WorkerAccount) → is_sent_at stage ≡ true
    → begun_at body stage w ≡ w
begun_before body to_send w is = cc
begun_before body (to_judge attempt outcome) w is = refl
begun_before body (to_retry attempts moment) w is = refl

begun_ended : (body : List ℕ) (stage : Stage) (w : WorkerAccount)
    → (begun_at body stage w).ended ≡ w.ended
begun_ended body to_send w = refl
begun_ended body (to_judge attempt outcome) w = refl
begun_ended body (to_retry attempts moment) w = refl

begun_left : (body : List ℕ) (stage : Stage) (w : WorkerAccount)
    → (begun_at body stage w).left ≡ w.left
begun_left body to_send w = refl
begun_left body (to_judge attempt outcome) w = refl
begun_left body (to_retry attempts moment) w = refl

-- Another attempt may be made, and is one of those configured.
next_few : (now : ℕ) (stage : Stage) (retry : RetryConfig) → MayBeSentAt now stage
    → 1 ≤ retry.attempts → sendings.IsCountedAt retry stage → attempts_at stage < retry.attempts
next_few now to_send retry may some counted = omega arith
next_few now (to_judge attempt outcome) retry may some counted = absurd may
next_few now (to_retry attempts moment) retry may some counted = counted.1

-- Where another attempt may be made, each outcome led to it.
led_on : (now : ℕ) (stage : Stage) (retry : RetryConfig) (outcomes : List Outcome)
    → MayBeSentAt now stage → length outcomes ≡ attempts_at stage → LeadTo retry stage outcomes
    → EachLeadsOn retry 1 outcomes
led_on now to_send retry outcomes may made led =
    subst (EachLeadsOn retry 1) (sym (nil_from_length _ made)) tt
led_on now (to_judge attempt outcome) retry outcomes may made led = absurd may
led_on now (to_retry attempts moment) retry outcomes may made led = led

module _ (s : WorkerState) (batch : BatchView) (sending : Sending)
    (k : IsWorkingWith s (hand_at batch (Some sending))) where
  begun_out : (begun sending s).account.out ≡ Some (out_with batch (Some sending.body))
  begun_out = by_stage sending.stage k.tied.out
    where
      by_stage : (stage : Stage)
          → s.account.out ≡ Some (out_with batch (handed_at sending.body stage))
          → (begun_at sending.body stage s.account).out
          ≡ Some (out_with batch (Some sending.body))
      by_stage to_send out = ap (handed_with sending.body) out
      by_stage (to_judge attempt outcome) out = out
      by_stage (to_retry attempts moment) out = out

  -- The account has the attempts so far, the first one of which is not handed yet or was.
  attempts_so_far : attempts_of (work_in s (hand_at batch (Some sending))).account
      ≡ before s.account ++ attempts_from batch.number 1 sending.body s.outcomes
  attempts_so_far =
      attempts_to s (hand_at batch (Some sending))
      (out_with batch (handed_at sending.body sending.stage)) k.tied.out
      ∙ ap (λ (l : List Handed). before s.account ++ l)
      (by_stage sending.stage k.tied.far.made)
    where
      by_stage : (stage : Stage) → length s.outcomes ≡ attempts_at stage
          → attempts_with batch.number (handed_at sending.body stage) s.outcomes
          ≡ attempts_from batch.number 1 sending.body s.outcomes
      by_stage to_send made =
          sym (ap (attempts_from batch.number 1 sending.body) (nil_from_length _ made))
      by_stage (to_judge attempt outcome) made = refl
      by_stage (to_retry attempts moment) made = refl

  -- The exporter has room for the attempts that are left.
  pub room_for : (room : ℕ → ℕ) → sendings.HasRoom room sending
      → IsPrepared room (work_in s (hand_at batch (Some sending)))
  room_for room has =
      let same = ap (λ (c : RetryConfig). c.attempts) k.tied.far.retry in
      let made = k.tied.far.made in
      subst (λ (o : Option OutBatch).
      s.origin.retry.attempts
      ≤ room (length sending.body) + length (outcomes_out (with_outcomes s.outcomes o)))
      (sym k.tied.out)
      (omega arith)

  -- The exporter that is prepared has room for the attempts of the batch.
  pub has_room : (room : ℕ → ℕ) → IsPrepared room (work_in s (hand_at batch (Some sending)))
      → sendings.HasRoom room sending
  has_room room prepared =
      let same = ap (λ (c : RetryConfig). c.attempts) k.tied.far.retry in
      let made = k.tied.far.made in
      let has : s.origin.retry.attempts ≤ room (length sending.body) + length s.outcomes =
      subst (λ (o : Option OutBatch).
      s.origin.retry.attempts
      ≤ room (length sending.body) + length (outcomes_out (with_outcomes s.outcomes o)))
      k.tied.out prepared in
      omega arith

  -- An attempt, whose outcome is to be judged, is a step.
  pub sent_step : (told told' : Option (List Handed)) (room : ℕ → ℕ) (now attempt : ℕ)
      (o : Outcome) (sending' : Sending) (new : WorkerState)
      → MayBeSentAt now sending.stage → attempt ≡ attempts_at sending.stage + 1
      → Gains (handing sending.number attempt sending.body o) told told'
      → sending' ≡ record sending { stage = to_judge attempt o } → sendings.HasRoom room sending'
      → new ≡ record (begun sending s) { outcomes = s.outcomes ++ o ∷ [] }
      → TakesStep told told' room s (hand_at batch (Some sending)) new
      (hand_at batch (Some sending'))
  sent_step told told' room now attempt o sending' new may next gains is place now_is =
      let far = k.tied.far in
      let mid : WorkerState = record (begun sending s) { outcomes = s.outcomes ++ o ∷ [] } in
      let next_sending : Sending = record sending { stage = to_judge attempt o } in
      let few = next_few now sending.stage s.origin.retry may k.retry.some far.counted in
      let long = length-append s.outcomes (o ∷ []) in
      let made = far.made in
      let same = ap (λ (c : RetryConfig). c.attempts) far.retry in
      let has : sendings.HasRoom room next_sending = subst (sendings.HasRoom room) is place in
      let count : attempt ≡ 1 + length s.outcomes = omega arith in
      let given : Gains (handing batch.number (1 + length s.outcomes) sending.body o) told told' =
      subst (λ (n : ℕ).
      Gains (handing n (1 + length s.outcomes) sending.body o) told told')
      far.number
      (subst (λ (n : ℕ). Gains (handing sending.number n sending.body o) told told') count
      gains) in
      subst (λ (x : WorkerState).
      TakesStep told told' room s (hand_at batch (Some sending)) x (hand_at batch (Some sending')))
      (sym now_is)
      (subst (λ (x : Sending).
      TakesStep told told' room s (hand_at batch (Some sending)) mid (hand_at batch (Some x)))
      (sym is)
      (record {
        ready = record {
          works = record {
            here = begun_left sending.body sending.stage s.account ∙ k.here;
            retry = k.retry;
            by_work =
                subst (AllByRecursion (IsByWork s.origin))
                (sym (begun_ended sending.body sending.stage s.account)) k.by_work;
            tied = record {
              out = begun_out;
              room = k.tied.room;
              some = k.tied.some;
              few = k.tied.few;
              far = record {
                number = far.number;
                retry = far.retry;
                means = far.means;
                fits = far.fits;
                made = (let e : length (s.outcomes ++ o ∷ []) ≡ attempt = omega arith in e);
                counted = (omega arith, omega arith);
                led = (
                  s.outcomes,
                  refl,
                  led_on now sending.stage s.origin.retry s.outcomes may made far.led,
                );
              };
            };
          };
          prepared =
              subst (λ (x : Option OutBatch).
              s.origin.retry.attempts
              ≤ room (length sending.body)
              + length (outcomes_out (with_outcomes (s.outcomes ++ o ∷ []) x)))
              (sym begun_out)
              (omega arith);
        };
        goes_on = record {
          origin = refl;
          more = handing batch.number (1 + length s.outcomes) sending.body o;
          gains = given;
          attempts =
              attempts_to mid (hand_at batch (Some next_sending))
              (out_with batch (Some sending.body)) begun_out
              ∙ ap (λ (es : List EndedBatch).
              flat_map (λ (b : EndedBatch). attempts_by b.number b.ending) es
              ++ attempts_from batch.number 1 sending.body (s.outcomes ++ o ∷ []))
              (begun_ended sending.body sending.stage s.account)
              ∙ ap (λ (l : List Handed). before s.account ++ l)
              (attempts-more batch.number 1 sending.body s.outcomes o)
              ∙ sym (append_assoc (before s.account)
              (attempts_from batch.number 1 sending.body s.outcomes)
              (handing batch.number (1 + length s.outcomes) sending.body o))
              ∙ ap (λ (l : List Handed).
              l ++ handing batch.number (1 + length s.outcomes) sending.body o)
              (sym attempts_so_far);
          batches = [];
          ended =
              begun_ended sending.body sending.stage s.account
              ∙ sym (append-nil s.account.ended);
          by_work = tt;
          left = begun_left sending.body sending.stage s.account;
          stays = stays_here s.account k.here;
        };
      }))

  -- A turn in which nothing is sent goes on with the batch as it was, as the step after it does.
  pub aside_of : (told told' : Option (List Handed)) (room : ℕ → ℕ) (sending' : Sending)
      (mid new : WorkerState) (hand : Option Hand)
      → is_sent_at sending.stage ≡ true → told' ≡ told → sending' ≡ sending
      → sendings.HasRoom room sending' → mid ≡ begun sending s
      → (IsWorkingWith mid (hand_at batch (Some sending'))
      → StepsAside mid (hand_at batch (Some sending')) new hand)
      → TakesStep told told' room s (hand_at batch (Some sending)) new hand
  aside_of told told' room sending' mid new hand is same as_was place now_is step =
      let state_was : mid ≡ s =
      now_is
      ∙ ap (λ (w : WorkerAccount). record s { account = w })
      (begun_before sending.body sending.stage s.account is) in
      let kept : IsWorkingWith mid (hand_at batch (Some sending')) =
      subst (λ (x : WorkerState). IsWorkingWith x (hand_at batch (Some sending'))) (sym state_was)
      (subst (λ (x : Sending). IsWorkingWith s (hand_at batch (Some x))) (sym as_was) k) in
      let aside : StepsAside s (hand_at batch (Some sending)) new hand =
      subst (λ (x : Sending). StepsAside s (hand_at batch (Some x)) new hand) as_was
      (subst (λ (x : WorkerState). StepsAside x (hand_at batch (Some sending')) new hand)
      state_was
      (step kept)) in
      subst (λ (t : Option (List Handed)).
      TakesStep told t room s (hand_at batch (Some sending)) new hand)
      (sym same)
      (aside told room (room_for room (subst (sendings.HasRoom room) as_was place)))

  -- The batch stays in hand as it was, and no outcome is to be judged.
  pub kept_step : (sending' : Sending) → sending' ≡ sending
      → StepsAside s (hand_at batch (Some sending)) s (hand_at batch (Some sending'))
  kept_step sending' is =
      subst (λ (x : Sending).
      StepsAside s (hand_at batch (Some sending)) s (hand_at batch (Some x)))
      (sym is)
      (no_step s s (hand_at batch (Some sending)) k refl)

-- ---- an outcome is judged

module _ (s : WorkerState) (batch : BatchView) (sending : Sending) (attempt : ℕ) (o : Outcome)
    (now word : ℕ) (was : sending.stage ≡ to_judge attempt o)
    (given : IsWorkingWith s (hand_at batch (Some sending))) where
  abbrev judged_sending : Sending
  judged_sending = record sending { stage = to_judge attempt o }

  same_sending : sending ≡ judged_sending
  same_sending = ap (λ (x : Stage). record sending { stage = x }) was

  works : IsWorkingWith s (hand_at batch (Some judged_sending))
  works =
      subst (λ (x : Sending). IsWorkingWith s (hand_at batch (Some x))) same_sending given

  count : attempt ≡ 1 + length works.tied.far.led.0
  count =
      let made = works.tied.far.made in
      let are = ap length works.tied.far.led.1 in
      let long = length-append works.tied.far.led.0 (o ∷ []) in omega arith

  -- The verdict that a batch is to be sent again is a step that leaves the exporter alone.
  pub again_step : (sending' : Sending) (moment : ℕ)
      → next_after sending.retry attempt o now word ≡ again moment
      → sending' ≡ record sending { stage = to_retry attempt moment }
      → StepsAside s (hand_at batch (Some sending)) s (hand_at batch (Some sending'))
  again_step sending' moment decided is =
      let k = works in
      let far = k.tied.far in
      let next : next_after s.origin.retry attempt o now word ≡ again moment =
      sym (ap (λ (c : RetryConfig). next_after c attempt o now word) far.retry) ∙ decided in
      let later : Sending = record sending { stage = to_retry attempt moment } in
      let led : EachLeadsOn s.origin.retry 1 s.outcomes =
      subst (EachLeadsOn s.origin.retry 1) (sym far.led.1)
      (leads-more s.origin.retry 1 far.led.0 o far.led.2
      (subst (λ (n : ℕ). LeadsTo s.origin.retry n o None) count
      (λ now' word'.
      same_lead s.origin.retry attempt o now' word' now word ∙ ap fate_of next))) in
      let after : IsWorkingWith s (hand_at batch (Some later)) =
      record {
        here = k.here;
        retry = k.retry;
        by_work = k.by_work;
        tied = record {
          out = k.tied.out;
          room = k.tied.room;
          some = k.tied.some;
          few = k.tied.few;
          far = record {
            number = far.number;
            retry = far.retry;
            means = far.means;
            fits = far.fits;
            made = far.made;
            counted = (
              far.counted.0,
              again-few s.origin.retry attempt o now word moment next,
            );
            led = led;
          };
        };
      } in
      subst (λ (x : Sending).
      StepsAside s (hand_at batch (Some x)) s (hand_at batch (Some sending')))
      (sym same_sending)
      (subst (λ (x : Sending).
      StepsAside s (hand_at batch (Some judged_sending)) s (hand_at batch (Some x)))
      (sym is)
      (λ told room prepared. record {
        ready = record {
          works = after;
          prepared =
              room_for s batch later after room (has_room s batch judged_sending k room prepared);
        };
        goes_on =
            goes_quiet told told (work_in s (hand_at batch (Some judged_sending)))
            (work_in s (hand_at batch (Some later))) refl refl refl refl refl
            (stays_here s.account k.here);
      }))

  module _ (fate : Fate)
      (ends : fate_of (next_after sending.retry attempt o now word) ≡ Some fate) where
    abbrev ended_batch : EndedBatch
    ended_batch = record {
      number = batch.number;
      spans = batch.spans;
      ending = settled sending.body s.outcomes fate;
    }

    ended_is : (after_settle s.outcomes fate s.account).ended ≡ s.account.ended ++ ended_batch ∷ []
    ended_is =
        ap (λ (x : Option OutBatch).
        s.account.ended ++ ended_with (λ b. settled_with s.outcomes fate b.body) x)
        works.tied.out

    batch_by_work : IsByWork s.origin ended_batch
    batch_by_work =
        let far = works.tied.far in
        record {
          some = works.tied.some;
          few = works.tied.few;
          ending = record {
            sent = record {
              means = far.means;
              fits = far.fits;
              earlier = far.led.0;
              last = o;
              are = far.led.1;
              few = (let made = far.made in let most = far.counted.1 in omega arith);
              again = far.led.2;
            };
            by_last = λ now' word'.
                ap (λ (n : ℕ). fate_of (next_after s.origin.retry n o now' word')) far.made
                ∙ same_lead s.origin.retry attempt o now' word' now word
                ∙ sym (ap (λ (c : RetryConfig). fate_of (next_after c attempt o now word))
                far.retry)
                ∙ ends;
          };
        }

    -- The settling of a batch is a step that leaves the exporter alone.
    pub settle_step : (new : WorkerState)
        → new ≡ record s { account = after_settle s.outcomes fate s.account; outcomes = [] }
        → StepsAside s (hand_at batch (Some sending)) new None
    settle_step new is =
        let k = works in
        let after : WorkerState =
        record s { account = after_settle s.outcomes fate s.account; outcomes = [] } in
        subst (λ (x : Sending). StepsAside s (hand_at batch (Some x)) new None) (sym same_sending)
        (subst (λ (x : WorkerState). StepsAside s (hand_at batch (Some judged_sending)) x None)
        (sym is)
        (λ told room prepared. record {
          ready = record {
            works = record {
              here = k.here;
              retry = k.retry;
              by_work =
                  subst (AllByRecursion (IsByWork s.origin)) (sym ended_is)
                  (each_append (IsByWork s.origin) s.account.ended (ended_batch ∷ []) k.by_work
                  (batch_by_work, tt));
              tied = (refl, refl);
            };
            prepared = tt;
          };
          goes_on = record {
            origin = refl;
            more = [];
            gains = gains_none told told refl;
            attempts =
                append-nil (before (after_settle s.outcomes fate s.account))
                ∙ ap (flat_map (λ (x : EndedBatch). attempts_by x.number x.ending)) ended_is
                ∙ flat_map-append (λ (x : EndedBatch). attempts_by x.number x.ending)
                s.account.ended
                (ended_batch ∷ [])
                ∙ ap (λ (l : List Handed). before s.account ++ l)
                (append-nil (attempts_from batch.number 1 sending.body s.outcomes))
                ∙ sym (attempts_to s (hand_at batch (Some judged_sending))
                (out_with batch (Some sending.body)) k.tied.out)
                ∙ sym (append-nil
                (attempts_of (work_in s (hand_at batch (Some judged_sending))).account));
            batches = ended_batch ∷ [];
            ended = ended_is;
            by_work = (batch_by_work, tt);
            left = refl;
            stays = stays_here s.account k.here;
          };
        }))

-- ---- the batch that is out

leads-first : (retry : RetryConfig) (attempt : ℕ) (outcomes more : List Outcome)
    → EachLeadsOn retry attempt (outcomes ++ more) → EachLeadsOn retry attempt outcomes
leads-first retry attempt [] more all = tt
leads-first retry attempt (o ∷ outcomes) more all =
    (all.0, leads-first retry (attempt + 1) outcomes more all.1)

-- A list that isn't empty has a last element.
last_of : (o : Outcome) (outcomes : List Outcome)
    → (earlier : List Outcome) × (last : Outcome) × (o ∷ outcomes ≡ earlier ++ last ∷ [])
last_of o [] = ([], o, refl)
last_of o (p ∷ outcomes) =
    let rest = last_of p outcomes in (o ∷ rest.0, rest.1, ap (λ (l : List Outcome). o ∷ l) rest.2)

-- What was sent of a batch, after some outcomes that each led to another attempt.
sent_all : (origin : Origin) (spans : List SpanData) (body : List ℕ) (outcomes : List Outcome)
    → IsBodyOf spans body → length body ≤ origin.max_body → 1 ≤ length outcomes
    → length outcomes ≤ origin.retry.attempts → EachLeadsOn origin.retry 1 outcomes
    → IsSent origin spans body outcomes
sent_all origin spans body [] means fits some few leads = absurd (omega arith)
sent_all origin spans body (o ∷ outcomes) means fits some few leads =
    let parts = last_of o outcomes in record {
      means = means;
      fits = fits;
      earlier = parts.0;
      last = parts.1;
      are = parts.2;
      few = few;
      again =
          leads-first origin.retry 1 parts.0 (parts.1 ∷ [])
          (subst (EachLeadsOn origin.retry 1) parts.2 leads);
    }

out_at : (s : WorkerState) (batch : BatchView) (sending : Option Sending)
    → IsAsFar s.origin batch s.outcomes sending
    → IsSentSoFar s.origin batch.spans (handed_in sending) s.outcomes
out_at s batch None far = far
out_at s batch (Some sending) far =
    by_stage sending.stage far.made far.counted far.led
  where
    by_stage : (stage : Stage) → length s.outcomes ≡ attempts_at stage
        → sendings.IsCountedAt s.origin.retry stage → LeadTo s.origin.retry stage s.outcomes
        → IsSentSoFar s.origin batch.spans (handed_at sending.body stage) s.outcomes
    by_stage to_send made counted led = nil_from_length _ made
    by_stage (to_judge attempt o) made counted led = record {
      means = far.means;
      fits = far.fits;
      earlier = led.0;
      last = o;
      are = led.1;
      few = (let most = counted.1 in omega arith);
      again = led.2;
    }
    by_stage (to_retry attempts moment) made counted led =
        sent_all s.origin batch.spans sending.body s.outcomes far.means far.fits
        (let least = counted.0 in omega arith)
        (let most = counted.1 in omega arith) led

-- The batch that is out, if there is one, has come as far as it is by work.
pub out_by_work : (s : WorkerState) (hand : Option Hand) → IsWorkingWith s hand
    → IfSome (work_in s hand).account.out (IsOutByWork s.origin)
out_by_work s None k =
    subst (λ (o : Option OutBatch). IfSome (with_outcomes s.outcomes o) (IsOutByWork s.origin))
    (sym k.tied.0) tt
out_by_work s (Some hand) k =
    subst (λ (o : Option OutBatch). IfSome (with_outcomes s.outcomes o) (IsOutByWork s.origin))
    (sym k.tied.out)
    (record {
      some = k.tied.some;
      few = k.tied.few;
      sent = out_at s hand.batch hand.sending k.tied.far;
    })

-- ---- whether it has left

-- A worker that works is a pass whose worker hasn't left.
pub pass_works : (left : Bool) (state : WorkerState) (hand : Option Hand) → left ≡ false
    → IsWorkingWith state hand → IsPassWith left state hand
pass_works left state hand here k = record {
  left_is = k.here ∙ sym here;
  works = λ _. k;
  has_left = λ is. absurd (let e : true ≡ false = sym is ∙ here in cc);
}

-- A worker that has left, with no batch in hand, is a pass whose worker has left.
pub pass_left : (state : WorkerState) (hand : Option Hand) → state.account.left ≡ true
    → HasLeft state hand → IsPassWith true state hand
pass_left state hand is h = record { left_is = is; works = λ e. cc; has_left = λ _. h }

-- All batches of a worker ended by work once the batch that is out is abandoned.
pub pass_end : (left : Bool) (state : WorkerState) (hand : Option Hand) → IsPassWith left state hand
    → EndByWork state.origin (abandon (work_in state hand).account)
pass_end true state hand k =
    let e = (k.has_left refl).batches in
    record {
      earlier = e.earlier;
      last = e.last;
      ended =
          ap (λ (o : Option OutBatch). state.account.ended
          ++ abandon_out (with_outcomes state.outcomes o))
          e.none_out
          ∙ append-nil state.account.ended ∙ e.ended;
      by_work = e.by_work;
      out = e.out;
      none_out = refl;
    }
pass_end false state hand k = record {
  earlier = state.account.ended;
  last = (work_in state hand).account.out;
  ended = refl;
  by_work = (k.works refl).by_work;
  out = out_by_work state hand (k.works refl);
  none_out = refl;
}

-- All batches of a worker ended by work until it leaves, and then none is out.
pub pass_until_left : (left : Bool) (state : WorkerState) (hand : Option Hand)
    → IsPassWith left state hand → WorksUntilItLeaves state.origin (work_in state hand).account
pass_until_left true state hand k = record {
  by_work = λ here. absurd (let e : true ≡ false = sym k.left_is ∙ here in cc);
  none_out =
      λ gone. ap (with_outcomes state.outcomes) (k.has_left refl).batches.none_out;
}
pass_until_left false state hand k = record {
  by_work = λ here. (k.works refl).by_work;
  none_out = λ gone. absurd (let e : true ≡ false = sym gone ∙ k.left_is in cc);
}

-- A worker with a batch in hand abandons it as it leaves, and has none in hand then.
pub leaves_with : (state : WorkerState) (hand : Hand) → IsWorkingWith state (Some hand)
    → IsPassWith true
    (record state {
      account = after_left (abandon (work_in state (Some hand)).account);
      outcomes = [];
    })
    None
leaves_with state hand k =
    pass_left (record state {
      account = after_left (abandon (work_in state (Some hand)).account);
      outcomes = [];
    })
    None refl
    (record {
      none = refl;
      outcomes = refl;
      batches = record {
        earlier = state.account.ended;
        last = (work_in state (Some hand)).account.out;
        ended = refl;
        by_work = k.by_work;
        out = out_by_work state (Some hand) k;
        none_out = refl;
      };
    })

-- ---- changes of the worker's account

-- The worker's part of the worker's account changes by the recorded function.
pub told_worker : (f : WorkerAccount → WorkerAccount) (origin : Origin) (a a' : AnyAccount)
    → a' ≡ on_worker f a → a ≡ worker origin (worker_in a) → worker_in a' ≡ f (worker_in a)
told_worker f origin a a' told is = ap worker_in (told ∙ ap (on_worker f) is)

-- The worker's account is still the worker's, of the same processor, after a change.
pub told_account : (f : WorkerAccount → WorkerAccount) (origin : Origin) (a a' : AnyAccount)
    → a' ≡ on_worker f a → a ≡ worker origin (worker_in a) → a' ≡ worker origin (worker_in a')
told_account f origin a a' told is =
    told ∙ ap (on_worker f) is ∙ ap (worker origin) (sym (told_worker f origin a a' told is))

abbrev pub state_of : Origin → WorkerAccount → List Outcome → WorkerState
state_of origin w os = record { origin = origin; account = w; outcomes = os }

module _ (origin : Origin) (a : AnyAccount) (os : List Outcome) (old : WorkerState)
    (is : a ≡ worker origin (worker_in a)) (view : state_of origin (worker_in a) os ≡ old) where
  -- A change of the worker's account leaves the rest of the worker's state as it was.
  pub told_state : (a' : AnyAccount) (f : WorkerAccount → WorkerAccount) → a' ≡ on_worker f a
      → state_of origin (worker_in a') os ≡ record old { account = f old.account }
  told_state a' f told =
      ap (λ (w : WorkerAccount). state_of origin w os) (told_worker f origin a a' told is)
      ∙ ap (λ (s : WorkerState). record s { account = f s.account }) view

  -- The same of a batch that was settled, whose outcomes are gone then.
  pub told_settled : (a' : AnyAccount) (os' : List Outcome) (fate : Fate) → os' ≡ []
      → a' ≡ on_worker (after_settle os fate) a
      → state_of origin (worker_in a') os'
      ≡ record old { account = after_settle old.outcomes fate old.account; outcomes = [] }
  told_settled a' os' fate none told =
      ap (λ (w : WorkerAccount). state_of origin w os')
      (told_worker (after_settle os fate) origin a a' told is)
      ∙ ap (state_of origin (after_settle os fate (worker_in a))) none
      ∙ ap (λ (s : WorkerState).
      record s { account = after_settle s.outcomes fate s.account; outcomes = [] })
      view

  -- An unchanged account leaves the worker's state as it was.
  pub same_state : (a' : AnyAccount) → a' ≡ a → state_of origin (worker_in a') os ≡ old
  same_state a' same = ap (λ (h : AnyAccount). state_of origin (worker_in h) os) same ∙ view

-- ---- turns

-- A take that the worker's account records is a step that leaves the exporter alone.
pub take_told : (origin : Origin) (a a' : AnyAccount) (os : List Outcome) (old : WorkerState)
    (batch : BatchView)
    → IsWorkingWith old None → a ≡ worker origin (worker_in a)
    → state_of origin (worker_in a) os ≡ old
    → TakesBatch a (Some batch) a'
    → StepsAside old None (state_of origin (worker_in a') os) (hand_at batch None)
take_told origin a a' os old batch k is view taken =
    let told = taken.some in
    let of = taken.batch in
    let size = taken.size in
    let f = after_take batch.number batch.spans in
    let at : origin_in a ≡ old.origin = ap origin_in is ∙ ap (λ (s : WorkerState). s.origin) view in
    let at' : origin_in a' ≡ old.origin =
    ap origin_in (told_account f origin a a' told is) ∙ ap (λ (s : WorkerState). s.origin) view in
    take_step old (state_of origin (worker_in a') os) batch k
    (of.room ∙ ap (λ (o : Origin). o.desk.batch) at')
    (subst (λ (o : Origin). IsBatchSize o batch.spans) at size)
    (told_state origin a os old is view a' f told)

-- A turn that takes a step goes on as the contract says.
pub turn_goes : (told told' : Option (List Handed)) (room : ℕ → ℕ) (old new : WorkerState)
    (h h0 h1 h2 : Option Hand) (work : Work)
    → work_in old h ≡ work → h ≡ h0 → h2 ≡ h1 → TakesStep told told' room old h0 new h1
    → GoesOn told told' work (work_in new h2)
turn_goes told told' room old new h h0 h1 h2 work view was is step =
    subst (λ (x : Work). GoesOn told told' x (work_in new h2)) view
    (subst (λ (x : Option Hand). GoesOn told told' (work_in old x) (work_in new h2)) (sym was)
    (subst (λ (x : Option Hand). GoesOn told told' (work_in old h0) (work_in new x))
    (sym is) step.goes_on))

-- A worker is ready for another step after a turn.
pub turn_ready : (told told' : Option (List Handed)) (room : ℕ → ℕ) (old new : WorkerState)
    (h0 h1 h2 : Option Hand)
    → h2 ≡ h1 → TakesStep told told' room old h0 new h1 → IsReady room new h2
turn_ready told told' room old new h0 h1 h2 is step = subst (IsReady room new) (sym is) step.ready

-- ---- a step that leaves the exporter alone, whatever that is

always_room : (work : Work) → IsPrepared (λ _. work.origin.retry.attempts) work
always_room work = by_body work.encoded
  where
    by_body : (encoded : Option (List ℕ))
        → HasRoom work.origin.retry (λ _. work.origin.retry.attempts) encoded
        (outcomes_out work.account.out)
    by_body None = tt
    by_body (Some body) = omega arith

-- A step that leaves the exporter alone is one for an exporter with room for all attempts.
pub aside_step : (old new : WorkerState) (h h' : Option Hand) → StepsAside old h new h'
    → (told : Option (List Handed))
    → TakesStep told told (λ _. old.origin.retry.attempts) old h new h'
aside_step old new h h' step told =
    step told (λ _. old.origin.retry.attempts) (always_room (work_in old h))

-- ---- where no outcome is to be judged, each led to another attempt

abbrev EachOutLeadsOn : WorkerState → Option OutBatch → Type 0
EachOutLeadsOn state out =
    IfSome out (λ (b : OutBatch). EachLeadsOn state.origin.retry 1 b.outcomes)

judged_by : (state : WorkerState) (out : Option OutBatch)
    → EachLeadsOn state.origin.retry 1 state.outcomes
    → EachOutLeadsOn state (with_outcomes state.outcomes out)
judged_by state None each = tt
judged_by state (Some b) each = each

judged_at : (state : WorkerState) (hand : Option Hand) → IsWorkingWith state hand
    → in_hand false is_pending_in hand ≡ false → EachLeadsOn state.origin.retry 1 state.outcomes
judged_at state None k none =
    subst (EachLeadsOn state.origin.retry 1) (sym k.tied.1) tt
judged_at state (Some hand) k none = by_sending hand.sending k.tied.far none
  where
    by_stage : (stage : Stage) → length state.outcomes ≡ attempts_at stage
        → LeadTo state.origin.retry stage state.outcomes → is_pending_at stage ≡ false
        → EachLeadsOn state.origin.retry 1 state.outcomes
    by_stage to_send made led is =
        subst (EachLeadsOn state.origin.retry 1) (sym (nil_from_length _ made)) tt
    by_stage (to_judge attempt outcome) made led is = cc
    by_stage (to_retry attempts moment) made led is = led

    by_sending : (sending : Option Sending)
        → IsAsFar state.origin hand.batch state.outcomes sending
        → is_pending_in sending ≡ false → EachLeadsOn state.origin.retry 1 state.outcomes
    by_sending None far is = subst (EachLeadsOn state.origin.retry 1) (sym far) tt
    by_sending (Some sending) far is = by_stage sending.stage far.made far.led is

-- Each outcome of the batch that is out led to another attempt, where none is to be judged.
pub pass_judged : (left : Bool) (state : WorkerState) (hand : Option Hand)
    → IsPassWith left state hand → in_hand false is_pending_in hand ≡ false
    → EachOutLeadsOn state (work_in state hand).account.out
pass_judged false state hand p none =
    judged_by state state.account.out (judged_at state hand (p.works refl) none)
pass_judged true state hand p none =
    subst (λ (o : Option OutBatch). EachOutLeadsOn state (with_outcomes state.outcomes o))
    (sym (p.has_left refl).batches.none_out) tt

-- ---- a pass with a batch in hand hasn't left

-- A worker with a batch in hand hasn't left.
pub pass_working : (left : Bool) (state : WorkerState) (hand : Hand)
    → IsPassWith left state (Some hand) → IsWorkingWith state (Some hand)
pass_working false state hand p = p.works refl
pass_working true state hand p = absurd (let none : Some hand ≡ None = (p.has_left refl).none in cc)

-- A pass with a batch in hand still works after a step that leaves the exporter alone.
pub aside_pass : (left : Bool) (old new : WorkerState) (hand : Hand) (h h' : Option Hand)
    → IsPassWith left old (Some hand) → StepsAside old (Some hand) new h → h' ≡ h
    → IsPassWith left new h'
aside_pass left old new hand h h' p step is =
    let k = pass_working left old hand p in
    let ready =
    turn_ready None None (λ _. old.origin.retry.attempts) old new (Some hand) h h' is
    (aside_step old new (Some hand) h step None) in
    pass_works left new h' (sym p.left_is ∙ k.here) ready.works

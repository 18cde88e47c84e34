-- What the calls of the desk do to what the lock keeps.
use Rattle.std.proofs.Common.{◌≡◌, ℕ, zero, suc, ◌+◌, ◌^◌, ◌<◌, ◌≤◌, Bool, true, false, List, []}
use Rattle.std.proofs.Common.{◌∷◌, ◌++◌, length, take, drop, min, sym, refl, ap, ◌∙◌, subst, arith}
use Rattle.std.specs.Prelude.{Contains, IsPermutation, Option, Some, None, Ok, Err, ◌==◌, ◌*◌, ◌&&◌}
use Rattle.std.specs.Prelude.{◌||◌, nat_le, nat_lt, is_some, if◌then◌else◌, map, reverse, slice_get}
use Rattle.std.specs.Prelude.{option_map}
use Rattle.std.proofs.lemmas.Bool.{eqb-true, ltb-true}
use Rattle.std.proofs.lemmas.List.{length-map, length-take}
use Rattle.std.proofs.lemmas.List.Sorted.{IsPermutation-append_comm, IsPermutation-reverse}
use Rattle.account_book.specs.Accounts.{Replaces}
use Rattle.account_book.proofs.Facts.{contains_replaced}
use Rattle.model_span.specs.Spans.{SpanData, with_ticket}
use Rattle.model_span.specs.Dropped.{Entry, Reason, queue_full, entry_of}
use Rattle.model_desk.specs.Retries.{Fate}
use Rattle.model_desk.specs.Queue.{loss_reason, lost_names, named_as}
use Rattle.model_desk.specs.Desks.{Desk, DeskConfig, OutBatch, accepted_count, after_settled}
use Rattle.model_desk.specs.Desks.{is_due, is_flushed, is_loss, out_size, with_drops}
use Rattle.batch_desk.specs.Batch.{BatchView, NamedView, SettledView}
use Rattle.batch_desk.specs.Desk.{CanSettle, IsNamedOut, IsOut, admission, after_admission}
use Rattle.batch_desk.specs.Desk.{after_drop, after_loss, after_names, after_take, next_batch}
use Rattle.batch_desk.specs.Desk.{out_state}
use Rattle.batch_desk.specs.declared.admitted.Admitted.{Admitted}
use Rattle.batch_desk.specs.declared.admitted.Admitted.TheVariants as admitted
use Rattle.model_processor.specs.Passes.{PassAccount}
use Rattle.model_processor.specs.Worker.{WorkerAccount}
use Rattle.model_processor.specs.WorkerClauses.{Origin}
use Rattle.model_processor.specs.AnyAccounts as holders
use Rattle.model_processor.specs.AnyAccounts.{AnyAccount, account_in}
use Rattle.model_processor.specs.AnyAccounts.{on_pass, on_worker, origin_in, pass, pass_accounts}
use Rattle.model_processor.specs.AnyAccounts.{worker, worker_in}
use Rattle.model_processor.specs.Kept.{Agrees, IsShared, Kept, shown_out}
use Rattle.model_processor.proofs.AccountState.{agrees_there, origin_there}
use Rattle.model_processor.proofs.Passes.{full_agrees, late_agrees, queued_agrees}
use Rattle.model_processor.proofs.Workers.{take_agrees}
use Rattle.batch_processor.specs.Holds.{Asks, Guarded, InHold, IsBatchOf, IsBatchSize}
use Rattle.batch_processor.specs.Holds.{IsNamedBatchOf, IsSettledBatchOf, IsTold, after_ask}
use Rattle.batch_processor.specs.declared.fault.WorkerLeft.{WorkerLeft}
use Rattle.batch_processor.specs.declared.pass.Flushed.{Flushed}
use Rattle.processor_account.specs.Views.{after_end}
use Rattle.batch_processor.specs.Views.{ended_of}

-- ---- a span ends

abbrev answer_by : Bool → Bool → ℕ → Admitted
answer_by closed whole next =
    if closed then admitted.Late else if whole then admitted.Full next else admitted.Queued next

queued_where : (closed whole : Bool) (next ticket : ℕ)
    → admitted.Queued ticket ≡ answer_by closed whole next → (closed ≡ false) × (ticket ≡ next)
queued_where true whole next ticket is = cc
queued_where false true next ticket is = cc
queued_where false false next ticket is = (refl, (cc))

full_where : (closed whole : Bool) (next ticket : ℕ)
    → admitted.Full ticket ≡ answer_by closed whole next
    → (closed ≡ false) × (whole ≡ true) × (ticket ≡ next)
full_where true whole next ticket is = cc
full_where false true next ticket is = (refl, refl, (cc))
full_where false false next ticket is = cc

late_where : (closed whole : Bool) (next : ℕ) → admitted.Late ≡ answer_by closed whole next
    → closed ≡ true
late_where true whole next is = refl
late_where false true next is = cc
late_where false false next is = cc

module _ (desk desk' : Desk) (w : WorkerAccount) (old new : List PassAccount) (a : PassAccount)
    (span : SpanData) (k : Agrees desk old w) where
  -- The desk agrees with the accounts again once an ended span is admitted, dropped or late.
  pub admit_agrees : (answer : Admitted) → answer ≡ admission desk
      → desk' ≡ after_admission answer span desk
      → Replaces old a (after_end (ended_of answer) span a) new
      → Agrees desk' new w
  admit_agrees (admitted.Queued ticket) is came r =
      let at =
      queued_where desk.closed
      (length desk.waiting == desk.config.queue) desk.next_ticket ticket is in
      queued_agrees desk w old new a
      (after_end (ended_of (admitted.Queued ticket)) span a) r k desk'
      (with_ticket ticket span) at.0 at.1 came refl
  admit_agrees (admitted.Full ticket) is came r =
      let at =
      full_where desk.closed
      (length desk.waiting == desk.config.queue) desk.next_ticket ticket is in
      full_agrees desk w old new a (after_end (ended_of (admitted.Full ticket)) span a) r k desk'
      (record { span = with_ticket ticket span; reason = queue_full; floor = a.floor })
      (with_ticket ticket span) refl at.0
      (eqb-true (length desk.waiting) desk.config.queue at.1) at.2 refl came refl
  admit_agrees admitted.Late is came r =
      let at =
      late_where desk.closed (length desk.waiting == desk.config.queue) desk.next_ticket is in
      late_agrees desk w old new a
      (after_end (ended_of admitted.Late) span a) r k desk' at came refl

-- The end of a span leaves the desk's settings as they are.
pub admit_config : (desk desk' : Desk) (answer : Admitted) (span : SpanData)
    → desk' ≡ after_admission answer span desk → desk'.config ≡ desk.config
admit_config desk desk' (admitted.Queued ticket) span is = ap (λ (d : Desk). d.config) is
admit_config desk desk' (admitted.Full ticket) span is = ap (λ (d : Desk). d.config) is
admit_config desk desk' admitted.Late span is = ap (λ (d : Desk). d.config) is

-- ---- a batch is taken

both-first : (a b : Bool) → (a && b) ≡ true → a ≡ true
both-first true b is = refl
both-first false b is = cc

some-wait : (desk : Desk) (now : ℕ) → is_due desk now ≡ true → 0 < length desk.waiting
some-wait desk now due =
    ltb-true 0 (length desk.waiting)
    (both-first (nat_lt 0 (length desk.waiting))
    (nat_le desk.config.batch (length desk.waiting) || nat_lt desk.taken desk.asked || desk.closed
    || nat_le (desk.last_moment + desk.config.delay_ms * 10 ^ 6) now)
    due)

-- A batch is due where the test that it is due, and that another condition holds, is true.
pub due_where : (desk : Desk) (now : ℕ) (free : Bool) → true ≡ (is_due desk now && free)
    → is_due desk now ≡ true
due_where desk now free is = both-first (is_due desk now) free (sym is)

-- A batch that is due has at least one span, and at most as many as a batch may have.
pub batch_size : (desk : Desk) (now : ℕ) (origin : Origin) (spans : List SpanData)
    → is_due desk now ≡ true → desk.config ≡ origin.desk → 1 ≤ origin.desk.batch
    → spans ≡ take desk.config.batch desk.waiting → IsBatchSize origin spans
batch_size desk now origin spans due config sizes is =
    let wait = some-wait desk now due in let b = ap (λ (x : DeskConfig). x.batch) config in
    let l : length spans ≡ min desk.config.batch (length desk.waiting) =
    ap length is ∙ length-take desk.config.batch desk.waiting in
    (omega arith, omega arith)

module _ (desk desk' : Desk) (u : WorkerAccount) (passes : List PassAccount)
    (k : Agrees desk passes u) where
  -- The desk agrees with the accounts again once the worker takes the next batch.
  pub takes : (now : ℕ) (batch : BatchView) → u.out ≡ None → batch ≡ next_batch desk
      → desk' ≡ after_take now desk
      → Agrees desk' passes (holders.after_take batch.number batch.spans u)
  takes now batch none is came =
      let n = desk.config.batch in let spans = take n desk.waiting in
      let l : min n (length desk.waiting) ≡ length spans = sym (length-take n desk.waiting) in
      let said : desk'
      ≡ record desk {
        waiting = desk'.waiting;
        out = Some (record { number = desk.batches + 1; size = length spans; is_handed = false });
        taken = desk.taken + length spans;
        batches = desk.batches + 1;
        last_moment = now;
      } =
      came
      ∙ ap (λ (m : ℕ). record desk {
        waiting = drop n desk.waiting;
        out = Some (record { number = desk.batches + 1; size = m; is_handed = false });
        taken = desk.taken + m;
        batches = desk.batches + 1;
        last_moment = now;
      })
      l
      ∙ ap (λ (w : List SpanData). record desk {
        waiting = w;
        out = Some (record { number = desk.batches + 1; size = length spans; is_handed = false });
        taken = desk.taken + length spans;
        batches = desk.batches + 1;
        last_moment = now;
      })
      (sym (ap (λ (d : Desk). d.waiting) came)) in
      subst (λ (b : BatchView). Agrees desk' passes (holders.after_take b.number b.spans u))
      (sym is)
      (take_agrees desk u passes k desk' now n spans none refl
      (ap (λ (d : Desk). d.waiting) came) said)

-- The batch that the worker has just taken is the one that its account has out.
pub taken_batch : (origin : Origin) (desk : Desk) (h h' : AnyAccount) (batch : BatchView)
    → h ≡ worker (origin_in h) (worker_in h)
    → h' ≡ on_worker (holders.after_take batch.number batch.spans) h → origin_in h ≡ origin
    → desk.config ≡ origin.desk → batch ≡ next_batch desk → IsBatchOf h' batch
taken_batch origin desk h h' batch is told of config next =
    let now = told ∙ ap (on_worker (holders.after_take batch.number batch.spans)) is in
    record {
      out = ap (λ (x : AnyAccount). (worker_in x).out) now;
      room =
          ap (λ (b : BatchView). b.room) next
          ∙ ap (λ (x : DeskConfig). x.batch) (config ∙ sym (ap (λ (o : Origin). o.desk) of))
          ∙ sym (ap (λ (x : AnyAccount). (origin_in x).desk.batch) now);
    }

-- The batch that is out at the desk is the one that the worker's account has out.
pub is_out_handed : (desk : Desk) (passes : List PassAccount) (u : WorkerAccount)
    (batch : BatchView) (body : Option (List ℕ))
    → Agrees desk passes u
    → u.out
    ≡ Some (record { number = batch.number; spans = batch.spans; body = body; outcomes = [] })
    → desk.config.batch ≡ batch.room → IsOut (is_some body) desk batch
is_out_handed desk passes u batch body k out room =
    record { out = k.batches.out ∙ ap shown_out out; room = sym room }

-- ---- an entry is popped

first_of : (ledger : List Entry) (entry : Entry) → Some entry ≡ slice_get ledger 0
    → ledger ≡ entry ∷ drop 1 ledger
first_of [] entry e = cc
first_of (x ∷ ledger) entry e = ap (λ (y : Entry). y ∷ ledger) (let s : x ≡ entry = cc in s)

-- An entry that a pass pops is the first of the desk's ledger before.
pub popped_first : (desk desk' : Desk) (entry : Entry) → Some entry ≡ slice_get desk.ledger 0
    → desk' ≡ record desk { ledger = drop 1 desk.ledger } → desk.ledger ≡ entry ∷ desk'.ledger
popped_first desk desk' entry first is =
    first_of desk.ledger entry first
    ∙ ap (λ (l : List Entry). entry ∷ l) (sym (ap (λ (d : Desk). d.ledger) is))

-- A pop from the ledger changes the ledger alone.
pub popped_is : (desk desk' : Desk) → desk' ≡ record desk { ledger = drop 1 desk.ledger }
    → desk' ≡ record desk { ledger = desk'.ledger }
popped_is desk desk' is =
    is ∙ ap (λ (l : List Entry). record desk { ledger = l }) (sym (ap (λ (d : Desk). d.ledger) is))

none_first : (ledger : List Entry) → None ≡ slice_get ledger 0 → drop 1 ledger ≡ ledger
none_first [] e = refl
none_first (x ∷ ledger) e = cc

-- A pop from an empty ledger leaves the desk unchanged.
pub none_popped : (desk desk' : Desk) → None ≡ slice_get desk.ledger 0
    → desk' ≡ record desk { ledger = drop 1 desk.ledger } → desk ≡ desk'
none_popped desk desk' none is =
    sym (is ∙ ap (λ (l : List Entry). record desk { ledger = l }) (none_first desk.ledger none))

-- A pop from an empty ledger of lost spans leaves the desk unchanged.
pub none_lost : (desk desk' : Desk) → None ≡ slice_get desk.lost 0
    → desk' ≡ record desk { lost = drop 1 desk.lost } → desk ≡ desk'
none_lost desk desk' none is =
    sym (is ∙ ap (λ (l : List Entry). record desk { lost = l }) (none_first desk.lost none))

-- An entry that a pass pops of the lost spans is the first of their ledger before.
pub lost_first : (desk desk' : Desk) (entry : Entry) → Some entry ≡ slice_get desk.lost 0
    → desk' ≡ record desk { lost = drop 1 desk.lost } → desk.lost ≡ entry ∷ desk'.lost
lost_first desk desk' entry first is =
    first_of desk.lost entry first
    ∙ ap (λ (l : List Entry). entry ∷ l) (sym (ap (λ (d : Desk). d.lost) is))

-- A pop from the ledger of lost spans changes this ledger alone.
pub lost_is : (desk desk' : Desk) → desk' ≡ record desk { lost = drop 1 desk.lost }
    → desk' ≡ record desk { lost = desk'.lost }
lost_is desk desk' is =
    is ∙ ap (λ (l : List Entry). record desk { lost = l }) (sym (ap (λ (d : Desk). d.lost) is))

-- All entries, taken in the other order, are a permutation of the entries.
pub all_of : (entries taken : List Entry) → taken ≡ entries → IsPermutation entries (reverse taken)
all_of entries taken is =
    subst (λ (es : List Entry). IsPermutation es (reverse taken)) is (IsPermutation-reverse taken)

-- ---- what is guarded

-- A pass whose account is among those that the lock keeps is in a hold of what it guards.
pub known_hold : {spent : List SpanData} (origin : Origin) (left : Bool) (desk : Desk)
    (holders : List AnyAccount) (h : AnyAccount) (g : Guarded)
    → IsShared origin left desk holders → Contains holders h → h ≡ pass (account_in h)
    → record { desk = desk; left = left; spent = spent } ≡ g → InHold g (account_in h)
known_hold origin left desk holders h g shared there is view =
    record {
      origin = origin;
      holders = holders;
      kept = subst (λ (x : Guarded). Kept origin x.left x.desk holders) view (shared h there);
      there = subst (Contains holders) is there;
    }

-- A pass whose account has just been replaced was in a hold of what the lock guards.
pub in_hold : {spent : List SpanData} (origin : Origin) (left : Bool) (desk : Desk)
    (holders holders' : List AnyAccount) (h h' : AnyAccount) (g : Guarded)
    → IsShared origin left desk holders → Replaces holders h h' holders' → h ≡ pass (account_in h)
    → record { desk = desk; left = left; spent = spent } ≡ g → InHold g (account_in h)
in_hold origin left desk holders holders' h h' g shared r is view =
    known_hold origin left desk holders h g shared
    (contains_replaced holders h h' holders' r) is view

-- ---- spans that were sent

-- An exchange of the sent spans with those that lay there loses no span.
pub exchanged : (sent there sent' there' : List SpanData) → sent' ≡ there → there' ≡ sent
    → IsPermutation (sent ++ there) (sent' ++ there')
exchanged sent there sent' there' is is' =
    subst (λ (xs : List SpanData). IsPermutation (sent ++ there) (xs ++ there')) (sym is)
    (subst (λ (xs : List SpanData). IsPermutation (sent ++ there) (there ++ xs)) (sym is')
    (IsPermutation-append_comm sent there))

-- ---- what is woken

-- A desk's batch that is out has a state exactly where there is such a batch.
pub out_is_some : (desk : Desk) → is_some (out_state desk) ≡ is_some desk.out
out_is_some desk = by_out desk.out
  where
    by_out : (out : Option OutBatch)
        → is_some (option_map {U = ℕ × Bool} (λ (b : OutBatch). (b.number, b.is_handed)) out)
        ≡ is_some out
    by_out None = refl
    by_out (Some b) = refl

-- ---- what a pass asked for, and its answer

-- A pass whose account notes the next ticket and the accepted count asks for all so far.
pub asks_of : (closes : Bool) (g : Guarded) (seen : Desk) (h h' : AnyAccount) (mark : ℕ)
    → InHold g (account_in h) → seen ≡ g.desk → mark ≡ accepted_count g.desk
    → h' ≡ on_pass (after_ask closes seen.next_ticket (accepted_count seen)) h
    → Asks closes g mark h h'
asks_of closes g seen h h' mark hold at count told = record {
  hold = hold;
  mark_is = count;
  account =
      told ∙ ap (λ (d : Desk). on_pass (after_ask closes d.next_ticket (accepted_count d)) h) at
      ∙ ap (λ (n : ℕ). on_pass (after_ask closes g.desk.next_ticket n) h) (sym count);
}

-- `Flushed` is a right answer where the desk is flushed up to the mark.
pub told_flushed : (g : Guarded) (mark : ℕ) (x : Flushed) (a : PassAccount) → InHold g a
    → is_flushed g.desk mark ≡ true → IsTold g mark (Ok x) a
told_flushed g mark x a hold is = record { hold = hold; flushed = is; left = tt }

-- `WorkerLeft` is a right answer where the desk isn't flushed and the worker has left.
pub told_left : (g : Guarded) (mark : ℕ) (x : WorkerLeft) (a : PassAccount) → InHold g a
    → is_flushed g.desk mark ≡ false → g.left ≡ true → IsTold g mark (Err x) a
told_left g mark x a hold is left = record { hold = hold; flushed = tt; left = (is, left) }

-- ---- the batch that is out

module _ (origin : Origin) (left : Bool) (desk : Desk) (holders : List AnyAccount) (h : AnyAccount)
    (batch : BatchView) (body : Option (List ℕ)) (shared : IsShared origin left desk holders)
    (there : Contains holders h) (is : h ≡ worker (origin_in h) (worker_in h))
    (out : (worker_in h).out
    ≡ Some (record { number = batch.number; spans = batch.spans; body = body; outcomes = [] }))
    (room : batch.room ≡ (origin_in h).desk.batch) where
  -- The batch that the worker's account has out is the one that the desk has out.
  pub out_of : IsOut (is_some body) desk batch
  out_of =
      let r : desk.config.batch ≡ batch.room =
      ap (λ (x : DeskConfig). x.batch)
      ((shared h there).config
      ∙ sym (ap (λ (o : Origin). o.desk)
      (origin_there origin left desk holders h (shared h there) there is)))
      ∙ sym room in
      is_out_handed desk (pass_accounts holders) (worker_in h) batch body
      (agrees_there origin left desk holders h (shared h there) there is) out r

  -- The desk's state of the batch that is out says whether the worker's account handed it.
  pub state_of : out_state desk ≡ Some (batch.number, is_some body)
  state_of = ap (option_map {U = ℕ × Bool} (λ b. (b.number, b.is_handed))) out_of.out

module _ (origin : Origin) (left : Bool) (desk : Desk) (holders : List AnyAccount) (h : AnyAccount)
    (batch : NamedView) (shared : IsShared origin left desk holders) (there : Contains holders h)
    (is : h ≡ worker (origin_in h) (worker_in h)) (x : IsNamedBatchOf h batch) where
  named_out : IsOut false desk
      (record { number = batch.number; spans = x.spans; room = batch.room })
  named_out =
      out_of origin left desk holders h
      (record { number = batch.number; spans = x.spans; room = batch.room }) None shared there is
      x.out x.room

  long : length x.spans ≡ length batch.entries
  long = sym (ap length x.entries ∙ length-map x.spans (entry_of batch.reason))

  -- A named batch that the worker's account has out is out at the desk, not handed.
  pub named_is : IsNamedOut desk batch
  named_is = record {
    out =
        named_out.out
        ∙ ap (λ (n : ℕ). Some (record { number = batch.number; size = n; is_handed = false })) long;
    room = named_out.room;
  }

  -- The drop of the named entries leaves the desk as the drop of the batch's spans.
  pub named_drop : (desk' : Desk) → desk' ≡ after_names batch.reason batch.entries desk
      → desk' ≡ after_drop batch.reason x.spans desk
  named_drop desk' came =
      came ∙ ap (λ (es : List Entry). after_names batch.reason es desk) x.entries
      ∙ ap (λ (n : ℕ). record desk {
        out = None;
        ledger = reverse (map (entry_of batch.reason) x.spans) ++ desk.ledger;
        dropped = with_drops batch.reason n desk.dropped;
      })
      (length-map x.spans (entry_of batch.reason))

-- A batch whose spans are lost has a name for each of them.
lost-long : (fate : Fate) (spans : List SpanData) → is_loss fate ≡ true
    → length (lost_names fate spans) ≡ length spans
lost-long fate spans = by_reason (loss_reason fate)
  where
    by_reason : (reason : Option Reason) → is_some reason ≡ true
        → length (named_as reason spans) ≡ length spans
    by_reason None is = cc
    by_reason (Some reason) is = length-map spans (entry_of reason)

module _ (origin : Origin) (left : Bool) (desk : Desk) (holders : List AnyAccount) (h : AnyAccount)
    (batch : SettledView) (shared : IsShared origin left desk holders) (there : Contains holders h)
    (is : h ≡ worker (origin_in h) (worker_in h)) (x : IsSettledBatchOf h batch) where
  abbrev sent_batch : BatchView
  sent_batch = record { number = batch.number; spans = x.spans; room = batch.room }

  sent_out : IsOut true desk sent_batch
  sent_out = out_of origin left desk holders h sent_batch (Some x.body) shared there is x.out x.room

  -- A handed batch of the worker's account with its fate can be settled at the desk.
  pub can_settle : CanSettle desk batch.fate batch.number batch.room (length batch.entries)
  can_settle = record {
    out = state_of origin left desk holders h sent_batch (Some x.body) shared there is x.out x.room;
    fits = sent_out.room;
    whole =
        λ loss.
        ap length x.entries ∙ lost-long batch.fate x.spans loss ∙ sym (ap out_size sent_out.out);
  }

  -- The settling of the named entries leaves the desk as the settling of the batch's spans.
  pub settled_by : (desk' : Desk) → desk' ≡ after_loss batch.fate batch.entries desk
      → desk' ≡ after_settled batch.fate x.spans desk
  settled_by desk' came = came ∙ ap (λ (es : List Entry). after_loss batch.fate es desk) x.entries

-- A batch whose spans are not lost has no names.
pub none-lost : (fate : Fate) (spans : List SpanData) → None ≡ loss_reason fate
    → lost_names fate spans ≡ []
none-lost fate spans none = ap (λ (r : Option Reason). named_as r spans) (sym none)

-- A number that isn't 0 is at least 1.
pub some_of : (n : ℕ) → (n ≡ 0 → ⊥) → 1 ≤ n
some_of zero never = absurd (never refl)
some_of (suc n) never = omega arith

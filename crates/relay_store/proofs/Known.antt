-- What a hold of the lock leaves of what is known, and what it says.
use Rattle.std.proofs.Common.{◌≡◌, ◌≢◌, refl, sym, ap, subst, ◌∙◌, ℕ, zero, suc, ◌≤◌}
use Rattle.std.proofs.Common.{List, [], ◌∷◌, ◌++◌, Bool, true, false, length, take, arith}
use Rattle.std.specs.Prelude.{Option, Some, None, sum_by}
use Rattle.model_desk.specs.Retries.{Fate, Next, fate_of}
use Rattle.model_body.specs.Histories.{Turn, idle, is_out, again, joined}
use Rattle.model_body.specs.Desks.{BodyDesk, IsNew, IsNext}
use Rattle.relay_queue.specs.Bodies.{MayTake}
use Rattle.relay_queue.specs.Senders.{Sender, to_send}
use Rattle.relay_queue.specs.Steps.{Notes, NotesFate, Takes, next_number, attempts_before}
use Rattle.account_book.specs.Accounts.{Replaces}
use Rattle.relay_store.specs.Kept.{Admits, Kept}
use Rattle.relay_store.specs.Accounts.{Said, Sent, posts, sends, closes, posted_in, sent_in}
use Rattle.relay_store.specs.Accounts.{closed_in, after_posts, after_closing, given_up, last_batch}
use Rattle.relay_store.specs.Accounts.{new_sent, started_with, taken_from, noted_by, noted_from}
use Rattle.relay_store.specs.Accounts.{ended_by, ended_after}
use Rattle.relay_store.specs.Agreement.{Agrees, AreKnown, batch_by, came_of}
use Rattle.relay_store.specs.Handlers.{TakesBatch}
use Rattle.relay_store.proofs.Book.{three, replaced_post, replaced_send, replaced_close}
use Rattle.relay_store.proofs.Steps.{admit-step, batch-is-last, ended-are, is-busy, later-step}
use Rattle.relay_store.proofs.Steps.{put-step, same-step, settle-step}

-- what is known of the order of bodies
abbrev Order : Type 1
Order = List (List ℕ) → Sent → Type 0

-- Nothing is changed but what doesn't count.
pub known-same : (old new : BodyDesk) (was now closed : Bool) (order order' : Order)
    (book : List Said) → AreKnown old was closed order book → new ≡ old → now ≡ was
    → ((p : List (List ℕ)) (s : Sent) → order p s → order' p s)
    → AreKnown new now closed order' book
known-same old new was now closed order order' book k d b step = record {
  posted = k.posted;
  sent = k.sent;
  gave = k.gave;
  book_is = k.book_is;
  agrees = same-step old new was now closed k.posted k.sent k.gave d b k.agrees;
  in_order = step k.posted k.sent k.in_order;
}

-- What a sender's account says is so of the desk.
pub record Knows (desk : BodyDesk) (spooled closed : Bool) (sent : Sent) : Type 0 where
  pub posted : List (List ℕ)
  pub gave : Option (List (List ℕ))
  pub agrees : Agrees desk spooled closed posted sent gave

module _ (old new : BodyDesk) (was now closed closed' : Bool) (order order' : Order)
    (book book' : List Said) (a a' : Said) (k : AreKnown old was closed order book)
    (r : Replaces book a a' book') where
  replaced-as : (v : Said) → a ≡ v → Replaces (three k.posted k.sent k.gave) v a' book'
  replaced-as v e =
      subst (λ w. Replaces (three k.posted k.sent k.gave) w a' book') e
      (subst (λ l. Replaces l a a' book') k.book_is r)

  -- Bodies are kept.
  pub known-post : (more : List (List ℕ)) → a ≡ posts (posted_in a) → a' ≡ after_posts more a
      → ((p : List (List ℕ)) (s : Sent) (g : Option (List (List ℕ)))
      → Agrees old was closed p s g → Agrees new now closed' (p ++ more) s g)
      → ((p : List (List ℕ)) (s : Sent) → order p s → order' (p ++ more) s)
      → AreKnown new now closed' order' book'
  known-post more kind after step ordered =
      let f =
      replaced_post k.posted k.sent k.gave (posted_in a) a' book' (replaced-as _ kind) in
      record {
        posted = k.posted ++ more;
        sent = k.sent;
        gave = k.gave;
        book_is =
            f.new_is
            ∙ ap (λ w. w ∷ sends k.sent ∷ closes k.gave ∷ [])
            (after ∙ ap (λ b. posts (b ++ more)) f.same);
        agrees = step k.posted k.sent k.gave k.agrees;
        in_order = ordered k.posted k.sent k.in_order;
      }

  -- What the sender's account says is so.
  pub knows : a ≡ sends (sent_in a) → Knows old was closed (sent_in a)
  knows kind =
      let f = replaced_send k.posted k.sent k.gave (sent_in a) a' book' (replaced-as _ kind) in
      record {
        posted = k.posted;
        gave = k.gave;
        agrees = subst (λ s. Agrees old was closed k.posted s k.gave) (sym f.same) k.agrees;
      }

  -- The sender's account is changed with the desk.
  pub known-send : (sent : Sent) → a ≡ sends (sent_in a) → a' ≡ sends sent
      → ((p : List (List ℕ)) (g : Option (List (List ℕ)))
      → Agrees old was closed p (sent_in a) g → Agrees new now closed' p sent g)
      → ((p : List (List ℕ)) → order p (sent_in a) → order' p sent)
      → AreKnown new now closed' order' book'
  known-send sent kind after step ordered =
      let f = replaced_send k.posted k.sent k.gave (sent_in a) a' book' (replaced-as _ kind) in
      record {
        posted = k.posted;
        sent = sent;
        gave = k.gave;
        book_is =
            f.new_is ∙ ap (λ w. posts k.posted ∷ w ∷ closes k.gave ∷ []) after;
        agrees =
            step k.posted k.gave
            (subst (λ s. Agrees old was closed k.posted s k.gave) (sym f.same) k.agrees);
        in_order = ordered k.posted (subst (λ s. order k.posted s) (sym f.same) k.in_order);
      }

  -- All bodies are given up.
  pub known-close : (bodies : List (List ℕ)) → a ≡ closes (closed_in a)
      → a' ≡ after_closing bodies a
      → ((p : List (List ℕ)) (s : Sent) (g : Option (List (List ℕ)))
      → Agrees old was closed p s g
      → Agrees new now closed' p s (Some (given_up g ++ bodies)))
      → ((p : List (List ℕ)) (s : Sent) → order p s → order' p s)
      → AreKnown new now closed' order' book'
  known-close bodies kind after step ordered =
      let f =
      replaced_close k.posted k.sent k.gave (closed_in a) a' book' (replaced-as _ kind) in
      record {
        posted = k.posted;
        sent = k.sent;
        gave = Some (given_up k.gave ++ bodies);
        book_is =
            f.new_is
            ∙ ap (λ w. posts k.posted ∷ sends k.sent ∷ w ∷ [])
            (after ∙ ap (λ g. closes (Some (given_up g ++ bodies))) f.same);
        agrees = step k.posted k.sent k.gave k.agrees;
        in_order = ordered k.posted k.sent k.in_order;
      }

-- ---- what a hold says

some-length : (xs : List (List ℕ)) → xs ≢ [] → 1 ≤ length xs
some-length [] h = absurd (h refl)
some-length (x ∷ xs) h = omega arith

new-within : (alone : ℕ) (desk : BodyDesk) (n : ℕ) → desk.alone ≡ alone → IsNew desk n
    → 1 ≤ length desk.kept → n ≤ length desk.kept
new-within zero desk n e w some = (w.fits e).there
new-within (suc m) desk n e w some = omega (arith, w.alone (omega (arith, e)), some)

next-within : (t : Turn) (desk : BodyDesk) (n : ℕ) → IsNext t desk n
    → (t ≢ idle → desk.size ≤ length desk.kept) → 1 ≤ length desk.kept → n ≤ length desk.kept
next-within idle desk n next within some = new-within desk.alone desk n refl next some
next-within is_out desk n next within some = absurd next
next-within again desk n next within some = omega (arith, next, within (λ e. cc))

-- A batch that may be taken is one of bodies that are kept.
pub may-within : (desk : BodyDesk) (spooled closed : Bool) (p : List (List ℕ)) (s : Sent)
    (g : Option (List (List ℕ))) (n : ℕ) → Agrees desk spooled closed p s g → MayTake desk n
    → n ≤ length desk.kept
may-within desk spooled closed p s g n a may =
    next-within desk.turn desk n may.1 a.within (some-length desk.kept may.0)

-- A desk that has bodies isn't closed.
pub may-open : (desk : BodyDesk) (spooled closed : Bool) (p : List (List ℕ)) (s : Sent)
    (g : Option (List (List ℕ))) (n : ℕ) → Agrees desk spooled closed p s g → MayTake desk n
    → closed ≡ false
may-open desk spooled true p s g n a may = absurd (may.0 (a.none refl).1)
may-open desk spooled false p s g n a may = refl

again-size : (t : Turn) (desk : BodyDesk) (n : ℕ) → t ≡ again → IsNext t desk n → n ≡ desk.size
again-size idle desk n e h = absurd cc
again-size is_out desk n e h = absurd cc
again-size again desk n e h = h

-- A batch that is taken from a desk is one by the sender's account too.
pub takes-batch : (s s' : Sender) (old new seen : BodyDesk) (spooled : Bool) (a a' : Said)
    → Knows old spooled false (sent_in a) → seen ≡ new → Takes s old s' new
    → a' ≡ sends (taken_from (last_batch seen) (sent_in a)) → TakesBatch s a s' a'
takes-batch s s' old new seen spooled a a' w same t after =
    let g = w.agrees in
    let bodies : last_batch new ≡ take t.count old.kept = ap last_batch t.desk_is in
    record {
      batch = last_batch new;
      repeats = λ e.
          let here : old.turn ≡ again = sym (g.turn refl) ∙ e in
          bodies ∙ ap (λ n. take n old.kept) (again-size old.turn old t.count here t.may.1)
          ∙ sym (ap (λ u. batch_by u (last_batch old)) here) ∙ sym (g.batch refl);
      said_is = after ∙ ap (λ d. sends (taken_from (last_batch d) (sent_in a))) same;
      sender =
          t.sender
          ∙ (λ i. record s {
            body = (t.body ∙ ap joined (sym bodies)) i;
            number = next_number (sym (g.turn refl) i) s.number;
            attempts = attempts_before (sym (g.turn refl) i) s.attempts;
            stage = to_send;
          });
    }

-- The bodies that end with what is noted are those of the batch that is out.
pub ended-is : (old new : BodyDesk) (spooled : Bool) (sent : Sent) (next : Next)
    (ended : List (List ℕ)) → Knows old spooled false sent → sent.turn ≡ is_out
    → Notes next ended old new → ended ≡ ended_after next sent.batch
ended-is old new spooled sent next ended w out n =
    let g = w.agrees in
    let here : old.turn ≡ is_out = sym (g.turn refl) ∙ out in
    go (fate_of next) here (n.out here)
  where
    go : (o : Option Fate) → old.turn ≡ is_out → NotesFate o ended old new
        → ended ≡ ended_by o sent.batch
    go None here v = v.0
    go (Some fate) here v =
        let g = w.agrees in
        v.0
        ∙ sym (ap (λ b. ended_by (Some fate) b)
        (batch-is-last old spooled w.posted sent w.gave g here)
        ∙ ended-are fate old.size old.kept (g.within (is-busy old.turn here)))

-- What is noted of the batch that is out agrees.
pub note-step : (old new : BodyDesk) (spooled : Bool) (p : List (List ℕ)) (sent : Sent)
    (g : Option (List (List ℕ))) (next : Next) (ended : List (List ℕ)) → sent.turn ≡ is_out
    → Notes next ended old new → Agrees old spooled false p sent g
    → Agrees new spooled false p (noted_from next sent) g
note-step old new spooled p sent g next ended out n a =
    let here : old.turn ≡ is_out = sym (a.turn refl) ∙ out in
    go (fate_of next) here (n.out here)
  where
    go : (o : Option Fate) → old.turn ≡ is_out → NotesFate o ended old new
        → Agrees new spooled false p (noted_by o sent) g
    go None here v = later-step old new spooled p sent g v.1 here a
    go (Some fate) here v = settle-step old new spooled p sent g fate v.1 here a

-- ---- the beginning

came-none : (spooled : Bool) (waits : List (List ℕ))
    → came_of spooled [] (started_with waits new_sent) ≡ []
came-none true waits = refl
came-none false waits = refl

-- Nothing is at the desk, and the accounts say nothing but what waits.
pub known-new : (desk : BodyDesk) (spooled : Bool) (order : Order) (waits : List (List ℕ))
    (book : List Said) → desk.kept ≡ [] → desk.turn ≡ idle
    → book ≡ three [] (started_with waits new_sent) None
    → order [] (started_with waits new_sent) → AreKnown desk spooled false order book
known-new desk spooled order waits book none turn is ordered = record {
  posted = [];
  sent = started_with waits new_sent;
  gave = None;
  book_is = is;
  agrees = record {
    closed = refl;
    turn = λ c. sym turn;
    batch = λ c. sym (ap (λ t. batch_by t (last_batch desk)) turn);
    within = λ busy. absurd (busy turn);
    none = λ c. absurd (false-true c);
    adds_up = λ f. omega (arith, ap (sum_by f) (came-none spooled waits), ap (sum_by f) none);
  };
  in_order = ordered;
}
  where
    false-true : false ≡ true → ⊥
    false-true e = cc

-- ---- bodies that are kept

module _ {D : Type 0} (old new : Kept D) (closed : Bool) (body : List ℕ) (spans : ℕ) where
  keep-by : (b : Bool) (p : List (List ℕ)) (s : Sent) (g : Option (List (List ℕ)))
      → old.is_spooled ≡ b → closed ≡ false
      → (old.is_spooled ≡ false → Admits body spans old new)
      → (old.is_spooled ≡ true → (new.desk ≡ old.desk) × (new.is_spooled ≡ old.is_spooled))
      → Agrees old.desk old.is_spooled closed p s g
      → Agrees new.desk new.is_spooled closed (p ++ body ∷ []) s g
  keep-by true p s g is opened admits put a =
      same-step old.desk new.desk true new.is_spooled closed (p ++ body ∷ []) s g (put is).0
      ((put is).1 ∙ is)
      (put-step old.desk closed p (body ∷ []) s g
      (subst (λ b. Agrees old.desk b closed p s g) is a))
  keep-by false p s g is opened admits put a =
      let only = (admits is).only in
      let spooled : new.is_spooled ≡ false = ap (λ (k : Kept D). k.is_spooled) only ∙ is in
      subst (λ c. Agrees new.desk new.is_spooled c (p ++ body ∷ []) s g) (sym opened)
      (subst (λ b. Agrees new.desk b false (p ++ body ∷ []) s g) (sym spooled)
      (admit-step old.desk new.desk p s g body (ap (λ (k : Kept D). k.desk) only)
      (subst (λ b. Agrees old.desk b false p s g) is
      (subst (λ c. Agrees old.desk old.is_spooled c p s g) opened a))))

  -- A body is kept, at the desk or in the spool.
  pub keep-step : (p : List (List ℕ)) (s : Sent) (g : Option (List (List ℕ))) → closed ≡ false
      → (old.is_spooled ≡ false → Admits body spans old new)
      → (old.is_spooled ≡ true → (new.desk ≡ old.desk) × (new.is_spooled ≡ old.is_spooled))
      → Agrees old.desk old.is_spooled closed p s g
      → Agrees new.desk new.is_spooled closed (p ++ body ∷ []) s g
  keep-step p s g = keep-by old.is_spooled p s g refl

-- ---- what is closed

-- Nothing ends at a desk at which no batch is out.
pub closed-none : (old new : BodyDesk) (next : Next) (ended : List (List ℕ)) → old.turn ≡ idle
    → Notes next ended old new → (ended ≡ []) × (new ≡ old)
closed-none old new next ended turn n =
    n.none (λ out. let no : idle ≡ is_out = sym turn ∙ out in cc)

-- What three accounts come to.
use Rattle.std.proofs.Common.{◌≡◌, refl, sym, ap, subst, ◌∙◌, ℕ, ◌+◌, arith, List, [], ◌∷◌, Bool}
use Rattle.std.proofs.Common.{true, false, ◌++◌, ◌-◌, ◌≤◌, cond, length}
use Rattle.std.specs.Prelude.{map, filter, not, if◌then◌else◌, flat_map, sum_by, count_by, Contains}
use Rattle.std.specs.Prelude.{Option, ◌||◌}
use Rattle.std.proofs.lemmas.List.Sums.{sum_by-append, sum_by-cons}
use Rattle.model_message.specs.Messages.{Triple}
use Rattle.model_desk.specs.Retries.{Fate}
use Rattle.model_desk.specs.Desks.{is_loss}
use Rattle.model_body.specs.Names.{spans_in}
use Rattle.model_body.specs.Laws.{span_count}
use Rattle.model_body.specs.Desks.{BodyDesk}
use Rattle.relay_store.specs.Kept.{Kept, kept_count, remaining_in}
use Rattle.relay_store.specs.Accounts.{Said, Sent, posts, sends, closes, posted_in, sent_in}
use Rattle.relay_store.specs.Accounts.{closed_in, given_up}
use Rattle.spool.specs.Disks.{Disk}
use Rattle.relay_store.specs.declared.holdings.Holdings.{Holdings}
use Rattle.relay_store.specs.Agreement.{Agrees, AreInOrder, AreKnown, IsInOrder, came_of}
use Rattle.relay_store.specs.Balances.{Balances, SpoolBalances, delivered_in, lost_in}
use Rattle.relay_store.proofs.Book.{three, posts-in, sends-in, closes-in}

-- ---- what is added up

-- the spans of a body that pass a test
abbrev spans-of : (Triple → Bool) → List ℕ → ℕ
spans-of is_it body = count_by is_it (spans_in body)

count-append : (is_it : Triple → Bool) (xs ys : List Triple)
    → count_by is_it (xs ++ ys) ≡ count_by is_it xs + count_by is_it ys
count-append is_it xs ys = sum_by-append (λ (t : Triple). cond (is_it t) 1 0) xs ys

-- The spans of bodies are those of each.
sum-spans : (is_it : Triple → Bool) (bodies : List (List ℕ))
    → sum_by (spans-of is_it) bodies ≡ span_count is_it bodies
sum-spans is_it [] = refl
sum-spans is_it (body ∷ bodies) =
    sum_by-cons (spans-of is_it) body bodies
    ∙ ap (λ n. spans-of is_it body + n) (sum-spans is_it bodies)
    ∙ sym (count-append is_it (spans_in body) (flat_map spans_in bodies))

abbrev firsts : List (List ℕ × Fate) → List (List ℕ)
firsts ended = map (λ e. e.0) ended

one-way : (f : List ℕ → ℕ) (b : Bool) (x : List ℕ × Fate) (delivered lost : List (List ℕ × Fate))
    → sum_by f (firsts (if not b then x ∷ delivered else delivered))
    + sum_by f (firsts (if b then x ∷ lost else lost))
    ≡ f x.0 + (sum_by f (firsts delivered) + sum_by f (firsts lost))
one-way f true x delivered lost = omega (arith, sum_by-cons f x.0 (firsts lost))
one-way f false x delivered lost = omega (arith, sum_by-cons f x.0 (firsts delivered))

-- Each body that ended was delivered or is lost.
sum-ways : (f : List ℕ → ℕ) (ended : List (List ℕ × Fate))
    → sum_by f (firsts ended)
    ≡ sum_by f (firsts (filter (λ e. not (is_loss e.1)) ended))
    + sum_by f (firsts (filter (λ e. is_loss e.1) ended))
sum-ways f [] = refl
sum-ways f (x ∷ ended) =
    sum_by-cons f x.0 (firsts ended)
    ∙ ap (λ n. f x.0 + n) (sum-ways f ended)
    ∙ sym (one-way f (is_loss x.1) x (filter (λ e. not (is_loss e.1)) ended)
    (filter (λ e. is_loss e.1) ended))

-- ---- the balance

spool-balance : (kept : ℕ) (p : List (List ℕ)) (s : Sent) (waits : List (List ℕ))
    → length waits ≤ kept → AreInOrder p s waits → SpoolBalances kept p s
spool-balance kept p s waits few o = record {
  waits = waits;
  few = few;
  in_order = o;
  spans = λ is_it.
      omega (
        arith,
        ap (sum_by (spans-of is_it)) o,
        sum_by-append (spans-of is_it) s.at_start p,
        sum_by-append (spans-of is_it) (firsts s.ended) waits,
        sum-ways (spans-of is_it) s.ended,
        sum-spans is_it s.at_start,
        sum-spans is_it p,
        sum-spans is_it (delivered_in s),
        sum-spans is_it (lost_in s),
        sum-spans is_it waits,
      );
}

balance-of : (known : Type 0) (h : Holdings) (desk : BodyDesk) (closed : Bool)
    (p : List (List ℕ)) (s : Sent) (g : Option (List (List ℕ)))
    → Agrees desk h.is_spooled closed p s g
    → (h.is_spooled ≡ false → h.kept ≡ length desk.kept)
    → (known → h.is_spooled ≡ true → h.has_ever_failed ≡ false → SpoolBalances h.kept p s)
    → Balances known h p s g
balance-of known h desk closed p s g a in_memory in_spool = record {
  desk = desk;
  is_closed = closed;
  agrees = a;
  in_memory = in_memory;
  in_spool = in_spool;
  spans = λ is_it.
      omega (
        arith,
        a.adds_up (spans-of is_it),
        sum-ways (spans-of is_it) s.ended,
        sum-spans is_it (came_of h.is_spooled p s),
        sum-spans is_it (delivered_in s),
        sum-spans is_it (lost_in s),
        sum-spans is_it s.returned,
        sum-spans is_it (given_up g),
        sum-spans is_it desk.kept,
      );
}

-- What is known of what is kept, as a balance answers it.
pub record Holds {D : Type 0} (known : Type 0) (files : D → Disk) (kept : Kept D)
    (is_reopened : Bool) (h : Holdings) : Type 0 where
  pub spooled : h.is_spooled ≡ kept.is_spooled
  pub failed : h.has_ever_failed ≡ false → kept.has_failed ≡ false
  pub once : h.has_ever_failed ≡ false → is_reopened ≡ false
  pub count : h.kept ≡ kept_count kept
  pub few : known → kept.is_spooled ≡ true → kept.has_failed ≡ false
      → length (remaining_in files kept) ≤ h.kept

-- A spool that never failed wasn't opened again, and hasn't failed.
pub never-failed : (again failed : Bool) → (again || failed) ≡ false
    → (again ≡ false) × (failed ≡ false)
never-failed true failed e = absurd (cc)
never-failed false failed e = (refl, e)

-- Three accounts of a book are balanced.
pub balances : {D : Type 0} (known : Type 0) (files : D → Disk) (kept : Kept D)
    (closed reopened : Bool) (h : Holdings) (book : List Said) (p s c : Said)
    → AreKnown kept.desk kept.is_spooled closed (IsInOrder known files kept reopened) book
    → Holds known files kept reopened h → p ≡ posts (posted_in p) → s ≡ sends (sent_in s)
    → c ≡ closes (closed_in c) → Contains book p → Contains book s → Contains book c
    → Balances known h (posted_in p) (sent_in s) (closed_in c)
balances known files kept closed reopened h book p s c k held is-p is-s is-c in-p in-s in-c =
    let all = three k.posted k.sent k.gave in
    let first : posted_in p ≡ k.posted =
    posts-in k.posted k.sent k.gave (posted_in p)
    (subst (λ v. Contains all v) is-p (subst (λ l. Contains l p) k.book_is in-p)) in
    let second : sent_in s ≡ k.sent =
    sends-in k.posted k.sent k.gave (sent_in s)
    (subst (λ v. Contains all v) is-s (subst (λ l. Contains l s) k.book_is in-s)) in
    let third : closed_in c ≡ k.gave =
    closes-in k.posted k.sent k.gave (closed_in c)
    (subst (λ v. Contains all v) is-c (subst (λ l. Contains l c) k.book_is in-c)) in
    let agrees : Agrees kept.desk h.is_spooled closed (posted_in p) (sent_in s) (closed_in c) =
    subst (λ b. Agrees kept.desk b closed (posted_in p) (sent_in s) (closed_in c))
    (sym held.spooled)
    (subst (λ b. Agrees kept.desk kept.is_spooled closed b (sent_in s) (closed_in c)) (sym first)
    (subst (λ t. Agrees kept.desk kept.is_spooled closed k.posted t (closed_in c)) (sym second)
    (subst (λ g. Agrees kept.desk kept.is_spooled closed k.posted k.sent g) (sym third)
    k.agrees))) in
    let ordered : IsInOrder known files kept reopened (posted_in p) (sent_in s) =
    subst (λ b. IsInOrder known files kept reopened b (sent_in s)) (sym first)
    (subst (λ t. IsInOrder known files kept reopened k.posted t) (sym second) k.in_order) in
    balance-of known h kept.desk closed (posted_in p) (sent_in s) (closed_in c) agrees
    (λ is. held.count ∙ counted kept.is_spooled (sym held.spooled ∙ is))
    (λ is-known is never.
    let was = sym held.spooled ∙ is in
    spool-balance h.kept (posted_in p) (sent_in s) (remaining_in files kept)
    (held.few is-known was (held.failed never))
    (ordered is-known was (held.failed never) (held.once never)))
  where
    counted : (b : Bool) → b ≡ false
        → (if b then kept.next - kept.first else length kept.desk.kept) ≡ length kept.desk.kept
    counted true is = absurd (cc)
    counted false is = refl

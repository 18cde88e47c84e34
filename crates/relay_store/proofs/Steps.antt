-- What each call makes of how the desk agrees with the accounts.
use Rattle.std.proofs.Common.{◌≡◌, ◌≢◌, refl, sym, ap, subst, ◌∙◌, ℕ, ◌+◌, ◌≤◌, List, [], ◌∷◌}
use Rattle.std.proofs.Common.{◌++◌, Bool, true, false, length, take, drop, length-append, arith}
use Rattle.std.specs.Prelude.{if◌then◌else◌, map, sum_by, Option, Some}
use Rattle.std.proofs.lemmas.List.{take-append-le, length-take-le}
use Rattle.std.proofs.lemmas.List.Sums.{sum_by-append, sum_by_push}
use Rattle.model_desk.specs.Retries.{Fate}
use Rattle.model_body.specs.Histories.{Turn, idle, is_out, again, is_split, ended_count}
use Rattle.model_body.specs.Desks.{BodyDesk, after_settled}
use Rattle.relay_store.proofs.Basics.{drop-taken, true-false}
use Rattle.relay_store.specs.Accounts.{Sent, last_batch, taken_from, read_from, ended_bodies}
use Rattle.relay_store.specs.Accounts.{noted_by, freed_from, returned_from, given_up}
use Rattle.relay_store.specs.Agreement.{Agrees, AddsUp, came_of, batch_by}

-- ---- lists

-- What is added up of the first ones and of the others is all.
pub sum-split : (f : List ℕ → ℕ) (n : ℕ) (xs : List (List ℕ))
    → sum_by f xs ≡ sum_by f (take n xs) + sum_by f (drop n xs)
sum-split f n xs =
    ap (sum_by f) (sym (drop-taken n xs)) ∙ sum_by-append f (take n xs) (drop n xs)

-- Bodies with a fate, without it.
pub firsts-with : (fate : Fate) (bodies : List (List ℕ))
    → map (λ (e : List ℕ × Fate). e.0) (map (λ body. (body, fate)) bodies) ≡ bodies
firsts-with fate [] = refl
firsts-with fate (x ∷ bodies) = ap (λ l. x ∷ l) (firsts-with fate bodies)

-- Bodies that ended before others.
pub firsts-append : (xs ys : List (List ℕ × Fate))
    → map (λ (e : List ℕ × Fate). e.0) (xs ++ ys)
    ≡ map (λ (e : List ℕ × Fate). e.0) xs ++ map (λ (e : List ℕ × Fate). e.0) ys
firsts-append [] ys = refl
firsts-append (x ∷ xs) ys = ap (λ l. x.0 ∷ l) (firsts-append xs ys)

-- What is added up of those that ended, with these.
pub sum-ended : (f : List ℕ → ℕ) (ended : List (List ℕ × Fate)) (fate : Fate)
    (bodies : List (List ℕ))
    → sum_by f (map (λ e. e.0) (ended ++ map (λ body. (body, fate)) bodies))
    ≡ sum_by f (map (λ e. e.0) ended) + sum_by f bodies
sum-ended f ended fate bodies =
    ap (sum_by f) (firsts-append ended (map (λ body. (body, fate)) bodies))
    ∙ sum_by-append f (map (λ e. e.0) ended)
    (map (λ e. e.0) (map (λ body. (body, fate)) bodies))
    ∙ ap (λ l. sum_by f (map (λ e. e.0) ended) + sum_by f l) (firsts-with fate bodies)

-- ---- batches

batch-grows : (t : Turn) (n : ℕ) (kept : List (List ℕ)) (body : List ℕ)
    → (t ≢ idle → n ≤ length kept)
    → batch_by t (take n (kept ++ body ∷ [])) ≡ batch_by t (take n kept)
batch-grows idle n kept body h = refl
batch-grows is_out n kept body h = take-append-le n kept (body ∷ []) (h (λ e. cc))
batch-grows again n kept body h = take-append-le n kept (body ∷ []) (h (λ e. cc))

-- The batch of a desk that has no body is none.
batch-none : (t : Turn) (n : ℕ) (kept : List (List ℕ)) → (t ≢ idle → n ≤ 0)
    → batch_by t (take n kept) ≡ []
batch-none idle n kept h = refl
batch-none is_out n kept h =
    let none : n ≡ 0 = omega (arith, h (λ e. cc)) in ap (λ k. take k kept) none
batch-none again n kept h =
    let none : n ≡ 0 = omega (arith, h (λ e. cc)) in ap (λ k. take k kept) none

ended-by : (b : Bool) (n : ℕ) (kept : List (List ℕ))
    → (if b then [] else take n kept) ≡ take (if b then 0 else n) kept
ended-by true n kept = refl
ended-by false n kept = refl

-- Those of a batch that end by a fate are the first so many that are kept.
pub ended-are : (fate : Fate) (n : ℕ) (kept : List (List ℕ)) → n ≤ length kept
    → ended_bodies fate (take n kept) ≡ take (ended_count fate n) kept
ended-are fate n kept h =
    ap (λ k. if is_split fate k then [] else take n kept) (length-take-le n kept h)
    ∙ ended-by (is_split fate n) n kept

-- The batch that is out, by the account, is the one that was taken last.
pub batch-is-last : (desk : BodyDesk) (spooled : Bool) (p : List (List ℕ)) (s : Sent)
    (g : Option (List (List ℕ))) → Agrees desk spooled false p s g → desk.turn ≡ is_out
    → s.batch ≡ last_batch desk
batch-is-last desk spooled p s g a out =
    a.batch refl ∙ ap (λ t. batch_by t (last_batch desk)) out

-- A batch that is out hasn't ended.
pub is-busy : (t : Turn) → t ≡ is_out → t ≢ idle
is-busy t e i =
    let no : is_out ≡ idle = sym e ∙ i in cc

-- ---- steps

-- The same is at the desk, and nothing is given up.
pub same-step : (old new : BodyDesk) (was is closed : Bool) (p : List (List ℕ)) (s : Sent)
    (g : Option (List (List ℕ))) → new ≡ old → is ≡ was → Agrees old was closed p s g
    → Agrees new is closed p s g
same-step old new was is closed p s g d e a =
    subst (λ desk. Agrees desk is closed p s g) (sym d)
    (subst (λ b. Agrees old b closed p s g) (sym e) a)

-- Bodies are kept in the spool.
pub put-step : (desk : BodyDesk) (closed : Bool) (p more : List (List ℕ)) (s : Sent)
    (g : Option (List (List ℕ))) → Agrees desk true closed p s g
    → Agrees desk true closed (p ++ more) s g
put-step desk closed p more s g a = record {
  closed = a.closed;
  turn = a.turn;
  batch = a.batch;
  within = a.within;
  none = a.none;
  adds_up = a.adds_up;
}

module _ (old new : BodyDesk) (p : List (List ℕ)) (s : Sent) (g : Option (List (List ℕ))) where
  -- A body is kept at the desk.
  pub admit-step : (body : List ℕ)
      → new ≡ record old { kept = old.kept ++ body ∷ []; admitted = old.admitted + 1 }
      → Agrees old false false p s g → Agrees new false false (p ++ body ∷ []) s g
  admit-step body e a =
      subst (λ desk. Agrees desk false false (p ++ body ∷ []) s g) (sym e) (record {
        closed = a.closed;
        turn = a.turn;
        batch = λ c.
            a.batch c ∙ sym (batch-grows old.turn old.size old.kept body a.within);
        within = λ busy.
            let longer = length-append old.kept (body ∷ []) in
            omega (arith, a.within busy, longer);
        none = λ c. absurd (true-false (sym c));
        adds_up = λ f.
            omega (
              arith,
              a.adds_up f,
              sum_by_push f p body,
              sum_by_push f old.kept body,
            );
      })

module _ (old new : BodyDesk) (spooled : Bool) (p : List (List ℕ)) (s : Sent)
    (g : Option (List (List ℕ))) where
  -- A batch is taken.
  pub take-step : (n : ℕ) → new ≡ record old { turn = is_out; size = n } → n ≤ length old.kept
      → Agrees old spooled false p s g
      → Agrees new spooled false p (taken_from (last_batch new) s) g
  take-step n e le a =
      subst (λ desk. Agrees desk spooled false p (taken_from (last_batch desk) s) g) (sym e)
      (record {
        closed = a.closed;
        turn = λ c. refl;
        batch = λ c. refl;
        within = λ busy. le;
        none = λ c. absurd (true-false (sym c));
        adds_up = a.adds_up;
      })

  -- The batch that is out is to be sent again.
  pub later-step : new ≡ record old { turn = again } → old.turn ≡ is_out
      → Agrees old spooled false p s g
      → Agrees new spooled false p (record s { turn = again }) g
  later-step e out a =
      subst (λ desk. Agrees desk spooled false p (record s { turn = again }) g) (sym e)
      (record {
        closed = a.closed;
        turn = λ c. refl;
        batch = λ c. batch-is-last old spooled p s g a out;
        within = λ busy. a.within (is-busy old.turn out);
        none = λ c. absurd (true-false (sym c));
        adds_up = a.adds_up;
      })

  -- The batch that is out ended.
  pub settle-step : (fate : Fate) → new ≡ after_settled fate old → old.turn ≡ is_out
      → Agrees old spooled false p s g
      → Agrees new spooled false p (noted_by (Some fate) s) g
  settle-step fate e out a =
      let n = ended_count fate old.size in
      let le = a.within (is-busy old.turn out) in
      let bodies : ended_bodies fate s.batch ≡ take n old.kept =
      ap (ended_bodies fate) (batch-is-last old spooled p s g a out)
      ∙ ended-are fate old.size old.kept le in
      subst (λ desk. Agrees desk spooled false p (noted_by (Some fate) s) g) (sym e)
      (record {
        closed = a.closed;
        turn = λ c. refl;
        batch = λ c. refl;
        within = λ busy. absurd (busy refl);
        none = λ c. absurd (true-false (sym c));
        adds_up = λ f.
            omega (
              arith,
              a.adds_up f,
              sum-ended f s.ended fate (ended_bodies fate s.batch),
              ap (sum_by f) bodies,
              sum-split f n old.kept,
            );
      })

  -- Nothing is noted of a batch, once all was given up.
  pub free-step : new ≡ old → Agrees old spooled true p s g
      → Agrees new spooled true p (freed_from s) g
  free-step e a =
      subst (λ desk. Agrees desk spooled true p (freed_from s) g) (sym e) (record {
        closed = a.closed;
        turn = λ c. absurd (true-false c);
        batch = λ c. absurd (true-false c);
        within = a.within;
        none = a.none;
        adds_up = a.adds_up;
      })

  -- Bodies are read, where the desk has none.
  pub read-step : (closed : Bool) (bodies : List (List ℕ)) (admitted : ℕ) → spooled ≡ true
      → old.kept ≡ [] → new ≡ record old { kept = bodies; admitted = admitted }
      → Agrees old spooled closed p s g
      → Agrees new spooled closed p (read_from bodies s) g
  read-step closed bodies admitted is none e a =
      let few : old.turn ≢ idle → old.size ≤ 0 =
      λ busy. omega (arith, a.within busy, ap length none) in
      subst (λ desk. Agrees desk spooled closed p (read_from bodies s) g) (sym e) (record {
        closed = a.closed;
        turn = a.turn;
        batch = λ c.
            a.batch c ∙ batch-none old.turn old.size old.kept few
            ∙ sym (batch-none old.turn old.size bodies few);
        within = λ busy. omega (arith, few busy);
        none = λ c. absurd (true-false (sym is ∙ (a.none c).0));
        adds_up =
            subst (λ b. AddsUp (came_of b p (read_from bodies s)) (read_from bodies s) (given_up g)
            bodies) (sym is)
            (λ f.
            omega (
              arith,
              subst (λ b. AddsUp (came_of b p s) s (given_up g) old.kept) is a.adds_up f,
              ap (sum_by f) none,
              sum_by-append f s.read bodies,
            ));
      })

  -- The spool was opened again, and what the desk had is to be read again.
  pub return-step : (closed : Bool) → spooled ≡ true → new.kept ≡ [] → new.turn ≡ idle
      → Agrees old spooled closed p s g
      → Agrees new spooled closed p (returned_from old.kept s) g
  return-step closed is none turn a = record {
    closed = a.closed;
    turn = λ c. sym turn;
    batch = λ c. sym (ap (λ t. batch_by t (last_batch new)) turn);
    within = λ busy. absurd (busy turn);
    none = λ c. absurd (true-false (sym is ∙ (a.none c).0));
    adds_up = λ f.
        omega (
          arith,
          a.adds_up f,
          ap (sum_by f) none,
          sum_by-append f s.returned old.kept,
        );
  }

-- All bodies are given up.
pub close-step : (old new : BodyDesk) (closed : Bool) (p : List (List ℕ)) (s : Sent)
    (g : Option (List (List ℕ))) → new.kept ≡ [] → new.turn ≡ idle
    → Agrees old false closed p s g
    → Agrees new false true p s (Some (given_up g ++ old.kept))
close-step old new closed p s g none turn a = record {
  closed = refl;
  turn = λ c. absurd (true-false c);
  batch = λ c. absurd (true-false c);
  within = λ busy. absurd (busy turn);
  none = λ c. (refl, none, turn);
  adds_up = λ f.
      omega (
        arith,
        a.adds_up f,
        ap (sum_by f) none,
        sum_by-append f (given_up g) old.kept,
      );
}

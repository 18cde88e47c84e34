-- What one more step of a pass does to what the lock keeps of tickets, of late spans and of names,
-- with how that begins and how it ends.
use Rattle.std.proofs.Common.{◌≡◌, ℕ, ◌+◌, ◌-◌, ◌^◌, ◌<◌, ◌≤◌, Bool, true, false, List, [], ◌∷◌}
use Rattle.std.proofs.Common.{◌++◌, length, sym, refl, ap, ◌∙◌, subst, arith}
use Rattle.std.specs.Prelude.{IsPermutation, map, ◌==◌, ◌||◌, nat_lt}
use Rattle.std.specs.List.{AllByRecursion}
use Rattle.std.proofs.lemmas.List.{append-nil, length-append, map-append}
use Rattle.std.proofs.lemmas.List.Sorted.{IsPermutation-refl, IsPermutation-sym}
use Rattle.std.proofs.lemmas.List.Sorted.{IsPermutation-trans, IsPermutation-append_right}
use Rattle.std.proofs.lemmas.List.Sorted.{length_permutation}
use Rattle.account_book.specs.Accounts.{Closes, Replaces}
use Rattle.account_book.proofs.Facts.{each_append, each_at, each_closed, each_map, each_replaced}
use Rattle.account_book.proofs.Facts.{each_same, gathered_all, gathered_replaced, nothing_of}
use Rattle.account_book.proofs.Facts.{sum_all, sum_replaced, zero_of}
use Rattle.model_span.specs.Dropped.{Entry}
use Rattle.model_desk.specs.Desks.{DropCounts, capped, drop_counts}
use Rattle.model_processor.specs.Passes.{PassAccount, Rises, SpanEnd, all_tickets, late_count}
use Rattle.model_processor.specs.Passes.{new_account, shutdown_count, ticket_of, tickets}
use Rattle.model_processor.specs.PassClauses.{CountsLate, GivesTickets, NamesDrops, NamesLosses}
use Rattle.model_processor.specs.PassClauses.{numbers_below}
use Rattle.model_processor.proofs.PassLists.{below-more, counts_same, names_more, rises-append}
use Rattle.model_processor.proofs.PassLists.{same_more, still-below}

-- ---- tickets

-- What a pass is answered new: of spans that ended, from this ticket on.
pub record News (next next' : ℕ) (es : List SpanEnd) : Type 0 where
  pub grows : next ≤ next'
  pub numbers : numbers_below next' ≡ numbers_below next ++ map ticket_of es
  pub rise : Rises (map ticket_of es)
  pub from : AllByRecursion (λ t. next ≤ t) (map ticket_of es)
  pub upto : AllByRecursion (λ t. t < next') (map ticket_of es)

-- No ticket is new where no span ended.
pub no_news : (next : ℕ) → News next next []
no_news next = record {
  grows = omega arith;
  numbers = sym (append-nil (numbers_below next));
  rise = tt;
  from = tt;
  upto = tt;
}

-- One span that ends under the next ticket is all that is new.
pub one_news : (next : ℕ) (e : SpanEnd) → ticket_of e ≡ next → News next (next + 1) (e ∷ [])
one_news next e is = record {
  grows = omega arith;
  numbers = below-more next ∙ ap (λ (n : ℕ). numbers_below next ++ n ∷ []) (sym is);
  rise = (tt, tt);
  from = (omega arith, tt);
  upto = (omega arith, tt);
}

module _ (next next' : ℕ) (es : List SpanEnd) (n : News next next' es) (old new : List PassAccount)
    (a b : PassAccount) (r : Replaces old a b new) (ends : b.ends ≡ a.ends ++ es)
    (k : GivesTickets next old) where
  tickets_is : tickets b ≡ tickets a ++ map ticket_of es
  tickets_is = ap (map ticket_of) ends ∙ map-append ticket_of a.ends es

  all_tickets_is : IsPermutation (all_tickets new) (all_tickets old ++ map ticket_of es)
  all_tickets_is = gathered_replaced tickets old a b new (map ticket_of es) r tickets_is

  -- Tickets are given once and rise still where a pass gets new ones from the next ticket on.
  pub gives_step : GivesTickets next' new
  gives_step =
      let under =
      each_at
      (λ (x : PassAccount). AllByRecursion (λ t. t < next) (tickets x)) old a b new r k.below in
      let was = each_at (λ (x : PassAccount). Rises (tickets x)) old a b new r k.rising in
      record {
        given_once =
            subst (λ (ns : List ℕ). IsPermutation (all_tickets new) ns) (sym n.numbers)
            (same_more (all_tickets old) (all_tickets new) (map ticket_of es)
            (numbers_below next) all_tickets_is k.given_once);
        below =
            each_replaced
            (λ (x : PassAccount). AllByRecursion (λ t. t < next') (tickets x)) old a b new r
            (each_map (λ (x : PassAccount). AllByRecursion (λ t. t < next) (tickets x))
            (λ (x : PassAccount). AllByRecursion (λ t. t < next') (tickets x)) old
            (λ x all. still-below (tickets x) next next' n.grows all) k.below)
            (subst (AllByRecursion (λ t. t < next')) (sym tickets_is)
            (each_append (λ t. t < next') (tickets a) (map ticket_of es)
            (still-below (tickets a) next next' n.grows under) n.upto));
        rising = each_replaced (λ (x : PassAccount). Rises (tickets x)) old a b new r k.rising
            (subst Rises (sym tickets_is)
            (rises-append (tickets a) (map ticket_of es) next was under n.rise n.from));
      }

-- New accounts have no tickets, and the next ticket is 0.
pub gives_new : (accounts : List PassAccount) → AllByRecursion (λ a. a ≡ new_account) accounts
    → GivesTickets 0 accounts
gives_new accounts all = record {
  given_once =
      subst (λ (ns : List ℕ). IsPermutation ns [])
      (sym (nothing_of new_account tickets refl accounts all)) (IsPermutation-refl []);
  below = each_same new_account _ tt accounts all;
  rising = each_same new_account _ tt accounts all;
}

-- The closed accounts have the tickets that the open ones had.
pub gives_closed : (next : ℕ) (old done : List PassAccount) → Closes old done []
    → GivesTickets next old → GivesTickets next done
gives_closed next old done c k = record {
  given_once =
      IsPermutation-trans (all_tickets done) (all_tickets old) (numbers_below next)
      (gathered_all tickets old done c) k.given_once;
  below = each_closed _ old done [] c k.below;
  rising = each_closed _ old done [] c k.rising;
}

-- ---- late spans

abbrev pub closed_by : ℕ → ℕ → Bool
closed_by next shutdowns = nat_lt 0 shutdowns || (next == 2 ^ 64 - 1)

-- A number is itself plus zero.
pub none_more : (n : ℕ) → n ≡ n + 0
none_more n = omega arith

open-is : (count n : ℕ) → false ≡ closed_by count n → nat_lt 0 n ≡ false
open-is count n is = or-none (nat_lt 0 n) (count == 2 ^ 64 - 1) is
  where
    or-none : (b d : Bool) → false ≡ (b || d) → b ≡ false
    or-none true d e = sym e
    or-none false d e = refl

-- A given ticket closes admission just where it is the last one, if there was no shutdown.
pub closes-last : (count n : ℕ) → false ≡ closed_by count n
    → (count + 1 == 2 ^ 64 - 1) ≡ closed_by (count + 1) n
closes-last count n is = rw (open-is count n is) refl

-- After a shutdown no span is admitted.
pub shut-closes : (count n : ℕ) → true ≡ closed_by count (n + 1)
shut-closes count n = grind (arith)

module _ (next next' late late' : ℕ) (closed closed' : Bool) (old new : List PassAccount)
    (a b : PassAccount) (r : Replaces old a b new) (k : CountsLate late next closed old) where
  -- The count of late spans, and whether spans are admitted, stay right after a step of one pass.
  pub late_step : (lates shuts : ℕ) → b.late ≡ a.late + lates → b.shutdowns ≡ a.shutdowns + shuts
      → ((n : ℕ) → late ≡ capped n → late' ≡ capped (n + lates))
      → ((n : ℕ) → (0 < n → closed ≡ true) → 0 < n + lates → closed' ≡ true)
      → ((n : ℕ) → closed ≡ closed_by next n → closed' ≡ closed_by next' (n + shuts))
      → CountsLate late' next' closed' new
  late_step lates shuts late_is shuts_is counted late_if closes =
      let l : late_count new ≡ late_count old + lates =
      let e = sum_replaced (λ (x : PassAccount). x.late) old a b new r in omega arith in
      let d : shutdown_count new ≡ shutdown_count old + shuts =
      let e = sum_replaced (λ (x : PassAccount). x.shutdowns) old a b new r in omega arith in
      record {
        counted = counted (late_count old) k.counted ∙ ap capped (sym l);
        late_if_closed = λ some. late_if (late_count old) k.late_if_closed (omega arith);
        closed_is = closes (shutdown_count old) k.closed_is ∙ ap (closed_by next') (sym d);
      }

-- New accounts count no late span, and spans are admitted.
pub late_new : (accounts : List PassAccount) → AllByRecursion (λ a. a ≡ new_account) accounts
    → CountsLate 0 0 false accounts
late_new accounts all = record {
  counted = ap capped (sym (zero_of new_account (λ (a : PassAccount). a.late) refl accounts all));
  late_if_closed =
      λ some. absurd
      (let e = zero_of new_account (λ (a : PassAccount). a.late) refl accounts all in omega arith);
  closed_is =
      ap (closed_by 0)
      (sym (zero_of new_account (λ (a : PassAccount). a.shutdowns) refl accounts all));
}

-- The closed accounts count the late spans that the open ones counted.
pub late_closed : (late next : ℕ) (closed : Bool) (old done : List PassAccount) → Closes old done []
    → CountsLate late next closed old → CountsLate late next closed done
late_closed late next closed old done c k = record {
  counted = k.counted ∙ ap capped (sum_all (λ (a : PassAccount). a.late) old done c);
  late_if_closed =
      λ some.
      k.late_if_closed (let e = sum_all (λ (a : PassAccount). a.late) old done c in omega arith);
  closed_is =
      k.closed_is ∙ ap (closed_by next) (sum_all (λ (a : PassAccount). a.shutdowns) old done c);
}

-- ---- names of dropped spans

-- Dropped spans stay named and counted where some more are dropped and named, and some are popped.
pub names_step : (ledger ledger' : List Entry) (counts counts' : DropCounts)
    (dropped dropped' popped popped' ds ps : List Entry)
    → IsPermutation dropped' (dropped ++ ds) → IsPermutation popped' (popped ++ ps)
    → IsPermutation (ds ++ ledger) (ledger' ++ ps)
    → counts' ≡ drop_counts (dropped ++ ds) → NamesDrops ledger counts dropped popped
    → NamesDrops ledger' counts' dropped' popped'
names_step ledger ledger' counts counts' dropped dropped' popped popped' ds ps more gone step
    counted k =
    record {
      named =
          names_more dropped dropped' ds ledger ledger' popped popped' ps more gone k.named step;
      counted = counted ∙ counts_same dropped' (dropped ++ ds) more;
    }

-- Lost spans stay named and counted where some more are lost and named, and some are popped.
pub losses_step : (ledger ledger' : List Entry) (count count' : ℕ)
    (lost lost' popped popped' ds ps : List Entry)
    → IsPermutation lost' (lost ++ ds) → IsPermutation popped' (popped ++ ps)
    → IsPermutation (ds ++ ledger) (ledger' ++ ps)
    → count' ≡ count + length ds → NamesLosses ledger count lost popped
    → NamesLosses ledger' count' lost' popped'
losses_step ledger ledger' count count' lost lost' popped popped' ds ps more gone step counted k =
    record {
      named = names_more lost lost' ds ledger ledger' popped popped' ps more gone k.named step;
      counted =
          counted ∙ ap (λ (n : ℕ). n + length ds) k.counted ∙ sym (length-append lost ds)
          ∙ length_permutation lost' (lost ++ ds) more;
    }

-- The lost spans stay named where the popped entries are in another order.
pub losses_same : (ledger : List Entry) (count : ℕ) (lost popped popped' : List Entry)
    → IsPermutation popped' popped → NamesLosses ledger count lost popped
    → NamesLosses ledger count lost popped'
losses_same ledger count lost popped popped' out k = record {
  named =
      IsPermutation-trans lost (ledger ++ popped) (ledger ++ popped') k.named
      (IsPermutation-append_right ledger popped popped' (IsPermutation-sym popped' popped out));
  counted = k.counted;
}

-- The dropped spans stay named where they and the popped entries are in another order.
pub names_same : (ledger : List Entry) (counts : DropCounts)
    (dropped dropped' popped popped' : List Entry)
    → IsPermutation dropped' dropped → IsPermutation popped' popped
    → NamesDrops ledger counts dropped popped → NamesDrops ledger counts dropped' popped'
names_same ledger counts dropped dropped' popped popped' same out k = record {
  named =
      IsPermutation-trans dropped' dropped (ledger ++ popped') same
      (IsPermutation-trans dropped (ledger ++ popped) (ledger ++ popped') k.named
      (IsPermutation-append_right ledger popped popped' (IsPermutation-sym popped' popped out)));
  counted = k.counted ∙ counts_same dropped' dropped same;
}

-- How the accounts of a processor begin and end.
use Rattle.std.proofs.Common.{◌≡◌, ℕ, ◌+◌, ◌≤◌, List, [], ◌∷◌, ◌++◌, length, sym, refl, ap, ◌∙◌}
use Rattle.std.proofs.Common.{subst, arith}
use Rattle.std.specs.Prelude.{IsPermutation, Option, Some, None, OnSome, map, drop}
use Rattle.std.specs.List.{AllByRecursion}
use Rattle.std.proofs.lemmas.List.{nil_from_length, drop_at}
use Rattle.std.proofs.lemmas.List.Sorted.{IsPermutation-refl, IsPermutation-trans}
use Rattle.std.proofs.lemmas.List.Sorted.{IsPermutation-map, length_permutation}
use Rattle.model_span.specs.Dropped.{Entry}
use Rattle.model_desk.specs.Desks.{drop_counts, fate_counts}
use Rattle.drop_ledger.specs.Counts.{drop_counts_view}
use Rattle.batch_desk.specs.Views.{fate_counts_view}
use Rattle.batch_desk.specs.declared.totals.Totals.{Totals}
use Rattle.span_exporter.specs.Handed.{Handed, Gains}
use Rattle.account_book.specs.Accounts.{Replaces, Removes, Closes}
use Rattle.account_book.proofs.Facts.{each_closed, each_removed, each_same, gathered_all}
use Rattle.account_book.proofs.Facts.{length_removed, nothing_of, part_kept}
use Rattle.model_processor.specs.Passes.{PassAccount, accepted_spans, all_accepted, all_dropped}
use Rattle.model_processor.specs.Passes.{all_popped, all_popped_lost, dropped_entries, drops}
use Rattle.model_processor.specs.Passes.{new_account}
use Rattle.model_processor.specs.PassClauses.{CountsLate, GivesTickets, NamesDrops}
use Rattle.model_processor.proofs.Holders.{first_set, new_passes, of_passes}
use Rattle.model_processor.proofs.PassSteps.{gives_closed, gives_new, late_closed, late_new}
use Rattle.model_processor.proofs.PassSteps.{losses_same, names_same}
use Rattle.simple_processor.specs.Bodies.{Fits, Handing, LacksItsBody, LossesAreTold, attempt_in}
use Rattle.simple_processor.specs.Bodies.{attempt_of_span, fates_of, losses_of, told_since}
use Rattle.simple_processor.specs.ExportStates.{State, drops_in, new_state, ticket_count}
use Rattle.simple_processor.specs.AnyAccounts.{Origin, AnyAccount, pass, pass_account}
use Rattle.simple_processor.specs.AnyAccounts.{pass_accounts, processor}
use Rattle.simple_processor.specs.Kept.{Agrees, IsAccountOf, IsOf, Kept, given_tickets}
use Rattle.simple_processor.proofs.Ends.{gains_nothing}

-- ---- the beginning

agrees_new : (had : Option (List Handed)) (max_body : ℕ) (accounts : List PassAccount)
    → AllByRecursion (λ a. a ≡ new_account) accounts → Agrees had had (new_state max_body) accounts
agrees_new had max_body accounts all = record {
  bodies = [];
  gains = gains_nothing had had refl;
  fits = tt;
  sent =
      subst (λ (spans : List _). IsPermutation (map attempt_of_span spans) [])
      (sym (nothing_of new_account accepted_spans refl accounts all)) (IsPermutation-refl []);
  fates = refl;
  handed = ap length (sym (nothing_of new_account accepted_spans refl accounts all));
  tickets = gives_new accounts all;
  names = record {
    named =
        rw (
          nothing_of new_account dropped_entries refl accounts all,
          nothing_of new_account (λ (a : PassAccount). a.popped) refl accounts all,
        ) (IsPermutation-refl []);
    counted = ap drop_counts (sym (nothing_of new_account dropped_entries refl accounts all));
  };
  losses = record {
    handings = [];
    spans =
        subst (λ (spans : List _). IsPermutation spans [])
        (sym (nothing_of new_account accepted_spans refl accounts all)) (IsPermutation-refl []);
    told = record { attempts = refl; outcomes = refl };
    names = record {
      named =
          rw (nothing_of new_account (λ (a : PassAccount). a.popped_lost) refl accounts all)
          (IsPermutation-refl []);
      counted = refl;
    };
  };
  lacking = each_same new_account _ tt accounts all;
  late = late_new accounts all;
}

-- What the lock guards of a new processor agrees with its account and those of its unused passes.
pub kept_new : (origin : Origin) (holders opened : List AnyAccount)
    → holders ≡ processor origin ∷ opened → length opened ≤ origin.passes
    → AllByRecursion (λ h. h ≡ pass new_account) opened
    → Kept origin origin.had (new_state origin.max_body) holders
kept_new origin holders opened is few all =
    subst (λ (hs : List AnyAccount). Kept origin origin.had (new_state origin.max_body) hs) (sym is)
    (record {
      few = omega arith;
      origins = (refl, of_passes origin opened all);
      max_body = refl;
      agrees =
          agrees_new origin.had origin.max_body (pass_accounts opened) (new_passes opened all);
    })

-- What the lock guards of a new processor agrees with a book in which its account was opened and
-- set, and then those of its passes.
pub kept_begins : (origin : Origin) (told : Option (List Handed)) (s : State)
    (empty one recorded holders opened : List AnyAccount) (u w : AnyAccount)
    → told ≡ origin.had → s ≡ new_state origin.max_body → empty ≡ []
    → one ≡ empty ++ pass new_account ∷ [] → Replaces one u w recorded → w ≡ processor origin
    → holders ≡ recorded ++ opened
    → length opened ≤ origin.passes → AllByRecursion (λ h. h ≡ pass new_account) opened
    → Kept origin told s holders
kept_begins origin told s empty one recorded holders opened u w told_is s_is none one_is r w_is is
    few all =
    let whole : holders ≡ processor origin ∷ opened =
    is
    ∙ ap (λ (hs : List AnyAccount). hs ++ opened)
    (first_set empty one recorded (pass new_account) u w (processor origin) none one_is r w_is) in
    subst (λ o. Kept origin o s holders) (sym told_is)
    (subst (λ (x : State). Kept origin origin.had x holders) (sym s_is)
    (kept_new origin holders opened whole few all))

-- ---- the end

agrees_closed : (had told : Option (List Handed)) (s : State) (old done : List PassAccount)
    → Agrees had told s old → Closes old done [] → Agrees had told s done
agrees_closed had told s old done k c =
    let spans = gathered_all accepted_spans old done c in
    let names = gathered_all dropped_entries old done c in
    record {
      bodies = k.bodies;
      gains = k.gains;
      fits = k.fits;
      sent =
          IsPermutation-trans (map attempt_of_span (all_accepted done))
          (map attempt_of_span (all_accepted old)) (map attempt_in k.bodies)
          (IsPermutation-map attempt_of_span (all_accepted done) (all_accepted old) spans) k.sent;
      fates = k.fates;
      handed = k.handed ∙ length_permutation (all_accepted done) (all_accepted old) spans;
      tickets = gives_closed (ticket_count s) old done c k.tickets;
      names =
          names_same s.ledger (drops_in s) (all_dropped old) (all_dropped done) (all_popped old)
          (all_popped done) names (gathered_all (λ (a : PassAccount). a.popped) old done c) k.names;
      losses = record {
        handings = k.losses.handings;
        spans =
            IsPermutation-trans (all_accepted done) (all_accepted old)
            (map (λ (x : Handing). x.span) k.losses.handings) spans k.losses.spans;
        told = k.losses.told;
        names =
            losses_same s.lost s.lost_count (losses_of k.losses.handings) (all_popped_lost old)
            (all_popped_lost done)
            (gathered_all (λ (a : PassAccount). a.popped_lost) old done c) k.losses.names;
      };
      lacking = each_closed _ old done [] c k.lacking;
      late = late_closed s.late (ticket_count s) s.closed old done c k.late;
    }

-- the processor's own account is closed, and then those of all its passes
module _ (origin said : Origin) (told : Option (List Handed)) (s : State)
    (all rest left : List AnyAccount) (done : List PassAccount) (k : Kept origin told s all)
    (r : Removes all (processor said) rest)
    (c : Closes (pass_accounts rest) done (pass_accounts left))
    (counted : length rest ≡ length left + length done) (enough : said.passes ≤ length done) where
  -- The processor's account says what the processor began with.
  pub said_is : said ≡ origin
  said_is = (each_removed (IsOf origin) all (processor said) rest r k.origins).0

  -- No account is left once the processor's and those of all passes are closed.
  pub none_left : left ≡ []
  none_left =
      let few = k.few in
      let one = length_removed all (processor said) rest r in
      let e = ap (λ (o : Origin). o.passes) said_is in
      nil_from_length left (omega arith)

  -- The greatest body is the one that the processor began with.
  pub max_end : s.max_body ≡ said.max_body
  max_end = k.max_body ∙ ap (λ (o : Origin). o.max_body) (sym said_is)

  -- What the lock guards agrees with the closed accounts of the passes.
  pub agrees_end : Agrees said.had told s done
  agrees_end =
      let whole : Closes (pass_accounts all) done [] =
      subst (λ (xs : List PassAccount). Closes xs done [])
      (part_kept pass_account all (processor said) rest r refl)
      (subst (λ (hs : List AnyAccount). Closes (pass_accounts rest) done (pass_accounts hs))
      none_left c) in
      subst (λ (o : Origin). Agrees o.had told s done) (sym said_is)
      (agrees_closed origin.had told s (pass_accounts all) done k.agrees whole)

-- ---- what is reported in the end

since_is : (h bodies : List Handed) → drop (length h) (h ++ bodies) ≡ bodies
since_is h bodies = drop_at h bodies (length h) refl

-- An exporter has gained the attempts that it shows since the processor was made.
pub keeps : (had told : Option (List Handed)) (bodies : List Handed) → Gains bodies had told
    → Gains (told_since had told) had told
keeps None told bodies g = g
keeps (Some h) told bodies g =
    subst (λ o. Gains (told_since (Some h) o) (Some h) o) (sym g)
    (ap (λ (xs : List Handed). Some (h ++ xs)) (sym (since_is h bodies)))

-- A fact of the attempts is true of those that an exporter shows, where it shows its attempts.
pub on_told : (P : List Handed → Type 0) (had told : Option (List Handed)) (bodies : List Handed)
    → Gains bodies had told → P bodies → OnSome told (P (told_since had told))
on_told P None told bodies g p = subst (λ o. OnSome o (P (told_since None o))) (sym g) tt
on_told P (Some h) told bodies g p =
    subst (λ o. OnSome o (P (told_since (Some h) o))) (sym g) (subst P (sym (since_is h bodies)) p)

module _ (origin : Origin) (told : Option (List Handed)) (t : Totals) (ledger lost : List Entry)
    (accounts : List PassAccount) (x : IsAccountOf origin told t ledger lost accounts) where
  abbrev had : Option (List Handed)
  had = origin.had

  count_is : ticket_count x.state ≡ given_tickets t
  count_is =
      let a = x.totals.handed in
      let b = ap (λ d. d.encode_memory) x.totals.dropped in
      let m = ap (λ d. d.too_large) x.totals.dropped in
      omega arith

  -- An exporter that shows its attempts has one for each span that the passes know as handed.
  pub spans_are : OnSome told
      (IsPermutation (map attempt_of_span (all_accepted accounts))
      (map attempt_in (told_since had told)))
  spans_are =
      on_told (λ bodies.
      IsPermutation (map attempt_of_span (all_accepted accounts)) (map attempt_in bodies))
      had told x.agrees.bodies x.agrees.gains x.agrees.sent

  -- The totals count each attempt of the exporter by how it ended.
  pub fates_are : OnSome told
      (fate_counts_view t.fates ≡ fate_counts (fates_of (told_since had told)))
  fates_are =
      on_told (λ bodies. fate_counts_view t.fates ≡ fate_counts (fates_of bodies)) had told
      x.agrees.bodies x.agrees.gains
      (x.totals.fates ∙ x.agrees.fates)

  -- No body that the exporter shows is longer than it may be.
  pub fits_are : OnSome told (AllByRecursion (Fits origin.max_body) (told_since had told))
  fits_are =
      on_told (AllByRecursion (Fits origin.max_body)) had told x.agrees.bodies x.agrees.gains
      (subst (λ (most : ℕ). AllByRecursion (Fits most) x.agrees.bodies) x.max_body x.agrees.fits)

  -- Each dropped span has no body alone, or one that would be longer than it may be.
  pub lacking_are : AllByRecursion
      (λ (a : PassAccount). AllByRecursion (LacksItsBody origin.max_body) (drops a)) accounts
  lacking_are =
      subst (λ (most : ℕ).
      AllByRecursion (λ (a : PassAccount). AllByRecursion (LacksItsBody most) (drops a)) accounts)
      x.max_body x.agrees.lacking

  -- The tickets that the passes were given are just those that the totals count.
  pub tickets_are : GivesTickets (given_tickets t) accounts
  tickets_are = subst (λ (n : ℕ). GivesTickets n accounts) count_is x.agrees.tickets

  -- The ledger and the popped entries name each dropped span, and the totals count them.
  pub names_are : NamesDrops ledger (drop_counts_view t.dropped) (all_dropped accounts)
      (all_popped accounts)
  names_are = rw (x.ledger_is, x.totals.dropped) x.agrees.names

  -- The second ledger and the popped entries name each lost span, and the totals count them.
  pub losses_are : OnSome told
      (LossesAreTold (told_since had told) (all_accepted accounts) lost t.lost
      (all_popped_lost accounts))
  losses_are =
      on_told (λ bodies.
      LossesAreTold bodies (all_accepted accounts) lost t.lost (all_popped_lost accounts))
      had told x.agrees.bodies x.agrees.gains
      (rw (x.lost_is, x.totals.lost) x.agrees.losses)

  -- The totals count the late spans of all passes, which came where none was admitted.
  pub late_are : CountsLate t.late (given_tickets t) t.closed accounts
  late_are =
      subst (λ (n : ℕ). CountsLate t.late n t.closed accounts) count_is
      (rw (x.totals.late, x.totals.closed) x.agrees.late)

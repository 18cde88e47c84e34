-- One more step of a pass, and what the lock keeps.
use Rattle.std.proofs.Common.{◌≡◌, ℕ, ◌+◌, ◌<◌, true, List, ◌++◌, length, sym, refl, ap, ◌∙◌, subst}
use Rattle.std.proofs.Common.{arith}
use Rattle.std.specs.List.{AllByRecursion}
use Rattle.std.specs.Prelude.{IsPermutation, Option, Some, None, map, filter_map, option_map}
use Rattle.std.proofs.lemmas.List.{append_assoc, length-append, map-append}
use Rattle.std.proofs.lemmas.Grind.{flat_map-append}
use Rattle.std.proofs.lemmas.List.Elements.{filter_map-append}
use Rattle.std.proofs.lemmas.List.Sorted.{IsPermutation-append_left, IsPermutation-refl}
use Rattle.std.proofs.lemmas.List.Sorted.{IsPermutation-trans, length_permutation}
use Rattle.model_span.specs.Spans.{SpanData}
use Rattle.model_span.specs.Dropped.{Entry}
use Rattle.model_desk.specs.Desks.{capped, drop_counts, fate_counts}
use Rattle.span_exporter.specs.Handed.{Handed, Gains}
use Rattle.account_book.specs.Accounts.{Replaces}
use Rattle.account_book.proofs.Facts.{length_replaced, gathered_replaced, each_append, each_at}
use Rattle.account_book.proofs.Facts.{each_replaced, part_replaced, replaces_told}
use Rattle.model_processor.specs.Passes.{SpanEnd, PassAccount, accepted_span, accepted_spans}
use Rattle.model_processor.specs.Passes.{all_accepted, all_dropped, all_popped, all_popped_lost}
use Rattle.model_processor.specs.Passes.{drop_in, dropped_entries, dropped_entry, drops}
use Rattle.model_processor.proofs.PassSteps.{News, closed_by, gives_step, late_step, losses_step}
use Rattle.model_processor.proofs.PassSteps.{names_step}
use Rattle.simple_processor.specs.Bodies.{AreTold, Fits, Handing, LacksItsBody, LossesAreTold}
use Rattle.simple_processor.specs.Bodies.{attempt_in, attempt_of_span, fates_of, lost_by_attempt}
use Rattle.simple_processor.specs.Bodies.{losses_of}
use Rattle.simple_processor.specs.ExportStates.{State, drops_in, ticket_count}
use Rattle.simple_processor.specs.AnyAccounts.{Origin, AnyAccount, account_in, on_pass, pass}
use Rattle.simple_processor.specs.AnyAccounts.{pass_account, pass_accounts}
use Rattle.simple_processor.specs.Kept.{Agrees, IsOf, IsShared, Kept}
use Rattle.simple_processor.proofs.Lists.{images_more}

-- What a step of one pass does to what the lock guards, to what the exporter shows and to the
-- pass's account: the parts that are more, and how each total goes on.
pub record Step (told told' : Option (List Handed)) (s s' : State)
    (a b : PassAccount) : Type 0 where
  pub es : List SpanEnd
  pub ps : List Entry
  pub ls : List Entry
  pub handings : List Handing
  pub bodies : List Handed
  pub lates : ℕ
  pub shuts : ℕ
  pub ends : b.ends ≡ a.ends ++ es
  pub popped : b.popped ≡ a.popped ++ ps
  pub popped_lost : b.popped_lost ≡ a.popped_lost ++ ls
  pub late : b.late ≡ a.late + lates
  pub shutdowns : b.shutdowns ≡ a.shutdowns + shuts
  pub gains : Gains bodies told told'
  pub sent : map attempt_of_span (filter_map accepted_span es) ≡ map attempt_in bodies
  pub handed_spans : filter_map accepted_span es ≡ map (λ (x : Handing). x.span) handings
  pub as_told : AreTold handings bodies
  pub lost : IsPermutation (losses_of handings ++ s.lost) (s'.lost ++ ls)
  pub lost_counted : s'.lost_count ≡ s.lost_count + length (losses_of handings)
  pub fates : (had : List Handed) → s.fates ≡ fate_counts (fates_of had)
      → s'.fates ≡ fate_counts (fates_of (had ++ bodies))
  pub handed : s'.handed ≡ s.handed + length (filter_map accepted_span es)
  pub news : News (ticket_count s) (ticket_count s') es
  pub names : IsPermutation (filter_map dropped_entry es ++ s.ledger) (s'.ledger ++ ps)
  pub dropped : (had : List Entry) → drop_counts had ≡ drops_in s
      → drop_counts (had ++ filter_map dropped_entry es) ≡ drops_in s'
  pub max_body : s'.max_body ≡ s.max_body
  pub fits : AllByRecursion (Fits s.max_body) bodies
  pub lacking : AllByRecursion (LacksItsBody s.max_body) (filter_map drop_in es)
  pub counted : (n : ℕ) → s.late ≡ capped n → s'.late ≡ capped (n + lates)
  pub late_if_closed : (n : ℕ) → (0 < n → s.closed ≡ true) → 0 < n + lates → s'.closed ≡ true
  pub closed : (n : ℕ) → s.closed ≡ closed_by (ticket_count s) n
      → s'.closed ≡ closed_by (ticket_count s') (n + shuts)

-- An exporter that gains some attempts and then others gains both.
pub gains_more : (xs ys : List Handed) (a b d : Option (List Handed)) → Gains xs a b → Gains ys b d
    → Gains (xs ++ ys) a d
gains_more xs ys None b d first then =
    then ∙ ap (option_map (λ (had : List Handed). had ++ ys)) first
gains_more xs ys (Some had) b d first then =
    then ∙ ap (option_map (λ (all : List Handed). all ++ ys)) first
    ∙ ap Some (append_assoc had xs ys)

-- The lost spans are named and counted again after more are handed, lost or popped.
losses_more : (bodies new_bodies : List Handed) (accepted accepted' more : List SpanData)
    (lost lost' : List Entry) (count count' : ℕ) (popped popped' ls : List Entry)
    (handings : List Handing)
    → IsPermutation accepted' (accepted ++ more) → more ≡ map (λ (x : Handing). x.span) handings
    → AreTold handings new_bodies → IsPermutation (losses_of handings ++ lost) (lost' ++ ls)
    → count' ≡ count + length (losses_of handings)
    → IsPermutation popped' (popped ++ ls) → LossesAreTold bodies accepted lost count popped
    → LossesAreTold (bodies ++ new_bodies) accepted' lost' count' popped'
losses_more bodies new_bodies accepted accepted' more lost lost' count count' popped popped' ls
    handings grown spans told step counted gone k =
    let span : Handing → SpanData = λ (x : Handing). x.span in
    let both : IsPermutation (accepted ++ more) (map span k.handings ++ more) =
    IsPermutation-append_left more accepted (map span k.handings) k.spans in
    record {
      handings = k.handings ++ handings;
      spans =
          subst (λ (ss : List SpanData). IsPermutation accepted' ss)
          (ap (λ (ss : List SpanData). map span k.handings ++ ss) spans
          ∙ sym (map-append span k.handings handings))
          (IsPermutation-trans accepted' (accepted ++ more)
          (map span k.handings ++ more) grown both);
      told = record {
        attempts =
            map-append (λ (x : Handing). attempt_of_span x.span) k.handings handings
            ∙ (λ i. k.told.attempts i ++ told.attempts i)
            ∙ sym (map-append attempt_in bodies new_bodies);
        outcomes =
            map-append (λ (x : Handing). x.outcome) k.handings handings
            ∙ (λ i. k.told.outcomes i ++ told.outcomes i)
            ∙ sym (map-append (λ (h : Handed). h.outcome) bodies new_bodies);
      };
      names =
          losses_step lost lost' count count' (losses_of k.handings)
          (losses_of (k.handings ++ handings)) popped popped' (losses_of handings) ls
          (subst
          (λ (es : List Entry). IsPermutation es (losses_of k.handings ++ losses_of handings))
          (sym (flat_map-append lost_by_attempt k.handings handings))
          (IsPermutation-refl (losses_of k.handings ++ losses_of handings)))
          gone step counted k.names;
    }

module _ (had told told' : Option (List Handed)) (s s' : State) (old new : List PassAccount)
    (a b : PassAccount) (r : Replaces old a b new) (k : Agrees had told s old)
    (st : Step told told' s s' a b) where
  accepted_is : accepted_spans b ≡ accepted_spans a ++ filter_map accepted_span st.es
  accepted_is = ap (filter_map accepted_span) st.ends ∙ filter_map-append accepted_span a.ends st.es

  dropped_is : dropped_entries b ≡ dropped_entries a ++ filter_map dropped_entry st.es
  dropped_is = ap (filter_map dropped_entry) st.ends ∙ filter_map-append dropped_entry a.ends st.es

  all_accepted_is : IsPermutation (all_accepted new)
      (all_accepted old ++ filter_map accepted_span st.es)
  all_accepted_is =
      gathered_replaced accepted_spans old a b new (filter_map accepted_span st.es) r accepted_is

  all_dropped_is : IsPermutation (all_dropped new)
      (all_dropped old ++ filter_map dropped_entry st.es)
  all_dropped_is =
      gathered_replaced dropped_entries old a b new (filter_map dropped_entry st.es) r dropped_is

  all_popped_is : IsPermutation (all_popped new) (all_popped old ++ st.ps)
  all_popped_is = gathered_replaced (λ (x : PassAccount). x.popped) old a b new st.ps r st.popped

  all_popped_lost_is : IsPermutation (all_popped_lost new) (all_popped_lost old ++ st.ls)
  all_popped_lost_is =
      gathered_replaced (λ (x : PassAccount). x.popped_lost) old a b new st.ls r st.popped_lost

  losses_is : LossesAreTold (k.bodies ++ st.bodies) (all_accepted new) s'.lost s'.lost_count
      (all_popped_lost new)
  losses_is =
      losses_more k.bodies st.bodies (all_accepted old) (all_accepted new)
      (filter_map accepted_span st.es) s.lost s'.lost s.lost_count s'.lost_count
      (all_popped_lost old) (all_popped_lost new) st.ls st.handings
      all_accepted_is st.handed_spans st.as_told st.lost st.lost_counted all_popped_lost_is k.losses

  count_is : length (all_accepted new)
      ≡ length (all_accepted old) + length (filter_map accepted_span st.es)
  count_is =
      sym (length_permutation (all_accepted new)
      (all_accepted old ++ filter_map accepted_span st.es) all_accepted_is)
      ∙ length-append (all_accepted old) (filter_map accepted_span st.es)

  abbrev Lack : ℕ → PassAccount → Type 0
  Lack most x = AllByRecursion (LacksItsBody most) (drops x)

  drops_are : drops b ≡ drops a ++ filter_map drop_in st.es
  drops_are = ap (filter_map drop_in) st.ends ∙ filter_map-append drop_in a.ends st.es

  lacking_is : AllByRecursion (Lack s.max_body) new
  lacking_is =
      each_replaced (Lack s.max_body) old a b new r k.lacking
      (subst (AllByRecursion (LacksItsBody s.max_body)) (sym drops_are)
      (each_append (LacksItsBody s.max_body) (drops a) (filter_map drop_in st.es)
      (each_at (Lack s.max_body) old a b new r k.lacking) st.lacking))

  -- What the lock guards agrees with the accounts again after a step of one pass.
  pub agrees_step : Agrees had told' s' new
  agrees_step = record {
    bodies = k.bodies ++ st.bodies;
    gains = gains_more k.bodies st.bodies had told told' k.gains st.gains;
    fits =
        subst (λ (most : ℕ). AllByRecursion (Fits most) (k.bodies ++ st.bodies)) (sym st.max_body)
        (each_append (Fits s.max_body) k.bodies st.bodies k.fits st.fits);
    sent =
        images_more attempt_of_span attempt_in (all_accepted old) (all_accepted new)
        (filter_map accepted_span st.es) k.bodies st.bodies all_accepted_is k.sent st.sent;
    fates = st.fates k.bodies k.fates;
    handed = let e = count_is in let f = st.handed in let h = k.handed in omega arith;
    tickets =
        gives_step (ticket_count s) (ticket_count s') st.es st.news old new a b r st.ends k.tickets;
    names =
        names_step s.ledger s'.ledger (drops_in s) (drops_in s') (all_dropped old) (all_dropped new)
        (all_popped old) (all_popped new)
        (filter_map dropped_entry st.es) st.ps all_dropped_is all_popped_is st.names
        (sym (st.dropped (all_dropped old) (sym k.names.counted))) k.names;
    losses = losses_is;
    lacking = subst (λ (most : ℕ). AllByRecursion (Lack most) new) (sym st.max_body) lacking_is;
    late =
        late_step (ticket_count s)
        (ticket_count s') s.late s'.late s.closed s'.closed old new a b r k.late st.lates st.shuts
        st.late st.shutdowns st.counted st.late_if_closed st.closed;
  }

-- What the lock keeps of all accounts is still so after a step of one pass.
pub kept_step : (origin : Origin) (told told' : Option (List Handed)) (s s' : State)
    (holders holders' : List AnyAccount) (a b : PassAccount)
    → Replaces holders (pass a) (pass b) holders' → Kept origin told s holders
    → Step told told' s s' a b → Kept origin told' s' holders'
kept_step origin told told' s s' holders holders' a b r k st = record {
  few =
      let e = length_replaced holders (pass a) (pass b) holders' r in let f = k.few in omega arith;
  origins = each_replaced (IsOf origin) holders (pass a) (pass b) holders' r k.origins tt;
  max_body = st.max_body ∙ k.max_body;
  agrees =
      agrees_step origin.had told told' s s' (pass_accounts holders) (pass_accounts holders') a b
      (part_replaced pass_account holders (pass a) (pass b) holders' a b r refl refl) k.agrees st;
}

-- What the lock keeps of all accounts is so while it guards something.
pub kept_of : {D : Type 0} (told : D → Option (List Handed)) (state : D → State) (origin : Origin)
    (o : Option D) (export : D) (holders : List AnyAccount)
    → IsShared told state origin o holders → o ≡ Some export
    → Kept origin (told export) (state export) holders
kept_of told state origin o export holders inv is =
    subst (λ x. IsShared told state origin x holders) is inv

-- What the lock keeps is still so after a step on an account that was recognized and changed.
pub kept_told : (origin : Origin) (told told' : Option (List Handed)) (s s' : State)
    (holders known holders' : List AnyAccount) (h known_h h' : AnyAccount)
    (f : PassAccount → PassAccount)
    → Kept origin told s holders → known ≡ holders → known_h ≡ h → h ≡ pass (account_in h)
    → Replaces known known_h h' holders' → h' ≡ on_pass f known_h
    → Step told told' s s' (account_in h) (f (account_in h)) → Kept origin told' s' holders'
kept_told origin told told' s s' holders known holders' h known_h h' f k same same_h is r changed
    st =
    let now : known_h ≡ pass (account_in h) = same_h ∙ is in
    let step =
    replaces_told holders known holders' known_h h' (pass (account_in h))
    (pass (f (account_in h))) same now (changed ∙ ap (on_pass f) now) r in
    kept_step origin told told' s s' holders holders' (account_in h) (f (account_in h)) step k st

-- The names that a sink is given, one after the other, and one turn after the other.
use Rattle.std.proofs.Common.{◌≡◌, List, [], ◌∷◌, ◌++◌, sym, refl, ap, ◌∙◌, subst}
use Rattle.std.specs.Prelude.{Option, Some, None, option_map}
use Rattle.std.proofs.lemmas.List.{append-nil, append_assoc}
use Rattle.model_span.specs.Dropped.{Entry}
use Rattle.model_processor.specs.Passes.{PassAccount, after_drain}
use Rattle.drop_ledger.specs.Named.{Named, no_names, with_dropped, with_lost}
use Rattle.batch_service.specs.Working.{GainsNames, GivesNames, both_names, dropped_names}
use Rattle.batch_service.specs.Working.{lost_names}

-- names with these after them
abbrev joined : Named → Named → Named
joined had more = record { dropped = had.dropped ++ more.dropped; lost = had.lost ++ more.lost }

join_none : (had : Named) → had ≡ joined had no_names
join_none had =
    sym (ap (λ (xs : List Entry). record { dropped = xs; lost = had.lost ++ [] })
    (append-nil had.dropped)
    ∙ ap (λ (ys : List Entry). record { dropped = had.dropped; lost = ys }) (append-nil had.lost))

join_assoc : (had a b : Named) → joined (joined had a) b ≡ joined had (joined a b)
join_assoc had a b =
    ap (λ (xs : List Entry). record { dropped = xs; lost = (had.lost ++ a.lost) ++ b.lost })
    (append_assoc had.dropped a.dropped b.dropped)
    ∙ ap
    (λ (ys : List Entry). record { dropped = had.dropped ++ (a.dropped ++ b.dropped); lost = ys })
    (append_assoc had.lost a.lost b.lost)

-- ---- no name, and one

-- A sink that is unchanged has gained no name.
pub gains_none : (told : Option Named) → GainsNames no_names told told
gains_none None = refl
gains_none (Some had) = ap Some (join_none had)

pops_none : (a : PassAccount) → a ≡ after_drain [] [] a
pops_none a =
    sym (ap (λ (xs : List Entry). record a { popped = xs; popped_lost = a.popped_lost ++ [] })
    (append-nil a.popped)
    ∙ ap (λ (ys : List Entry). record a { popped_lost = ys }) (append-nil a.popped_lost))

-- A pass and a sink that are unchanged have given no name.
pub gives_none : (told : Option Named) (account : PassAccount)
    → GivesNames told told account account
gives_none told account =
    record { more = no_names; gains = gains_none told; popped = pops_none account }

-- ---- two steps, one after the other

gains_more : (a b : Named) (x y z : Option Named) → GainsNames a x y → GainsNames b y z
    → GainsNames (joined a b) x z
gains_more a b None y z first second =
    second ∙ ap (option_map (λ (had : Named). joined had b)) first
gains_more a b (Some had) y z first second =
    second ∙ ap (option_map (λ (all : Named). joined all b)) first ∙ ap Some (join_assoc had a b)

pops_more : (a b : Named) (x : PassAccount)
    → after_drain b.dropped b.lost (after_drain a.dropped a.lost x)
    ≡ after_drain (a.dropped ++ b.dropped) (a.lost ++ b.lost) x
pops_more a b x =
    ap (λ (xs : List Entry).
    record x { popped = xs; popped_lost = (x.popped_lost ++ a.lost) ++ b.lost })
    (append_assoc x.popped a.dropped b.dropped)
    ∙ ap (λ (ys : List Entry).
    record x { popped = x.popped ++ (a.dropped ++ b.dropped); popped_lost = ys })
    (append_assoc x.popped_lost a.lost b.lost)

-- Names that are given in two steps, one after the other, are given in both together.
pub gives_more : (s t u : Option Named) (x y z : PassAccount) → GivesNames s t x y
    → GivesNames t u y z → GivesNames s u x z
gives_more s t u x y z first second = record {
  more = joined first.more second.more;
  gains = gains_more first.more second.more s t u first.gains second.gains;
  popped =
      second.popped ∙ ap (after_drain second.more.dropped second.more.lost) first.popped
      ∙ pops_more first.more second.more x;
}

-- ---- name after name

gains_one : (kind : List Entry → Named) (with_one : Entry → Named → Named)
    → ((e : Entry) (had : Named) → with_one e had ≡ joined had (kind (e ∷ [])))
    → (e : Entry) (told : Option Named)
    → GainsNames (kind (e ∷ [])) told (option_map (with_one e) told)
gains_one kind with_one is e None = refl
gains_one kind with_one is e (Some had) = ap Some (is e had)

-- Of these names some were given, in order, and these are left.
pub record GivesFront (kind : List Entry → Named) (names left : List Entry)
    (told told' : Option Named) : Type 0 where
  pub given : List Entry
  pub split : names ≡ given ++ left
  pub gains : GainsNames (kind given) told told'

module _ (kind : List Entry → Named) (with_one : Entry → Named → Named)
    (is : (e : Entry) (had : Named) → with_one e had ≡ joined had (kind (e ∷ [])))
    (none : kind [] ≡ no_names)
    (join : (es : List Entry) (e : Entry)
    → joined (kind es) (kind (e ∷ [])) ≡ kind (es ++ e ∷ [])) where
  front_none : (names : List Entry) (told : Option Named) → GivesFront kind names names told told
  front_none names told = record {
    given = [];
    split = refl;
    gains = subst (λ (n : Named). GainsNames n told told) (sym none) (gains_none told);
  }

  front_next : (names left left' : List Entry) (e : Entry) (s t u : Option Named) → left ≡ e ∷ left'
      → u ≡ option_map (with_one e) t → GivesFront kind names left s t
      → GivesFront kind names left' s u
  front_next names left left' e s t u is_left gave so_far =
      let more : GainsNames (kind (e ∷ [])) t u = gave ∙ gains_one kind with_one is e t in
      record {
        given = so_far.given ++ e ∷ [];
        split =
            so_far.split ∙ ap (λ (es : List Entry). so_far.given ++ es) is_left
            ∙ sym (append_assoc so_far.given (e ∷ []) left');
        gains =
            subst (λ (n : Named). GainsNames n s u) (join so_far.given e)
            (gains_more (kind so_far.given) (kind (e ∷ [])) s t u so_far.gains more);
      }

-- A sink has gained all names once none is left.
pub front_all : (kind : List Entry → Named) (names left : List Entry) (s t : Option Named)
    → left ≡ [] → GivesFront kind names left s t → GainsNames (kind names) s t
front_all kind names left s t ended so_far =
    subst (λ (es : List Entry). GainsNames (kind es) s t)
    (sym
    (so_far.split ∙ ap (λ (es : List Entry). so_far.given ++ es) ended ∙ append-nil so_far.given))
    so_far.gains

dropped_one : (e : Entry) (had : Named) → with_dropped e had ≡ joined had (dropped_names (e ∷ []))
dropped_one e had =
    ap (λ (ys : List Entry). record { dropped = had.dropped ++ e ∷ []; lost = ys })
    (sym (append-nil had.lost))

lost_one : (e : Entry) (had : Named) → with_lost e had ≡ joined had (lost_names (e ∷ []))
lost_one e had =
    ap (λ (xs : List Entry). record { dropped = xs; lost = had.lost ++ e ∷ [] })
    (sym (append-nil had.dropped))

-- Before the first name of a dropped span is given, all are left.
pub dropped_none : (names : List Entry) (told : Option Named)
    → GivesFront dropped_names names names told told
dropped_none = front_none dropped_names with_dropped dropped_one refl (λ es e. refl)

-- One more name of a dropped span that is given moves from those left to those given.
pub dropped_next : (names left left' : List Entry) (e : Entry) (s t u : Option Named)
    → left ≡ e ∷ left' → u ≡ option_map (with_dropped e) t → GivesFront dropped_names names left s t
    → GivesFront dropped_names names left' s u
dropped_next = front_next dropped_names with_dropped dropped_one refl (λ es e. refl)

-- Before the first name of a lost span is given, all are left.
pub lost_none : (names : List Entry) (told : Option Named)
    → GivesFront lost_names names names told told
lost_none = front_none lost_names with_lost lost_one refl (λ es e. refl)

-- One more name of a lost span that is given moves from those left to those given.
pub lost_next : (names left left' : List Entry) (e : Entry) (s t u : Option Named)
    → left ≡ e ∷ left' → u ≡ option_map (with_lost e) t → GivesFront lost_names names left s t
    → GivesFront lost_names names left' s u
lost_next = front_next lost_names with_lost lost_one refl (λ es e. refl)

-- A sink that gains names of dropped spans and then of lost ones gains both.
pub gains_both : (ds ls : List Entry) (s t u : Option Named) → GainsNames (dropped_names ds) s t
    → GainsNames (lost_names ls) t u → GainsNames (both_names ds ls) s u
gains_both ds ls s t u first second =
    subst (λ (n : Named). GainsNames n s u)
    (ap (λ (es : List Entry). record { dropped = es; lost = ls }) (append-nil ds))
    (gains_more (dropped_names ds) (lost_names ls) s t u first second)

-- A pass that drains names of both kinds, which the sink gains, has given them.
pub gives_both : (ds ls : List Entry) (s u : Option Named) (x y : PassAccount)
    → y ≡ after_drain ds ls x → GainsNames (both_names ds ls) s u → GivesNames s u x y
gives_both ds ls s u x y popped gains =
    record { more = both_names ds ls; gains = gains; popped = popped }

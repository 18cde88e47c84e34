-- What the lock keeps of all accounts in the book, and how it goes on where one account changes.
use Rattle.std.proofs.Common.{◌≡◌, Bool, List, [], ◌∷◌, length, sym, refl, ap, ◌∙◌, subst, arith}
use Rattle.std.proofs.Common.{◌⊎◌, inl, inr}
use Rattle.std.specs.Prelude.{Contains, Option, Some, None, filter_map}
use Rattle.std.specs.List.{AllByRecursion}
use Rattle.std.proofs.lemmas.List.Elements.{All-from_recursion, All-contains}
use Rattle.account_book.specs.Accounts.{Replaces}
use Rattle.account_book.proofs.Facts.{contains_replaced, each_map, each_replaced, length_replaced}
use Rattle.account_book.proofs.Facts.{one_replaced, part_replaced, replaces_told}
use Rattle.model_desk.specs.Desks.{Desk}
use Rattle.model_processor.specs.Passes.{PassAccount}
use Rattle.model_processor.specs.Worker.{WorkerAccount}
use Rattle.model_processor.specs.WorkerClauses.{Origin}
use Rattle.model_processor.specs.AnyAccounts.{AnyAccount, account_in, on_pass, on_worker, origin_in}
use Rattle.model_processor.specs.AnyAccounts.{pass, pass_account, pass_accounts, worker}
use Rattle.model_processor.specs.AnyAccounts.{worker_account, worker_accounts, worker_in}
use Rattle.model_processor.specs.Kept.{Agrees, IsOf, IsShared, Kept}
use Rattle.model_processor.proofs.Lists.{part_same}

-- Where no account is open, whatever the lock guards is what the accounts share.
pub none_shared : (origin : Origin) (left : Bool) (desk : Desk) (holders : List AnyAccount)
    → holders ≡ [] → IsShared origin left desk holders
none_shared origin left desk holders none h there =
    absurd (let few = there.1 in let e = ap length none in omega arith)

-- ---- the one account of a kind

module _ {V W : Type 0} (part : V → Option W) where
  skips : (v : V) (xs : List V) → part v ≡ None → filter_map part (v ∷ xs) ≡ filter_map part xs
  skips v xs is = rw is refl

  takes : (v : V) (xs : List V) (y : W) → part v ≡ Some y
      → filter_map part (v ∷ xs) ≡ y ∷ filter_map part xs
  takes v xs y is = rw is refl

  none_first : (v : V) (xs : List V) (o : Option W) → part v ≡ o → filter_map part (v ∷ xs) ≡ []
      → (o ≡ None) × (filter_map part xs ≡ [])
  none_first v xs None is none = (refl, sym (skips v xs is) ∙ none)
  none_first v xs (Some y) is none =
      absurd (let e : y ∷ filter_map part xs ≡ [] = sym (takes v xs y is) ∙ none in cc)

  none_there : (xs : List V) → filter_map part xs ≡ []
      → AllByRecursion (λ (v : V). (w : W) → part v ≡ Some w → ⊥) xs
  none_there [] none = tt
  none_there (v ∷ xs) none =
      let first = none_first v xs (part v) refl none in
      ((λ w some. let e = first.0 in cc), none_there xs first.1)

  one_first : (v : V) (xs : List V) (y : W) (o : Option W) → part v ≡ o
      → filter_map part (v ∷ xs) ≡ y ∷ []
      → (AllByRecursion (λ (v : V). (w : W) → part v ≡ Some w → w ≡ y) xs)
      → ((w : W) → part v ≡ Some w → w ≡ y)
  one_first v xs y None is one rest = λ w some. cc
  one_first v xs y (Some z) is one rest =
      λ w some. let e : z ∷ filter_map part xs ≡ y ∷ [] = sym (takes v xs z is) ∙ one in cc

  one_rest : (v : V) (xs : List V) (y : W) (o : Option W) → part v ≡ o
      → filter_map part (v ∷ xs) ≡ y ∷ []
      → (filter_map part xs ≡ y ∷ []) ⊎ (filter_map part xs ≡ [])
  one_rest v xs y None is one = inl (sym (skips v xs is) ∙ one)
  one_rest v xs y (Some z) is one =
      inr (let e : z ∷ filter_map part xs ≡ y ∷ [] = sym (takes v xs z is) ∙ one in cc)

  one_there : (xs : List V) (y : W) → (filter_map part xs ≡ y ∷ []) ⊎ (filter_map part xs ≡ [])
      → AllByRecursion (λ (v : V). (w : W) → part v ≡ Some w → w ≡ y) xs
  one_there xs y (inr none) =
      each_map (λ (v : V). (w : W) → part v ≡ Some w → ⊥)
      (λ (v : V). (w : W) → part v ≡ Some w → w ≡ y) xs (λ u no w some. absurd (no w some))
      (none_there xs none)
  one_there [] y (inl one) = tt
  one_there (v ∷ xs) y (inl one) =
      let rest = one_there xs y (one_rest v xs y (part v) refl one) in
      (one_first v xs y (part v) refl one rest, rest)

-- ---- the worker's account is there

module _ (origin : Origin) (left : Bool) (desk : Desk) (holders : List AnyAccount) (h : AnyAccount)
    (k : Kept origin left desk holders) (there : Contains holders h)
    (is : h ≡ worker (origin_in h) (worker_in h)) where
  -- The worker's account says what the processor began with.
  pub origin_there : origin_in h ≡ origin
  origin_there =
      subst (IsOf origin) is
      (All-contains (IsOf origin) holders h
      (All-from_recursion (IsOf origin) holders k.origins) there)

  worker_there : worker_in h ≡ k.account
  worker_there =
      let P : AnyAccount → Type 0 =
      λ x. (w : WorkerAccount) → worker_account x ≡ Some w → w ≡ k.account in
      All-contains P holders h
      (All-from_recursion P holders (one_there worker_account holders k.account (inl k.one_worker)))
      there
      (worker_in h) (ap worker_account is)

  -- The worker's account says that the worker has left just where the mark beside the desk does.
  pub left_there : (worker_in h).left ≡ left
  left_there = ap (λ (w : WorkerAccount). w.left) worker_there ∙ k.left_is

  -- The desk and the accounts of the passes agree with the worker's account.
  pub agrees_there : Agrees desk (pass_accounts holders) (worker_in h)
  agrees_there = subst (Agrees desk (pass_accounts holders)) (sym worker_there) k.agrees

-- ---- an account learns something

module _ (origin : Origin) (left : Bool) (desk desk' : Desk) (holders holders' : List AnyAccount)
    (h h' : AnyAccount) (shared : IsShared origin left desk holders)
    (r : Replaces holders h h' holders') (config : desk'.config ≡ desk.config) where
  -- An account that is replaced by another one is in the book.
  pub open_there : Contains holders h
  open_there = contains_replaced holders h h' holders' r

  k : Kept origin left desk holders
  k = shared h open_there

  -- What the lock keeps goes on where a pass's account learns something that agrees with the desk.
  pub kept_pass : (f : PassAccount → PassAccount) → h ≡ pass (account_in h) → h' ≡ on_pass f h
      → ((w : WorkerAccount) (new : List PassAccount) → w.left ≡ left
      → Replaces (pass_accounts holders) (account_in h) (f (account_in h)) new
      → Agrees desk (pass_accounts holders) w → Agrees desk' new w)
      → IsShared origin left desk' holders'
  kept_pass f is changed step other there =
      let a = pass (account_in h) in let b = pass (f (account_in h)) in
      let change : Replaces holders a b holders' =
      replaces_told holders holders holders' h h' a b refl is (changed ∙ ap (on_pass f) is) r in
      record {
        few = let e = length_replaced holders a b holders' change in let m = k.few in omega arith;
        origins = each_replaced (IsOf origin) holders a b holders' change k.origins tt;
        config = config ∙ k.config;
        sizes = k.sizes;
        account = k.account;
        one_worker = part_same worker_account holders a b holders' change refl refl ∙ k.one_worker;
        left_is = k.left_is;
        agrees =
            step k.account (pass_accounts holders') k.left_is
            (part_replaced pass_account holders a b holders' (account_in h)
            (f (account_in h)) change refl refl)
            k.agrees;
      }

  -- What the lock keeps goes on where the worker's account learns something that agrees with the
  -- desk.
  pub kept_worker : (f : WorkerAccount → WorkerAccount) (left' : Bool)
      → ((worker_in h).left ≡ left → (f (worker_in h)).left ≡ left')
      → h ≡ worker (origin_in h) (worker_in h) → h' ≡ on_worker f h
      → ((passes : List PassAccount) → Agrees desk passes (worker_in h)
      → Agrees desk' passes (f (worker_in h)))
      → IsShared origin left' desk' holders'
  kept_worker f left' marks is changed step other there =
      let a = worker (origin_in h) (worker_in h) in
      let b = worker (origin_in h) (f (worker_in h)) in
      let change : Replaces holders a b holders' =
      replaces_told holders holders holders' h h' a b refl is (changed ∙ ap (on_worker f) is) r in
      let one = one_replaced k.account (worker_in h) (f (worker_in h)) (worker_accounts holders')
      (subst (λ (ws : List WorkerAccount).
      Replaces ws (worker_in h) (f (worker_in h)) (worker_accounts holders'))
      k.one_worker
      (part_replaced worker_account holders a b holders' (worker_in h)
      (f (worker_in h)) change refl refl)) in
      let passes : pass_accounts holders' ≡ pass_accounts holders =
      part_same pass_account holders a b holders' change refl refl in
      record {
        few = let e = length_replaced holders a b holders' change in let m = k.few in omega arith;
        origins =
            each_replaced (IsOf origin) holders a b holders' change k.origins
            (origin_there origin left desk holders h k open_there is);
        config = config ∙ k.config;
        sizes = k.sizes;
        account = f (worker_in h);
        one_worker = one.1;
        left_is = marks (ap (λ (w : WorkerAccount). w.left) one.0 ∙ k.left_is);
        agrees =
            subst (λ (ps : List PassAccount). Agrees desk' ps (f (worker_in h))) (sym passes)
            (step (pass_accounts holders)
            (subst (Agrees desk (pass_accounts holders)) (sym one.0) k.agrees));
      }

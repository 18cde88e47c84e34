-- How the accounts of a processor begin, whatever it begins with.
use Rattle.std.proofs.Common.{◌≡◌, List, [], ◌∷◌, ◌++◌, sym, refl, ap, ◌∙◌, subst}
use Rattle.std.specs.List.{AllByRecursion}
use Rattle.account_book.specs.Accounts.{Replaces}
use Rattle.account_book.proofs.Facts.{one_replaced}
use Rattle.model_processor.specs.Passes.{new_account}
use Rattle.model_processor.specs.Holders.{Holder, IsOf, pass, pass_accounts, worker_accounts}

module _ {V : Type 0} where
  -- The first account that is opened in a book, and then changed, is the only one.
  pub first_set : (empty one changed : List V) (first u w said : V) → empty ≡ []
      → one ≡ empty ++ first ∷ [] → Replaces one u w changed → w ≡ said → changed ≡ said ∷ []
  first_set empty one changed first u w said none one_is r w_is =
      let single : one ≡ first ∷ [] = one_is ∙ ap (λ (vs : List V). vs ++ first ∷ []) none in
      (one_replaced first u w changed
      (subst (λ (vs : List V). Replaces vs u w changed) single r)).1
      ∙ ap (λ (v : V). v ∷ []) w_is

module _ {O : Type 0} where
  -- What passes that have done nothing know is what a new account says.
  pub new_passes : (holders : List (Holder O)) → AllByRecursion (λ h. h ≡ pass new_account) holders
      → AllByRecursion (λ a. a ≡ new_account) (pass_accounts holders)
  new_passes [] all = tt
  new_passes (h ∷ holders) all =
      subst
      (λ (x : Holder O). AllByRecursion (λ a. a ≡ new_account) (pass_accounts (x ∷ holders)))
      (sym all.0) (refl, new_passes holders all.1)

  -- None of them is a worker's.
  pub no_workers : (holders : List (Holder O)) → AllByRecursion (λ h. h ≡ pass new_account) holders
      → worker_accounts holders ≡ []
  no_workers [] all = refl
  no_workers (h ∷ holders) all =
      subst (λ (x : Holder O). worker_accounts (x ∷ holders) ≡ []) (sym all.0)
      (no_workers holders all.1)

  -- They say nothing of what the processor began with.
  pub of_passes : (origin : O) (holders : List (Holder O))
      → AllByRecursion (λ h. h ≡ pass new_account) holders → AllByRecursion (IsOf origin) holders
  of_passes origin [] all = tt
  of_passes origin (h ∷ holders) all =
      (subst (IsOf origin) (sym all.0) tt, of_passes origin holders all.1)

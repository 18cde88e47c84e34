-- What each call leaves of the order of the bodies of a spool.
use Rattle.std.proofs.Common.{◌≡◌, refl, sym, ap, ap₂, ◌∙◌, ℕ, List, [], ◌∷◌, ◌++◌, Bool, true}
use Rattle.std.proofs.Common.{false, append_assoc}
use Rattle.std.specs.Prelude.{map, Option, Some, None}
use Rattle.std.proofs.lemmas.List.{append-nil}
use Rattle.model_desk.specs.Retries.{Fate, Next, fate_of}
use Rattle.spool.specs.Disks.{Disk}
use Rattle.relay_store.specs.Kept.{Admits, Kept, remaining_in}
use Rattle.relay_store.proofs.Basics.{true-false}
use Rattle.relay_store.specs.Accounts.{Sent, ended_after, ended_bodies, ended_by, new_sent}
use Rattle.relay_store.specs.Accounts.{noted_by, noted_from, started_with}
use Rattle.relay_store.specs.Agreement.{AreInOrder, IsInOrder}
use Rattle.relay_store.proofs.Steps.{firsts-append, firsts-with}

abbrev firsts : List (List ℕ × Fate) → List (List ℕ)
firsts ended = map (λ e. e.0) ended

not-failed : (was is : Bool) → (was ≡ true → is ≡ true) → is ≡ false → was ≡ false
not-failed true is stays well = absurd (true-false (sym (stays refl) ∙ well))
not-failed false is stays well = refl

-- More bodies were kept, which are left too.
in-order-more : (p more : List (List ℕ)) (s : Sent) (old new : List (List ℕ)) → new ≡ old ++ more
    → AreInOrder p s old → AreInOrder (p ++ more) s new
in-order-more p more s old new is o =
    sym (append_assoc s.at_start p more)
    ∙ (ap (λ l. l ++ more) o
    ∙ (append_assoc (firsts s.ended) old more ∙ ap (λ l. firsts s.ended ++ l) (sym is)))

-- Of those that were left, the first ones ended.
in-order-ended : (o : Option Fate) (p ended : List (List ℕ)) (s : Sent) (old new : List (List ℕ))
    → ended ≡ ended_by o s.batch → old ≡ ended ++ new → AreInOrder p s old
    → AreInOrder p (noted_by o s) new
in-order-ended None p ended s old new are is a =
    a ∙ ap (λ l. firsts s.ended ++ l) (is ∙ ap (λ l. l ++ new) are)
in-order-ended (Some fate) p ended s old new are is a =
    let bodies = ended_bodies fate s.batch in
    let more = map (λ body. (body, fate)) bodies in
    let all : firsts (s.ended ++ more) ≡ firsts s.ended ++ bodies =
    firsts-append s.ended more ∙ ap (λ l. firsts s.ended ++ l) (firsts-with fate bodies) in
    a
    ∙ (ap (λ l. firsts s.ended ++ l) (is ∙ ap (λ l. l ++ new) are)
    ∙ (sym (append_assoc (firsts s.ended) bodies new) ∙ ap (λ l. l ++ new) (sym all)))

module _ {D : Type 0} (known : Type 0) (files : D → Disk) (old new : Kept D) (re : Bool) where
  -- The same bodies are left.
  pub order-same : new.is_spooled ≡ old.is_spooled
      → (old.has_failed ≡ true → new.has_failed ≡ true)
      → (known → old.is_spooled ≡ true → new.has_failed ≡ false
      → remaining_in files new ≡ remaining_in files old)
      → (p : List (List ℕ)) (s s' : Sent) → s'.at_start ≡ s.at_start → s'.ended ≡ s.ended
      → IsInOrder known files old re p s → IsInOrder known files new re p s'
  order-same spooled stays left p s s' waited ended o = λ is-known is well once.
      let was = sym spooled ∙ is in
      let whole = not-failed old.has_failed new.has_failed stays well in
      ap (λ l. l ++ p) waited
      ∙ (o is-known was whole once
      ∙ ap₂ (λ e l. firsts e ++ l) (sym ended) (sym (left is-known was well)))

  -- Bodies were put.
  pub order-put : (more : List (List ℕ)) → new.is_spooled ≡ old.is_spooled
      → new.has_failed ≡ old.has_failed
      → (known → old.is_spooled ≡ true → remaining_in files new ≡ remaining_in files old ++ more)
      → (p : List (List ℕ)) (s : Sent) → IsInOrder known files old re p s
      → IsInOrder known files new re (p ++ more) s
  order-put more spooled failed left p s o = λ is-known is well once.
      let was = sym spooled ∙ is in
      in-order-more p more s (remaining_in files old) (remaining_in files new) (left is-known was)
      (o is-known was (sym failed ∙ well) once)

  -- What follows from an outcome was noted.
  pub order-settle : (next : Next) (ended : List (List ℕ)) (s : Sent)
      → ended ≡ ended_after next s.batch → new.is_spooled ≡ old.is_spooled
      → new.has_failed ≡ old.has_failed
      → (known → old.is_spooled ≡ true → old.has_failed ≡ false
      → remaining_in files old ≡ ended ++ remaining_in files new)
      → (p : List (List ℕ)) → IsInOrder known files old re p s
      → IsInOrder known files new re p (noted_from next s)
  order-settle next ended s are spooled failed left p o = λ is-known is well once.
      let was = sym spooled ∙ is in
      let whole = sym failed ∙ well in
      in-order-ended (fate_of next) p ended s (remaining_in files old) (remaining_in files new) are
      (left is-known was whole) (o is-known was whole once)

  -- A body was kept, at the desk or in the spool.
  pub keep-order : (body : List ℕ) (spans : ℕ)
      → (old.is_spooled ≡ false → Admits body spans old new)
      → (old.is_spooled ≡ true → (new.is_spooled ≡ old.is_spooled)
      × (new.has_failed ≡ old.has_failed))
      → (old.is_spooled ≡ true → known
      → remaining_in files new ≡ remaining_in files old ++ body ∷ [])
      → (p : List (List ℕ)) (s : Sent) → IsInOrder known files old re p s
      → IsInOrder known files new re (p ++ body ∷ []) s
  keep-order body spans admits put left p s = go old.is_spooled refl
    where
      go : (b : Bool) → old.is_spooled ≡ b → IsInOrder known files old re p s
          → IsInOrder known files new re (p ++ body ∷ []) s
      go true is =
          order-put (body ∷ []) (put is).0 (put is).1 (λ is-known was. left is is-known) p s
      go false is = λ o is-known now well once.
          let same : new.is_spooled ≡ false =
          ap (λ (k : Kept D). k.is_spooled) (admits is).only ∙ is in
          absurd (true-false (sym now ∙ same))

-- Nothing is said of a spool that failed, nor where there is none.
pub order-failed : {D : Type 0} (known : Type 0) (files : D → Disk) (kept : Kept D) (re : Bool)
    (p : List (List ℕ)) (s : Sent) → (kept.is_spooled ≡ true → kept.has_failed ≡ true)
    → IsInOrder known files kept re p s
order-failed known files kept re p s failed = λ is-known is well once.
    absurd (true-false (sym (failed is) ∙ well))

-- Nothing is said of a spool that was opened again.
pub order-again : {D : Type 0} (known : Type 0) (files : D → Disk) (kept : Kept D)
    (p : List (List ℕ)) (s : Sent) → IsInOrder known files kept true p s
order-again known files kept p s = λ is-known is well once. absurd (true-false once)

-- At the start just those wait that waited.
pub order-new : {D : Type 0} (known : Type 0) (files : D → Disk) (kept : Kept D) (re : Bool)
    → IsInOrder known files kept re [] (started_with (remaining_in files kept) new_sent)
order-new known files kept re = λ is-known is well once. append-nil (remaining_in files kept)

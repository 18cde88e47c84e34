-- What was gathered of a message, after one more field whose number is known.
use Rattle.std.proofs.Common.{◌≡◌, refl, sym, subst, ◌∙◌, ℕ, zero, suc, List, [], ◌∷◌, ◌++◌, Bool}
use Rattle.std.proofs.Common.{true, false, cond, ◌==◌, arith}
use Rattle.std.proofs.lemmas.Bool.{eqb-false}
use Rattle.model_message.specs.Wire.{Field}
use Rattle.model_message.specs.Tables.{Shape, Table, end, ◌⦂◌◂◌}
use Rattle.model_message.specs.Messages.{payloads, value, max_depth}
use Rattle.otlp_wire.specs.Gathering.{Kept, Gathered, IsKept, IsGathered, KeepsField}
use Rattle.otlp_wire.proofs.LastPayloads.{same-payloads}
use Rattle.otlp_wire.proofs.OnePayload.{other-number}

-- What is kept under one number stays as it is after a field of another number.
kept-other : (n : ℕ) (s : Shape) (x : Kept s) (f : Field) → (f.number ≡ n → ⊥)
    → KeepsField s n x x f
kept-other n s x f other fields held =
    subst (λ ps. IsKept (value max_depth) s x ps)
    (sym (same-payloads n s fields f (other-number n s f other))) held

-- No field of the table has this number.
abbrev pub Others : ℕ → Table → Type 0
Others k end = Unit {0}
Others k (n ⦂ s ◂ t) = (k ≡ n → ⊥) × Others k t

-- What was gathered stays as it is after a field that the table hasn't.
pub others-stay : (t : Table) (x : Gathered t) (f : Field) → Others f.number t
    → (fields : List Field) → IsGathered (value max_depth) t x fields
    → IsGathered (value max_depth) t x (fields ++ f ∷ [])
others-stay end x f others fields held = tt
others-stay (n ⦂ s ◂ t) x f others fields held =
    (kept-other n s x.0 f others.0 fields held.0, others-stay t x.1 f others.1 fields held.1)

-- ---- a field that is at a place of the table

-- whether no field of the table has this number
abbrev pub lacks : ℕ → Table → Bool
lacks k end = true
lacks k (n ⦂ s ◂ t) = cond (k == n) false (lacks k t)

-- whether no field of the table has this number but the one at this place
abbrev pub alone : ℕ → ℕ → Table → Bool
alone place k end = true
alone zero k (n ⦂ s ◂ t) = cond (k == n) (lacks k t) false
alone (suc place) k (n ⦂ s ◂ t) = cond (k == n) false (alone place k t)

-- The field at this place of the table keeps what it has to of one field more, and all else stays.
abbrev pub StepsAt : ℕ → (t : Table) → Gathered t → Gathered t → Field → Type 0
StepsAt place end old new f = Unit {0}
StepsAt zero (n ⦂ s ◂ t) old new f = KeepsField s n old.0 new.0 f × (new.1 ≡ old.1)
StepsAt (suc place) (n ⦂ s ◂ t) old new f = (new.0 ≡ old.0) × StepsAt place t old.1 new.1 f

lacks-all : (k : ℕ) (t : Table) → lacks k t ≡ true → Others k t
lacks-all k end e = tt
lacks-all k (n ⦂ s ◂ t) e = go (k == n) refl e (lacks-all k t)
  where
    go : (b : Bool) → (k == n) ≡ b → cond b false (lacks k t) ≡ true
        → (lacks k t ≡ true → Others k t)
        → Others k (n ⦂ s ◂ t)
    go true same e rest = absurd (grind (arith, e))
    go false other e rest = (eqb-false k n other, rest e)

-- Where the field at the place of its number keeps what it has to, one field more is gathered.
pub gathers-at : (place : ℕ) (t : Table) (k : ℕ) (old new : Gathered t) (f : Field)
    → f.number ≡ k → alone place k t ≡ true → StepsAt place t old new f
    → (fields : List Field) → IsGathered (value max_depth) t old fields
    → IsGathered (value max_depth) t new (fields ++ f ∷ [])
gathers-at place end k old new f is e steps fields held = tt
gathers-at zero (n ⦂ s ◂ t) k old new f is e steps fields held = go (k == n) refl e
  where
    go : (b : Bool) → (k == n) ≡ b → cond b (lacks k t) false ≡ true
        → IsGathered (value max_depth) (n ⦂ s ◂ t) new (fields ++ f ∷ [])
    go true same e = (
      steps.0 fields held.0,
      subst (λ x. IsGathered (value max_depth) t x (fields ++ f ∷ [])) (sym steps.1)
          (others-stay t old.1 f (subst (λ m. Others m t) (sym is) (lacks-all k t e)) fields
          held.1),
    )
    go false other e = absurd (grind (arith, e))
gathers-at (suc place) (n ⦂ s ◂ t) k old new f is e steps fields held =
    go (k == n) refl e (λ a. gathers-at place t k old.1 new.1 f is a steps.1 fields held.1)
  where
    go : (b : Bool) → (k == n) ≡ b → cond b false (alone place k t) ≡ true
        → (alone place k t ≡ true → IsGathered (value max_depth) t new.1 (fields ++ f ∷ []))
        → IsGathered (value max_depth) (n ⦂ s ◂ t) new (fields ++ f ∷ [])
    go true same e rest = absurd (grind (arith, e))
    go false other e rest = (
      subst (λ x. IsKept (value max_depth) s x (payloads n s (fields ++ f ∷ []))) (sym steps.0)
          (kept-other n s old.0 f (λ h. eqb-false k n other (sym is ∙ h)) fields held.0),
      rest e,
    )

-- Readers of what is at the front of some bytes, against what is spelled there.
use Rattle.std.proofs.Common.{◌≡◌, refl, sym, ap, subst, ◌∙◌, ℕ, List, [], ◌++◌, length, take, drop}
use Rattle.std.proofs.Common.{Result, Ok, Err, MatchResult, ◌↔◌, append-nil, arith, append_assoc}
use Rattle.std.proofs.Common.{nat_lt, cond, Bool, true, false}
use Rattle.std.proofs.lemmas.Bool.{ltb-false, le-ltb}
use Rattle.std.proofs.lemmas.List.{length-take-le, take-append-drop, take_at, drop_at}
use Rattle.std.proofs.lemmas.List.{length-append, append_cancel_right}
use Rattle.model_message.specs.Reading.{Fault, truncated}
use Rattle.model_message.specs.Wire.{Front, give, fail, after, ◌>>=◌, map_front, next_bytes}

-- The reader takes just what is spelled so from the front.
pub record Takes {A : Type 0} (p : Front A) (S : List ℕ → A → Type 0) : Type 0 where
  pub found : (bs rest : List ℕ) (x : A) → p bs ≡ Ok (x, rest)
      → (front : List ℕ) × S front x × (bs ≡ front ++ rest)
  pub again : (front rest : List ℕ) (x : A) → S front x → p (front ++ rest) ≡ Ok (x, rest)

-- An `Err` is never an `Ok`.
pub err-ok : {A : Type 0} (f : Fault) (x : A) → Err f ≡ Ok x → ⊥
err-ok f x e = subst (λ r. MatchResult r (λ _. ⊥) (λ _. Unit {0})) e tt

-- The value that a result has, or else a default.
abbrev value_in : {A : Type 0} → A → Result A Fault → A
value_in d (Ok x) = x
value_in d (Err f) = d

-- Equal `Ok`s hold equal values.
pub ok-ok : {A : Type 0} (x y : A) → ◌≡◌ {A = Result A Fault} (Ok x) (Ok y) → x ≡ y
ok-ok x y e = ap (value_in x) e

abbrev pub Both : {A B : Type 0} → (List ℕ → A → Type 0) → (A → List ℕ → B → Type 0) → List ℕ → B
    → Type 0
Both {A = A} S T bs y =
    (x : A) × (front : List ℕ) × (back : List ℕ) × S front x × T x back y × (bs ≡ front ++ back)

found-bind : {A B : Type 0} (p : Front A) (q : A → Front B) (S : List ℕ → A → Type 0)
    (T : A → List ℕ → B → Type 0)
    → Takes p S → ((x : A) → Takes (q x) (T x)) →
    (bs rest : List ℕ) (y : B) (r : Result (A × List ℕ) Fault) → p bs ≡ r → after r q ≡ Ok (y, rest)
    → (front : List ℕ) × Both S T front y × (bs ≡ front ++ rest)
found-bind p q S T hp hq bs rest y (Ok x) e h =
    let s = hp.found bs x.1 x.0 e in
    let t = (hq x.0).found x.1 rest y h in (
      s.0 ++ t.0,
      (x.0, s.0, t.0, s.1, t.1, refl),
      s.2 ∙ ap (λ l. s.0 ++ l) t.2 ∙ sym (append_assoc s.0 t.0 rest),
    )
found-bind p q S T hp hq bs rest y (Err f) e h = absurd (err-ok f (y, rest) h)

-- Two readers in turn take just a spelling for the first and then one for the second.
pub takes-bind : {A B : Type 0} (p : Front A) (q : A → Front B) (S : List ℕ → A → Type 0)
    (T : A → List ℕ → B → Type 0)
    → Takes p S → ((x : A) → Takes (q x) (T x)) → Takes (p >>= q) (Both S T)
takes-bind p q S T hp hq = record {
  found = λ bs rest y e. found-bind p q S T hp hq bs rest y (p bs) refl e;
  again =
      λ bs rest y s. ap (λ l. after (p (l ++ rest)) q) s.5
      ∙ ap (λ l. after (p l) q) (append_assoc s.1 s.2 rest)
      ∙ ap (λ r. after r q) (hp.again s.1 (s.2 ++ rest) s.0 s.3) ∙ (hq s.0).again s.2 rest y s.4;
}

-- The reader that gives a value takes no byte.
pub takes-give : {A : Type 0} (x : A) → Takes (give x) (λ bs y. (bs ≡ []) × (y ≡ x))
takes-give x = record {
  found =
      λ bs rest y e. let same = ok-ok (x, bs) (y, rest) e in
      ([], (refl, sym (ap (λ s. s.0) same)), ap (λ s. s.1) same);
  again = λ bs rest y s. ap (λ l. Ok (x, l ++ rest)) s.0 ∙ ap (λ z. Ok (z, rest)) (sym s.1);
}

-- The reader that fails takes nothing.
pub takes-fail : {A : Type 0} (f : Fault) → Takes {A = A} (fail f) (λ bs y. ⊥)
takes-fail f = record {
  found = λ bs rest y e. absurd (err-ok f (y, rest) e);
  again = λ bs rest y s. absurd s;
}

-- A reader takes just what an equivalent relation spells, too.
pub takes-as : {A : Type 0} (p : Front A) (S T : List ℕ → A → Type 0) → Takes p S
    → ((bs : List ℕ) (x : A) → S bs x ↔ T bs x) → Takes p T
takes-as p S T hp same = record {
  found = λ bs rest x e. let s = hp.found bs rest x e in (s.0, (same s.0 x).0 s.1, s.2);
  again = λ bs rest x t. hp.again bs rest x ((same bs x).1 t);
}

-- A reader whose value is mapped takes the same spellings, each for the mapped value.
pub takes-map : {A B : Type 0} (f : A → B) (p : Front A) (S : List ℕ → A → Type 0) → Takes p S
    → Takes (map_front f p) (λ bs y. (x : A) × S bs x × (y ≡ f x))
takes-map f p S hp =
    takes-as _ _ _
    (takes-bind p (λ x. give (f x)) S (λ x bs y. (bs ≡ []) × (y ≡ f x)) hp (λ x. takes-give (f x)))
    (λ bs y. (
      λ s. (
        s.0,
        subst (λ l. S l s.0) (sym (s.5 ∙ ap (λ l. s.1 ++ l) s.4.0 ∙ append-nil s.1)) s.3,
        s.4.1,
      ),
      λ s. (s.0, bs, [], s.1, (refl, s.2), sym (append-nil bs)),
    ))

-- No spelling that a reader takes begins another.
pub prefix-free : {A : Type 0} (p : Front A) (S : List ℕ → A → Type 0) → Takes p S
    → (a b u v : List ℕ) (x y : A) → S a x → S b y → a ++ u ≡ b ++ v → (a ≡ b) × (x ≡ y)
prefix-free p S hp a b u v x y s t e =
    let same = ok-ok (x, u) (y, v) (sym (hp.again a u x s) ∙ ap p e ∙ hp.again b v y t) in (
      append_cancel_right a b v (ap (λ l. a ++ l) (sym (ap (λ z. z.1) same)) ∙ e),
      ap (λ z. z.0) same,
    )

takes-next-found : (n : ℕ) (bs rest x : List ℕ) (b : Bool) → nat_lt (length bs) n ≡ b
    → cond {A = Result (List ℕ × List ℕ) Fault} b (Err truncated) (Ok (take n bs, drop n bs))
    ≡ Ok (x, rest)
    → (front : List ℕ) × ((length front ≡ n) × (x ≡ front)) × (bs ≡ front ++ rest)
takes-next-found n bs rest x true e h = absurd (err-ok truncated (x, rest) h)
takes-next-found n bs rest x false e h = let same = ok-ok (take n bs, drop n bs) (x, rest) h in (
  take n bs,
  (length-take-le n bs (ltb-false _ _ e), sym (ap (λ s. s.0) same)),
  sym (take-append-drop n bs) ∙ ap (λ l. take n bs ++ l) (ap (λ s. s.1) same),
)

-- The reader of the next `n` bytes takes any `n` bytes, as they are.
pub takes-next : (n : ℕ) → Takes (next_bytes n) (λ bs x. (length bs ≡ n) × (x ≡ bs))
takes-next n = record {
  found = λ bs rest x e. takes-next-found n bs rest x (nat_lt (length bs) n) refl e;
  again =
      λ bs rest x s. rw (
        le-ltb (length (bs ++ rest)) n (simp length-append (omega (arith, s.0))),
        take_at bs rest n s.0,
        drop_at bs rest n s.0,
        s.1,
      );
}

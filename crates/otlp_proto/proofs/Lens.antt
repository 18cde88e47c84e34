-- The lengths of the spans of groups, one group after the other.
use Rattle.std.proofs.Common.{◌≡◌, refl, sym, ap, subst, ◌∙◌, ℕ, zero, suc, ◌+◌, ◌<◌, ◌==◌, true}
use Rattle.std.proofs.Common.{List, [], ◌∷◌, ◌++◌, map, flat_map, take, drop, get_or, length, ◌≤◌}
use Rattle.std.proofs.Common.{append_assoc, append-nil, add-one, drop-cons, arith}
use Rattle.std.proofs.lemmas.List.{length-append, length-map, map-append, get_or-map, drop-drop}
use Rattle.std.proofs.lemmas.List.{take-append-drop}
use Rattle.std.proofs.Math.ListN.{get_or-append}
use Rattle.std.proofs.lemmas.Grind.{flat_map-append}
use Rattle.std.proofs.lemmas.Bool.{eqb-true}
use Rattle.std.proofs.Math.Seq.{take-suc, drop-append_seam}
use Rattle.std.specs.List.{AllByRecursion}
use Rattle.model_span.specs.Spans.{SpanData}
use Rattle.otlp_proto.specs.Encode.{span_len, span_bytes, IsWholeSpan, Measures, AddsLens}
use Rattle.otlp_proto.specs.Encode.{BeginLens}

-- What holds of each item of two lists holds of each item of both, one after the other.
pub all-both : {A : Type 0} (P : A → Type 0) (xs ys : List A) → AllByRecursion P xs
    → AllByRecursion P ys → AllByRecursion P (xs ++ ys)
all-both P [] ys h k = k
all-both P (x ∷ xs) ys h k = (h.0, all-both P xs ys h.1 k)

all-first : {A : Type 0} (P : A → Type 0) (xs ys : List A) → AllByRecursion P (xs ++ ys)
    → AllByRecursion P xs
all-first P [] ys h = tt
all-first P (x ∷ xs) ys h = (h.0, all-first P xs ys h.1)

all-last : {A : Type 0} (P : A → Type 0) (xs ys : List A) → AllByRecursion P (xs ++ ys)
    → AllByRecursion P ys
all-last P [] ys h = h
all-last P (x ∷ xs) ys h = all-last P xs ys h.1

-- ---- lengths that are added

-- The lengths of no spans change nothing.
pub adds-none : (lens : List ℕ) → AddsLens [] lens lens
adds-none lens = record { lens = sym (append-nil lens); whole = tt }

-- The lengths of two lists of spans, added one after the other, are those of both lists together.
pub adds-both : (xs ys : List SpanData) {a b c : List ℕ} → AddsLens xs a b → AddsLens ys b c
    → AddsLens (xs ++ ys) a c
adds-both xs ys {a} p q = record {
  lens =
      q.lens ∙ ap (λ ls. ls ++ map span_len ys) p.lens
      ∙ append_assoc a (map span_len xs) (map span_len ys)
      ∙ ap (λ ls. a ++ ls) (sym (map-append span_len xs ys));
  whole = all-both IsWholeSpan xs ys p.whole q.whole;
}

-- The length of one span, put at the end, is added.
pub adds-one : (x : SpanData) (len : ℕ) {a b : List ℕ} → Measures (span_bytes x) (IsWholeSpan x) len
    → b ≡ a ++ len ∷ [] → AddsLens (x ∷ []) a b
adds-one x len {a} m e = record { lens = e ∙ ap (λ l. a ++ l ∷ []) m.size; whole = (m.whole, tt) }

-- What is made of the items through one more index is what was made before it, and what is made of
-- its item.
pub flat-more : {X Y Z : Type 0} (f : Y → List Z) (g : X → Y) (xs : List X) (i : ℕ) (x : X)
    → i < length xs → x ≡ get_or xs i x
    → flat_map f (map g (take (i + 1) xs)) ≡ flat_map f (map g (take i xs)) ++ f (g x)
flat-more f g xs i x l e =
    rw (add-one, take-suc xs i x l)
    (ap (flat_map f) (map-append g (take i xs) (get_or xs i x ∷ []))
    ∙ flat_map-append f (map g (take i xs)) (g (get_or xs i x) ∷ [])
    ∙ ap (λ zs. flat_map f (map g (take i xs)) ++ zs) (append-nil (f (g (get_or xs i x))))
    ∙ ap (λ y. flat_map f (map g (take i xs)) ++ f (g y)) (sym e))

-- ---- lengths that come first

-- The lengths of spans, put into an empty list, come first in it.
pub begin-all : (xs : List SpanData) (lens : List ℕ) → AddsLens xs [] lens → BeginLens xs lens
begin-all xs lens h =
    record { appended = []; lens = h.lens ∙ sym (append-nil (map span_len xs)); whole = h.whole }

-- Where the lengths of two lists of spans come first, so do those of the first list.
pub begin-first : (xs ys : List SpanData) (lens : List ℕ) → BeginLens (xs ++ ys) lens
    → BeginLens xs lens
begin-first xs ys lens h = record {
  appended = map span_len ys ++ h.appended;
  lens =
      h.lens ∙ ap (λ ls. ls ++ h.appended) (map-append span_len xs ys)
      ∙ append_assoc (map span_len xs) (map span_len ys) h.appended;
  whole = all-first IsWholeSpan xs ys h.whole;
}

drop-front : {A : Type 0} (xs ys : List A) (n : ℕ) → n ≡ length xs → drop n (xs ++ ys) ≡ ys
drop-front xs ys n e = rw e (drop-append_seam xs ys)

-- The lengths of the second list come first among those left after the first list's lengths.
pub begin-last : (xs ys : List SpanData) (lens : List ℕ) → BeginLens (xs ++ ys) lens
    → BeginLens ys (drop (length xs) lens)
begin-last xs ys lens h = record {
  appended = h.appended;
  lens =
      ap (drop (length xs))
      (h.lens ∙ ap (λ ls. ls ++ h.appended) (map-append span_len xs ys)
      ∙ append_assoc (map span_len xs) (map span_len ys) h.appended)
      ∙ drop-front (map span_len xs) (map span_len ys ++ h.appended) (length xs)
      (sym (length-map xs span_len));
  whole = all-last IsWholeSpan xs ys h.whole;
}

-- There are at least as many lengths as spans.
pub enough-lens : (xs : List SpanData) (lens : List ℕ) → BeginLens xs lens → length xs ≤ length lens
enough-lens xs lens h =
    let long = length-append (map span_len xs) h.appended in
    omega (arith, ap length h.lens, long, length-map xs span_len)

-- ---- one length of those that come first

all-at : {A : Type 0} (P : A → Type 0) (xs : List A) (i : ℕ) (d : A) → i < length xs
    → AllByRecursion P xs → P (get_or xs i d)
all-at P [] i d l h = absurd (omega (arith, l))
all-at P (x ∷ xs) zero d l h = h.0
all-at P (x ∷ xs) (suc i) d l h = all-at P xs i d (omega (arith, l)) h.1

-- Each of the lengths that come first is that of the span at its place.
pub begin-at : (xs : List SpanData) (lens : List ℕ) (i n : ℕ) (x : SpanData) → BeginLens xs lens
    → i < length xs → x ≡ get_or xs i x → n ≡ get_or lens i 0
    → Measures (span_bytes x) (IsWholeSpan x) n
begin-at xs lens i n x h l is e = record {
  size =
      e ∙ ap (λ ls. get_or ls i 0) h.lens
      ∙ get_or-append (map span_len xs) h.appended 0 i (rw length-map l)
      ∙ get_or-map span_len xs i x 0 l ∙ ap span_len (sym is);
  whole = rw is (all-at IsWholeSpan xs i x l h.whole);
}

-- ---- item by item

split-next : {X Y Z : Type 0} (f : Y → List Z) (g : X → Y) (xs : List X) (i : ℕ) (x : X)
    → i < length xs → x ≡ get_or xs i x →
    flat_map f (map g xs)
    ≡ flat_map f (map g (take i xs)) ++ (f (g x) ++ flat_map f (map g (drop (suc i) xs)))
split-next f g xs i x l e =
    ap (λ ys. flat_map f (map g ys)) (sym (take-append-drop i xs))
    ∙ ap (flat_map f) (map-append g (take i xs) (drop i xs))
    ∙ flat_map-append f (map g (take i xs)) (map g (drop i xs))
    ∙ ap (λ ys. flat_map f (map g (take i xs)) ++ flat_map f (map g ys)) (drop-cons xs i x l)
    ∙ ap (λ y. flat_map f (map g (take i xs)) ++ (f (g y) ++ flat_map f (map g (drop (suc i) xs))))
    (sym e)

-- The lengths of the next item's spans come first among the lengths that are left.
pub begin-next : {X Y : Type 0} (f : Y → List SpanData) (g : X → Y) (xs : List X)
    (lens rest : List ℕ) (i : ℕ) (x : X)
    → i < length xs → x ≡ get_or xs i x →
    BeginLens (flat_map f (map g xs)) lens
    → rest ≡ drop (length (flat_map f (map g (take i xs)))) lens → BeginLens (f (g x)) rest
begin-next f g xs lens rest i x l e h r =
    let before : List SpanData = flat_map f (map g (take i xs)) in
    let after : List SpanData = flat_map f (map g (drop (suc i) xs)) in
    let all = subst (λ spans. BeginLens spans lens) (split-next f g xs i x l e) h in
    subst (BeginLens (f (g x))) (sym r)
    (begin-first (f (g x)) after (drop (length before) lens)
    (begin-last before (f (g x) ++ after) lens all))

-- The lengths after those of the next item's spans are then left.
pub drop-next : {X Y : Type 0} (f : Y → List SpanData) (g : X → Y) (xs : List X)
    (lens rest : List ℕ) {next : List ℕ} (i : ℕ) (x : X)
    → i < length xs → x ≡ get_or xs i x →
    rest ≡ drop (length (flat_map f (map g (take i xs)))) lens → next ≡ drop (length (f (g x))) rest
    → next ≡ drop (length (flat_map f (map g (take (i + 1) xs)))) lens
drop-next f g xs lens rest i x l e r n =
    let before : List SpanData = flat_map f (map g (take i xs)) in
    n ∙ ap (drop (length (f (g x)))) r ∙ drop-drop (length (f (g x))) (length before) lens
    ∙ ap (λ k. drop k lens)
    (sym (ap length (flat-more f g xs i x l e) ∙ length-append before (f (g x))))

-- A list whose length is 0 is empty.
pub no-items : {A : Type 0} (xs : List A) → (length xs == 0) ≡ true → xs ≡ []
no-items [] e = refl
no-items (x ∷ xs) e =
    absurd (let l : length (x ∷ xs) ≡ 0 = eqb-true (length (x ∷ xs)) 0 e in omega (arith, l))

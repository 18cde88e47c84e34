-- Lists with one more element at their end: what is gathered of them, counted in them and cut from
-- them.
use Rattle.std.proofs.Common.{◌≡◌, refl, sym, ap, ◌∙◌, ℕ, zero, suc, ◌+◌, ◌<◌, ◌≤◌, arith, List, []}
use Rattle.std.proofs.Common.{◌∷◌, ◌++◌, length, take, drop, append_assoc, Bool, true, false, cond}
use Rattle.std.proofs.Common.{◌||◌, Option, Some, None, slice_get, length-drop, length-append}
use Rattle.std.specs.Prelude.{unwrap_or, sum, count_by, filter_map, map, reverse}
use Rattle.std.specs.List.{cons_option, list_any, AllByRecursion}
use Rattle.std.proofs.lemmas.List.{append-nil, drop-append-le, take-append-le, drop-drop}
use Rattle.std.proofs.lemmas.List.{length-take-le, reverse-append}
use Rattle.std.proofs.lemmas.List.Elements.{filter_map-append}
use Rattle.std.proofs.lemmas.List.Sums.{sum_by-cons, sum_by_push}
use Rattle.model_span.specs.Attributes.{last_or}
use Rattle.model_desk.specs.Queue.{DeskEvent, gather, slices, StackStep, push, pop, stack_on}

-- ---- one more element

module _ {A B : Type 0} (f : A → Option B) (xs : List A) (x : A) where
  -- A last element that maps to None adds nothing to a filter_map.
  pub none-more : f x ≡ None → filter_map f (xs ++ x ∷ []) ≡ filter_map f xs
  none-more e =
      filter_map-append f xs (x ∷ []) ∙ ap (λ o. filter_map f xs ++ cons_option o []) e
      ∙ append-nil (filter_map f xs)

  -- A last element that maps to a value adds this value at the end of a filter_map.
  pub some-more : (y : B) → f x ≡ Some y → filter_map f (xs ++ x ∷ []) ≡ filter_map f xs ++ y ∷ []
  some-more y e = filter_map-append f xs (x ∷ []) ∙ ap (λ o. filter_map f xs ++ cons_option o []) e

-- The last of a list with one more element is this element.
pub last-more : {A : Type 0} (d : A) (xs : List A) (y : A) → last_or d (xs ++ y ∷ []) ≡ y
last-more d [] y = refl
last-more d (x ∷ xs) y = last-more x xs y

-- A test passes in a list with one more element if it passes in the list or at the element.
pub any-more : {A : Type 0} (p : A → Bool) (xs : List A) (y : A)
    → list_any p (xs ++ y ∷ []) ≡ (list_any p xs || p y)
any-more p [] y = or-false (p y)
  where
    or-false : (b : Bool) → (b || false) ≡ b
    or-false true = refl
    or-false false = refl
any-more p (x ∷ xs) y = go (p x) (any-more p xs y)
  where
    go : (b : Bool) → list_any p (xs ++ y ∷ []) ≡ (list_any p xs || p y)
        → (b || list_any p (xs ++ y ∷ [])) ≡ (b || list_any p xs || p y)
    go true e = refl
    go false e = e

-- One more element raises a count by one if it passes the test, else by nothing.
pub count-more : {A : Type 0} (p : A → Bool) (xs : List A) (y : A)
    → count_by p (xs ++ y ∷ []) ≡ count_by p xs + cond (p y) 1 0
count-more p xs y = sum_by_push (λ z. cond (p z) 1 0) xs y

-- The sum of a list with one more number is the list's sum plus this number.
pub sum-more : (ns : List ℕ) (n : ℕ) → sum (ns ++ n ∷ []) ≡ sum ns + n
sum-more ns n = sum_by_push (λ (k : ℕ). k) ns n

-- ---- one more element, by what it is taken for

-- What an option does to a list or a number: its element is pushed, its number of elements is
-- dropped from the front, the number grows by one, or the number grows by the option's. None
-- changes nothing.
abbrev pub push_as : {A : Type 0} → Option A → List A → List A
push_as None xs = xs
push_as (Some y) xs = xs ++ y ∷ []

abbrev pub drop_as : {A : Type 0} → Option ℕ → List A → List A
drop_as None xs = xs
drop_as (Some n) xs = drop n xs

abbrev pub one_as : {A : Type 0} → Option A → ℕ → ℕ
one_as None n = n
one_as (Some y) n = n + 1

abbrev pub plus_as : Option ℕ → ℕ → ℕ
plus_as None n = n
plus_as (Some k) n = n + k

module _ {A B : Type 0} (f : A → Option B) (xs : List A) (x : A) where
  -- A filter_map over one more element has that element's value, if any, at its end.
  pub pushed-after : filter_map f (xs ++ x ∷ []) ≡ push_as (f x) (filter_map f xs)
  pushed-after = go (f x) refl
    where
      go : (o : Option B) → f x ≡ o → filter_map f (xs ++ x ∷ []) ≡ push_as o (filter_map f xs)
      go None e = none-more f xs x e
      go (Some y) e = some-more f xs x y e

  -- A filter_map over one more element is longer by one if the element maps to a value.
  pub one-after : length (filter_map f (xs ++ x ∷ [])) ≡ one_as (f x) (length (filter_map f xs))
  one-after = ap length pushed-after ∙ go (f x)
    where
      go : (o : Option B)
          → length (push_as o (filter_map f xs)) ≡ one_as o (length (filter_map f xs))
      go None = refl
      go (Some y) = length-append (filter_map f xs) (y ∷ [])

  -- The last value of a filter_map is that of the newest element, or else the last one before it.
  pub last-after : (d : B)
      → last_or d (filter_map f (xs ++ x ∷ [])) ≡ unwrap_or (f x) (last_or d (filter_map f xs))
  last-after d = ap (last_or d) pushed-after ∙ go (f x)
    where
      go : (o : Option B)
          → last_or d (push_as o (filter_map f xs)) ≡ unwrap_or o (last_or d (filter_map f xs))
      go None = refl
      go (Some y) = last-more d (filter_map f xs) y

-- The sum of a filter_map grows by the number to which one more element maps, if any.
pub sum-after : {A : Type 0} (f : A → Option ℕ) (xs : List A) (x : A)
    → sum (filter_map f (xs ++ x ∷ [])) ≡ plus_as (f x) (sum (filter_map f xs))
sum-after f xs x = ap sum (pushed-after f xs x) ∙ go (f x)
  where
    go : (o : Option ℕ) → sum (push_as o (filter_map f xs)) ≡ plus_as o (sum (filter_map f xs))
    go None = refl
    go (Some k) = sum-more (filter_map f xs) k

-- A pushed element and a further drop do the same to what a dropped front left as to the whole
-- list.
pub drop-after : {A : Type 0} (o : Option ℕ) (p : Option A) (ns : List ℕ) (xs : List A)
    → sum ns ≤ length xs
    → drop (sum (push_as o ns)) (push_as p xs) ≡ drop_as o (push_as p (drop (sum ns) xs))
drop-after None None ns xs w = refl
drop-after None (Some y) ns xs w = drop-append-le (sum ns) xs (y ∷ []) w
drop-after (Some n) None ns xs w =
    ap (λ k. drop k xs) (sum-more ns n) ∙ sym (drop-drop n (sum ns) xs)
drop-after (Some n) (Some y) ns xs w =
    ap (λ k. drop k (xs ++ y ∷ [])) (sum-more ns n) ∙ sym (drop-drop n (sum ns) (xs ++ y ∷ []))
    ∙ ap (drop n) (drop-append-le (sum ns) xs (y ∷ []) w)

-- A list with these elements after it, if there are some, and its length.
abbrev pub after_as : {A : Type 0} → List A → List A → List A
after_as [] xs = xs
after_as (y ∷ ys) xs = xs ++ y ∷ ys

abbrev pub length_as : {A : Type 0} → List A → ℕ → ℕ
length_as [] n = n
length_as (y ∷ ys) n = n + length (y ∷ ys)

-- `after_as` appends its first list to its second one.
pub after-is : {A : Type 0} (ys xs : List A) → after_as ys xs ≡ xs ++ ys
after-is [] xs = sym (append-nil xs)
after-is (y ∷ ys) xs = refl

-- `length_as` adds the length of a list to a number.
pub length-as-is : {A : Type 0} (ys : List A) (n : ℕ) → length_as ys n ≡ n + length ys
length-as-is [] n = omega arith
length-as-is (y ∷ ys) n = refl

-- The length of two appended lists is that of the first raised by that of the second.
pub length-after : {A : Type 0} (xs ys : List A) → length (xs ++ ys) ≡ length_as ys (length xs)
length-after xs ys = length-append xs ys ∙ sym (length-as-is ys (length xs))

-- ---- what is gathered

gather-append : {A : Type 0} (f : List DeskEvent → DeskEvent → List A)
    (before xs ys : List DeskEvent)
    → gather f before (xs ++ ys) ≡ gather f before xs ++ gather f (before ++ xs) ys
gather-append f before [] ys = ap (λ b. gather f b ys) (sym (append-nil before))
gather-append f before (x ∷ xs) ys =
    ap (λ l. f before x ++ l) (gather-append f (before ++ x ∷ []) xs ys)
    ∙ sym (append_assoc (f before x) (gather f (before ++ x ∷ []) xs)
    (gather f ((before ++ x ∷ []) ++ xs) ys))
    ∙ ap (λ b. f before x ++ gather f (before ++ x ∷ []) xs ++ gather f b ys)
    (append_assoc before (x ∷ []) xs)

-- One more event adds to what is gathered what it adds after the events before it.
pub gather-more : {A : Type 0} (f : List DeskEvent → DeskEvent → List A) (xs : List DeskEvent)
    (x : DeskEvent)
    → gather f [] (xs ++ x ∷ []) ≡ gather f [] xs ++ f xs x
gather-more f xs x =
    gather-append f [] xs (x ∷ []) ∙ ap (λ l. gather f [] xs ++ l) (append-nil (f xs x))

-- ---- stacks

-- Steps and then more steps at a stack leave what the latter make of the former's result.
pub stack-append : {A : Type 0} (below : List A) (xs ys : List (StackStep A))
    → stack_on below (xs ++ ys) ≡ stack_on (stack_on below xs) ys
stack-append below [] ys = refl
stack-append below (push x ∷ xs) ys = stack-append (x ∷ below) xs ys
stack-append below (pop ∷ xs) ys = stack-append (drop 1 below) xs ys

-- Pushed elements are on a stack in reverse order, above what was there.
pub stack-pushes : {A : Type 0} (below xs : List A)
    → stack_on below (map push xs) ≡ reverse xs ++ below
stack-pushes below [] = refl
stack-pushes below (x ∷ xs) =
    stack-pushes (x ∷ below) xs
    ∙ sym
    (ap (λ l. l ++ below) (reverse-append (x ∷ []) xs) ∙ append_assoc (reverse xs) (x ∷ []) below)

-- ---- slices

-- The sum of a list is its first number plus the sum of the rest.
pub sum-cons : (n : ℕ) (ns : List ℕ) → sum (n ∷ ns) ≡ n + sum ns
sum-cons n ns = sum_by-cons (λ (k : ℕ). k) n ns

-- More lengths cut, after the slices of the first ones, slices of what those left over.
pub slices-append : {A : Type 0} (ns ms : List ℕ) (xs ys : List A) → sum ns ≤ length xs
    → slices (ns ++ ms) (xs ++ ys) ≡ slices ns xs ++ slices ms (drop (sum ns) (xs ++ ys))
slices-append [] ms xs ys h = refl
slices-append (n ∷ ns) ms xs ys h =
    let s : sum (n ∷ ns) ≡ n + sum ns = sum-cons n ns in
    let l : n ≤ length xs = omega (arith, s, h) in
    let k : sum ns ≤ length (drop n xs) = omega (arith, s, h, length-drop n xs) in
    let rest : slices (ns ++ ms) (drop n xs ++ ys)
    ≡ slices ns (drop n xs) ++ slices ms (drop (sum ns) (drop n xs ++ ys)) =
    slices-append ns ms (drop n xs) ys k in
    let far : drop (sum ns) (drop n (xs ++ ys)) ≡ drop (sum (n ∷ ns)) (xs ++ ys) =
    drop-drop (sum ns) n (xs ++ ys) ∙ ap (λ i. drop i (xs ++ ys)) (sym s) in
    ap (λ f. f ∷ slices (ns ++ ms) (drop n (xs ++ ys))) (take-append-le n xs ys l)
    ∙ ap (λ r. take n xs ∷ slices (ns ++ ms) r) (drop-append-le n xs ys l)
    ∙ ap (λ r. take n xs ∷ r)
    (rest
    ∙ ap (λ r. slices ns (drop n xs) ++ slices ms r)
    (ap (drop (sum ns)) (sym (drop-append-le n xs ys l)) ∙ far))

-- There are as many slices as lengths.
pub length-slices : {A : Type 0} (ns : List ℕ) (xs : List A) → length (slices ns xs) ≡ length ns
length-slices [] xs = refl
length-slices (n ∷ ns) xs = ap suc (length-slices ns (drop n xs))

-- The element at a list's length is the one that was appended to the list.
pub get-at : {A : Type 0} (xs : List A) (y : A) (n : ℕ) → n ≡ length xs
    → slice_get (xs ++ y ∷ []) n ≡ Some y
get-at [] y n e = rw e refl
get-at (x ∷ xs) y zero e = absurd (omega (arith, e))
get-at (x ∷ xs) y (suc n) e = get-at xs y n (omega (arith, e))

-- An element of a list keeps its place when another list is appended.
pub get-front : {A : Type 0} (xs ys : List A) (n : ℕ) → n < length xs
    → slice_get (xs ++ ys) n ≡ slice_get xs n
get-front [] ys n h = absurd (omega (arith, h))
get-front (x ∷ xs) ys zero h = refl
get-front (x ∷ xs) ys (suc n) h = get-front xs ys n (omega (arith, h))

-- A slice stays the same where there are more slices, and more elements to cut.
pub slice-stays : {A : Type 0} (ns ms : List ℕ) (xs ys : List A) (i : ℕ) → sum ns ≤ length xs
    → i < length ns → slice_get (slices (ns ++ ms) (xs ++ ys)) i ≡ slice_get (slices ns xs) i
slice-stays ns ms xs ys i w l =
    ap (λ ss. slice_get ss i) (slices-append ns ms xs ys w)
    ∙ get-front (slices ns xs) _ i (omega (arith, l, length-slices ns xs))

-- the last slice
abbrev pub last_slice : {A : Type 0} → List ℕ → List A → List A
last_slice ns xs = unwrap_or (slice_get ([] ∷ slices ns xs) (length ns)) []

-- The last slice stays the same where there are more elements to cut.
pub last-slice-stays : {A : Type 0} (ns : List ℕ) (xs ys : List A) → sum ns ≤ length xs
    → last_slice ns (xs ++ ys) ≡ last_slice ns xs
last-slice-stays [] xs ys w = refl
last-slice-stays (n ∷ ns) xs ys w =
    ap (λ ms. unwrap_or (slice_get (slices ms (xs ++ ys)) (length ns)) [])
    (sym (append-nil (n ∷ ns)))
    ∙ ap (λ o. unwrap_or o []) (slice-stays (n ∷ ns) [] xs ys (length ns) w (omega arith))

-- One more slice has the first of the elements after the other slices.
pub last-slice-more : {A : Type 0} (ns : List ℕ) (n : ℕ) (xs : List A) → sum ns ≤ length xs
    → last_slice (ns ++ n ∷ []) xs ≡ take n (drop (sum ns) xs)
last-slice-more {A = A} ns n xs w =
    let l : length (ns ++ n ∷ []) ≡ suc (length (slices ns xs)) =
    length-append ns (n ∷ [])
    ∙ (let i : length ns + 1 ≡ suc (length (slices ns xs)) = omega (arith, length-slices ns xs) in
    i) in
    ap (λ (k : ℕ). unwrap_or (slice_get ([] ∷ slices (ns ++ n ∷ []) xs) k) []) l
    ∙ ap
    (λ (ys : List A). unwrap_or (slice_get (slices (ns ++ n ∷ []) ys) (length (slices ns xs))) [])
    (sym (append-nil xs))
    ∙ ap (λ ss. unwrap_or (slice_get ss (length (slices ns xs))) [])
    (slices-append ns (n ∷ []) xs [] w)
    ∙ ap (λ o. unwrap_or o [])
    (get-at (slices ns xs) (take n (drop (sum ns) (xs ++ []))) (length (slices ns xs)) refl)
    ∙ ap (λ (ys : List A). take n (drop (sum ns) ys)) (append-nil xs)

length-slice-at : {A : Type 0} (ns : List ℕ) (xs : List A) (d i : ℕ) → sum ns ≤ length xs
    → length ns ≡ suc i → length (unwrap_or (slice_get (slices ns xs) i) []) ≡ last_or d ns
length-slice-at [] xs d i w e = absurd (omega (arith, e))
length-slice-at (n ∷ []) xs d zero w e = length-take-le n xs (omega (arith, w))
length-slice-at (n ∷ []) xs d (suc i) w e = absurd (omega (arith, e))
length-slice-at (n ∷ m ∷ ns) xs d zero w e = absurd (omega (arith, e))
length-slice-at (n ∷ m ∷ ns) xs d (suc i) w e =
    length-slice-at (m ∷ ns) (drop n xs) n i
    (omega (arith, w, sum-cons n (m ∷ ns), length-drop n xs)) (omega (arith, e))

-- The last slice is as long as the last length says, if the list has enough elements.
pub length-last-slice : {A : Type 0} (ns : List ℕ) (xs : List A) → sum ns ≤ length xs
    → length (last_slice ns xs) ≡ last_or 0 ns
length-last-slice [] xs w = refl
length-last-slice (n ∷ ns) xs w = length-slice-at (n ∷ ns) xs 0 (length ns) w refl

-- ---- lists of which all have a property

-- A property of all elements of two lists holds of all elements of the lists appended.
pub all-append : {A : Type 0} (P : A → Type 0) (xs ys : List A) → AllByRecursion P xs
    → AllByRecursion P ys → AllByRecursion P (xs ++ ys)
all-append P [] ys a b = b
all-append P (x ∷ xs) ys a b = (a.0, all-append P xs ys a.1 b)

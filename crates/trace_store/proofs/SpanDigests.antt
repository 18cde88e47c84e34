-- The digests of spans and of others after them.
use Rattle.std.proofs.Common.{◌≡◌, ℕ, ◌+◌, ◌-◌, ◌^◌, ◌≤◌, Bool, true, false, cond, List, [], ◌∷◌}
use Rattle.std.proofs.Common.{◌++◌, map, length, Option, Some, None, refl, sym, ◌∙◌, ap, arith}
use Rattle.std.specs.Prelude.{count_by, max, min, not, ◌&&◌, if◌then◌else◌}
use Rattle.std.specs.List.{find}
use Rattle.std.specs.Option.{option_or}
use Rattle.std.specs.Arc.{arc_value}
use Rattle.std.specs.declared.sync.Arc.{Arc}
use Rattle.std.proofs.lemmas.List.{length-append, map-append}
use Rattle.std.proofs.lemmas.List.Folds.{find-append}
use Rattle.std.proofs.lemmas.List.Sums.{sum_by-append}
use Rattle.trace_store.specs.declared.span.ViewSpan.{ViewSpan}
use Rattle.trace_store.specs.Facts.{is_error, names_none}
use Rattle.otlp_read.specs.Memory.{at_most_64_bits}
use Rattle.trace_store.specs.Digests.{TraceFacts, digest_of, digest_of_kept, earliest_start}
use Rattle.trace_store.specs.Digests.{first_of, latest_end, root_between, root_of}

-- ---- times and counts

earliest_low : {A : Type 0} (xs : List (ViewSpan A)) → earliest_start xs ≤ 2 ^ 64 - 1
earliest_low [] = omega arith
earliest_low (x ∷ xs) = omega (arith, earliest_low xs)

earliest-append : {A : Type 0} (xs ys : List (ViewSpan A))
    → earliest_start (xs ++ ys) ≡ min (earliest_start xs) (earliest_start ys)
earliest-append [] ys = omega (arith, earliest_low ys)
earliest-append (x ∷ xs) ys = omega (arith, earliest-append xs ys)

latest-append : {A : Type 0} (xs ys : List (ViewSpan A))
    → latest_end (xs ++ ys) ≡ max (latest_end xs) (latest_end ys)
latest-append [] ys = omega arith
latest-append (x ∷ xs) ys = omega (arith, latest-append xs ys)

count-append : {A : Type 0} (xs ys : List (ViewSpan A))
    → at_most_64_bits (length (xs ++ ys))
    ≡ min (at_most_64_bits (length xs) + at_most_64_bits (length ys)) (2 ^ 64 - 1)
count-append xs ys = omega (arith, length-append xs ys)

errors-append : {A : Type 0} (xs ys : List (ViewSpan A))
    → at_most_64_bits (count_by (λ s. is_error s.span) (xs ++ ys))
    ≡ min (at_most_64_bits (count_by (λ s. is_error s.span) xs)
    + at_most_64_bits (count_by (λ s. is_error s.span) ys))
    (2 ^ 64 - 1)
errors-append xs ys = omega (arith, sum_by-append (λ s. cond (is_error s.span) 1 0) xs ys)

-- ---- the root

some_same : {X : Type 0} (x y : X) → Some x ≡ Some y → x ≡ y
some_same x y h = cc

none_else : {X : Type 0} (b : Bool) (x : X) (rest : Option X) → cond b (Some x) rest ≡ None
    → b ≡ false
none_else true x rest h = cc
none_else false x rest h = refl

passes_by : {X : Type 0} (p : X → Bool) (b : Bool) (y : X) (rest : Option X) (x : X) → p y ≡ b
    → (rest ≡ Some x → p x ≡ true) → cond b (Some y) rest ≡ Some x → p x ≡ true
passes_by p true y rest x t on h = ap p (sym (some_same y x h)) ∙ t
passes_by p false y rest x t on h = on h

-- what is found passes the test
found_passes : {X : Type 0} (p : X → Bool) (xs : List X) (x : X) → find p xs ≡ Some x → p x ≡ true
found_passes p [] x h = cc
found_passes p (y ∷ ys) x h = passes_by p (p y) y (find p ys) x refl (found_passes p ys x) h

-- where none is found, the first doesn't pass it
first_fails : {X : Type 0} (p : X → Bool) (x : X) (xs : List X) → find p (x ∷ xs) ≡ None
    → p x ≡ false
first_fails p x xs h = none_else (p x) x (find p xs) h

-- the first has a root that names no parent
either_way : {X : Type 0} (b : Bool) (x y : X) → x ≡ (if b && not true then y else x)
either_way true x y = refl
either_way false x y = refl

between_found : {A : Type 0} (x : ViewSpan A) (o : Option (ViewSpan A)) → names_none x.span ≡ true
    → Some x ≡ root_between (Some x) o
between_found x None t = refl
between_found x (Some y) t = rw t (either_way (names_none y.span) (Some x) (Some y))

-- it has none, and the second has
between_second : {A : Type 0} (x y : ViewSpan A) → names_none x.span ≡ false
    → names_none y.span ≡ true → Some y ≡ root_between (Some x) (Some y)
between_second x y n t = rw (t, n) refl

-- neither has
between_first : {A : Type 0} (x : ViewSpan A) (ys : List (ViewSpan A))
    → find (λ s. names_none s.span) ys ≡ None → Some x ≡ root_between (Some x) (first_of ys)
between_first x [] h = refl
between_first x (y ∷ ys) h = rw (first_fails (λ s. names_none s.span) y ys h) refl

root_by : {A : Type 0} (x : ViewSpan A) (xs ys : List (ViewSpan A)) (fx fy : Option (ViewSpan A))
    → find (λ s. names_none s.span) (x ∷ xs) ≡ fx → find (λ s. names_none s.span) ys ≡ fy
    → option_or (option_or fx fy) (Some x)
    ≡ root_between (option_or fx (Some x)) (option_or fy (first_of ys))
root_by x xs ys (Some f) fy ex ey =
    between_found f (option_or fy (first_of ys))
    (found_passes (λ s. names_none s.span) (x ∷ xs) f ex)
root_by x xs ys None (Some y) ex ey =
    between_second x y (first_fails (λ s. names_none s.span) x xs ex)
    (found_passes (λ s. names_none s.span) ys y ey)
root_by x xs ys None None ex ey = between_first x ys ey

root-append : {A : Type 0} (xs ys : List (ViewSpan A))
    → root_of (xs ++ ys) ≡ root_between (root_of xs) (root_of ys)
root-append [] ys = refl
root-append (x ∷ xs) ys =
    ap (λ o. option_or o (Some x)) (find-append (λ s. names_none s.span) (x ∷ xs) ys)
    ∙ root_by x xs ys (find (λ s. names_none s.span) (x ∷ xs))
    (find (λ s. names_none s.span) ys) refl refl

-- ---- all of it

-- the digest of spans and of others after them
abbrev pub joined : {A : Type 0} → TraceFacts (ViewSpan A) → TraceFacts (ViewSpan A)
    → TraceFacts (ViewSpan A)
joined first second = record {
  root = root_between first.root second.root;
  start_time_unix_nano = min first.start_time_unix_nano second.start_time_unix_nano;
  end_time_unix_nano = max first.end_time_unix_nano second.end_time_unix_nano;
  span_count = min (first.span_count + second.span_count) (2 ^ 64 - 1);
  error_count = min (first.error_count + second.error_count) (2 ^ 64 - 1);
}

same_facts : {A : Type 0} (r r' : Option (ViewSpan A)) (s s' e e' n n' f f' : ℕ) → r ≡ r' → s ≡ s'
    → e ≡ e' → n ≡ n' → f ≡ f'
    → ◌≡◌ {A = TraceFacts (ViewSpan A)}
    (record {
      root = r;
      start_time_unix_nano = s;
      end_time_unix_nano = e;
      span_count = n;
      error_count = f;
    })
    (record {
      root = r';
      start_time_unix_nano = s';
      end_time_unix_nano = e';
      span_count = n';
      error_count = f';
    })
same_facts r r' s s' e e' n n' f f' hr hs he hn hf = rw (hr, hs, he, hn, hf) refl

-- A digest is the joined one of two digests where each of its parts is joined from theirs.
pub joined_is : {A : Type 0} (a b : TraceFacts (ViewSpan A)) (r : Option (ViewSpan A)) (s e n f : ℕ)
    → r ≡ root_between a.root b.root → s ≡ min a.start_time_unix_nano b.start_time_unix_nano
    → e ≡ max a.end_time_unix_nano b.end_time_unix_nano
    → n ≡ min (a.span_count + b.span_count) (2 ^ 64 - 1)
    → f ≡ min (a.error_count + b.error_count) (2 ^ 64 - 1)
    → ◌≡◌ {A = TraceFacts (ViewSpan A)}
    (record {
      root = r;
      start_time_unix_nano = s;
      end_time_unix_nano = e;
      span_count = n;
      error_count = f;
    })
    (joined a b)
joined_is a b r s e n f hr hs he hn hf = same_facts _ _ _ _ _ _ _ _ _ _ hr hs he hn hf

digest-append : {A : Type 0} (xs ys : List (ViewSpan A))
    → digest_of (xs ++ ys) ≡ joined (digest_of xs) (digest_of ys)
digest-append xs ys =
    same_facts _ _ _ _ _ _ _ _ _ _ (root-append xs ys) (earliest-append xs ys) (latest-append xs ys)
    (count-append xs ys) (errors-append xs ys)

-- The digest of kept spans and of others after them is the joined digest of both.
pub kept-append : {A : Type 0} (xs ys : List (Arc (ViewSpan A) A))
    → digest_of_kept (xs ++ ys) ≡ joined (digest_of_kept xs) (digest_of_kept ys)
kept-append xs ys =
    ap digest_of (map-append arc_value xs ys) ∙ digest-append (map arc_value xs) (map arc_value ys)

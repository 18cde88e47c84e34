-- How one more line changes what lines are together.
use Rattle.std.proofs.Common.{◌≡◌, ℕ, zero, suc, ◌+◌, ◌<◌, ◌≤◌, Bool, true, false, not, ◌&&◌, eqb}
use Rattle.std.proofs.Common.{ltb, List, [], ◌∷◌, ◌++◌, length, map, Option, Some, None, inl, inr}
use Rattle.std.proofs.Common.{refl, sym, ap, ◌∙◌, append-nil, add-zero, zero-add, arith}
use Rattle.std.specs.Prelude.{if◌then◌else◌, is_some, flat_map, filter_map}
use Rattle.std.specs.List.{list_all}
use Rattle.std.proofs.lemmas.Bool.{and_parts, cases_Bool, eqb-true, eq-eqb, ne_eqb, ltb-true}
use Rattle.std.proofs.lemmas.List.{map_push, length-map}
use Rattle.std.proofs.lemmas.List.Elements.{filter_map-append}
use Rattle.std.proofs.lemmas.List.Concat.{flat_map-append}
use Rattle.model_span.specs.Attributes as attributes
use Rattle.model_span.specs.Spans as spans
use Rattle.trace_script.specs.Lines.{Line, words, sampler, limits, desk, max_body, resource, scope}
use Rattle.trace_script.specs.Lines.{scope_attribute, outcome, step}
use Rattle.trace_script.specs.Scripts.{with_attributes, is_step, is_setting, words_in, sampler_in}
use Rattle.trace_script.specs.Scripts.{limits_in, desk_in, max_body_in, attribute_in, scope_in}
use Rattle.trace_script.specs.Scripts.{attribute_on, outcome_in, step_in, settings_first}
use Rattle.trace_script.specs.Scripts.{at_most_one, numbered_from, on_scopes_before, is_script}
use Rattle.trace_script.specs.Scripts.{first_of, scopes_of, contents_of}
use Rattle.trace_script.specs.Drafts.{no_items, fits, set_on, extended_script}

-- ---- truth values

and_true : (a : Bool) → (a && true) ≡ a
and_true true = refl
and_true false = refl

and_false : (a : Bool) → (a && false) ≡ false
and_false true = refl
and_false false = refl

and_assoc : (a b c : Bool) → (a && (b && c)) ≡ ((a && b) && c)
and_assoc true b c = refl
and_assoc false b c = refl

and_swap : (a b c : Bool) → ((a && b) && c) ≡ ((a && c) && b)
and_swap true true c = sym (and_true c)
and_swap true false c = sym (and_false c)
and_swap false b c = refl

and_comm : (a b : Bool) → (a && b) ≡ (b && a)
and_comm true b = sym (and_true b)
and_comm false b = sym (and_false b)

-- one more of what may be there once
once : {X : Type 0} (a b : Bool) (xs : List X) (c : Bool)
    → ((a && b) && (no_items xs && c))
    ≡ ((a && (at_most_one xs && c)) && (b && not (is_some (first_of xs))))
once true true [] c = sym (and_true c)
once true true (x ∷ xs) c = sym (and_false (at_most_one (x ∷ xs) && c))
once true false xs c = sym (and_false (at_most_one xs && c))
once false b xs c = refl

-- a scope, after those before it
placed : (a b x y c : Bool)
    → ((a && b) && ((x && (c && true)) && y)) ≡ ((a && (x && y)) && (b && c))
placed false b x y c = refl
placed true b false y c = and_false b
placed true b true y false = and_false b ∙ sym (and_false y) ∙ ap (λ e. y && e) (sym (and_false b))
placed true b true y true =
    ap (λ e. b && e) refl ∙ and_comm b y ∙ ap (λ e. y && e) (sym (and_true b))

-- an attribute, after those before it
after_others : (a b y c : Bool) → ((a && b) && (y && (c && true))) ≡ ((a && y) && (b && c))
after_others false b y c = refl
after_others true b false c = and_false b
after_others true b true true = refl
after_others true b true false = refl

-- the same after another condition
appended : (a b m x y z : Bool) → ((a && b) && x) ≡ ((a && y) && z)
    → ((a && b) && (m && x)) ≡ ((a && (m && y)) && z)
appended a b true x y z e = e
appended true b false x y z e = and_false b
appended false b false x y z e = refl

-- ---- one more line

-- whether a line may come after a step
abbrev may_follow : Line → Bool
may_follow l = not (is_setting l)

all_last : (ls : List Line) (l : Line)
    → list_all may_follow (ls ++ l ∷ []) ≡ (list_all may_follow ls && may_follow l)
all_last [] l = and_true (may_follow l)
all_last (x ∷ ls) l =
    ap (λ b. may_follow x && b) (all_last ls l)
    ∙ and_assoc (may_follow x) (list_all may_follow ls) (may_follow l)

one_alone : (b : Bool) → (if b then true else true) ≡ true
one_alone true = refl
one_alone false = refl

-- no setting is added
others_last : (ls : List Line) (l : Line) → is_setting l ≡ false
    → settings_first (ls ++ l ∷ []) ≡ settings_first ls
others_last [] l e = one_alone (is_step l)
others_last (words ws ∷ ls) l e = others_last ls l e
others_last (sampler name ∷ ls) l e = others_last ls l e
others_last (limits x ∷ ls) l e = others_last ls l e
others_last (desk c ∷ ls) l e = others_last ls l e
others_last (max_body n ∷ ls) l e = others_last ls l e
others_last (resource p ∷ ls) l e = others_last ls l e
others_last (scope n x ∷ ls) l e = others_last ls l e
others_last (scope_attribute n p ∷ ls) l e = others_last ls l e
others_last (outcome o ∷ ls) l e = others_last ls l e
others_last (step x ∷ ls) l e =
    all_last ls l ∙ ap (λ b. list_all may_follow ls && not b) e ∙ and_true (list_all may_follow ls)

setting_last : (ls : List Line) (l : Line) → is_setting l ≡ true
    → settings_first (ls ++ l ∷ []) ≡ (settings_first ls && no_items (filter_map step_in ls))
setting_last [] l e = one_alone (is_step l)
setting_last (words ws ∷ ls) l e = setting_last ls l e
setting_last (sampler name ∷ ls) l e = setting_last ls l e
setting_last (limits x ∷ ls) l e = setting_last ls l e
setting_last (desk c ∷ ls) l e = setting_last ls l e
setting_last (max_body n ∷ ls) l e = setting_last ls l e
setting_last (resource p ∷ ls) l e = setting_last ls l e
setting_last (scope n x ∷ ls) l e = setting_last ls l e
setting_last (scope_attribute n p ∷ ls) l e = setting_last ls l e
setting_last (outcome o ∷ ls) l e = setting_last ls l e
setting_last (step x ∷ ls) l e = all_last ls l ∙ ap (λ b. list_all may_follow ls && not b) e

two_if_some : {X : Type 0} (xs : List X) (x : X) → at_most_one (xs ++ x ∷ []) ≡ no_items xs
two_if_some [] x = refl
two_if_some (y ∷ []) x = refl
two_if_some (y ∷ z ∷ ys) x = refl

number_last : (m : ℕ) (xs : List (ℕ × spans.Scope)) (n : ℕ) (x : spans.Scope)
    → numbered_from m (xs ++ (n, x) ∷ []) ≡ (numbered_from m xs && (eqb n (m + length xs) && true))
number_last m [] n x = ap (λ k. eqb n k && true) (sym (add-zero m))
number_last m ((k, y) ∷ xs) n x =
    ap (λ b. eqb k m && b)
    (number_last (m + 1) xs n x
    ∙ ap (λ i. numbered_from (m + 1) xs && (eqb n i && true)) (omega arith))
    ∙ and_assoc (eqb k m) (numbered_from (m + 1) xs) (eqb n (m + length ((k, y) ∷ xs)) && true)

-- the last line comes after all scopes
before_last : (n : ℕ) (ls : List Line) (l : Line)
    → on_scopes_before n (ls ++ l ∷ [])
    ≡ (on_scopes_before n ls && on_scopes_before (n + length (filter_map scope_in ls)) (l ∷ []))
before_last n [] l = ap (λ k. on_scopes_before k (l ∷ [])) (sym (add-zero n))
before_last n (words ws ∷ ls) l = before_last n ls l
before_last n (sampler name ∷ ls) l = before_last n ls l
before_last n (limits x ∷ ls) l = before_last n ls l
before_last n (desk c ∷ ls) l = before_last n ls l
before_last n (max_body m ∷ ls) l = before_last n ls l
before_last n (resource p ∷ ls) l = before_last n ls l
before_last n (scope m x ∷ ls) l =
    before_last (n + 1) ls l
    ∙ ap (λ k. on_scopes_before (n + 1) ls && on_scopes_before k (l ∷ [])) (omega arith)
before_last n (scope_attribute m p ∷ ls) l =
    ap (λ b. ltb m n && b) (before_last n ls l)
    ∙ and_assoc (ltb m n) (on_scopes_before n ls)
    (on_scopes_before (n + length (filter_map scope_in ls)) (l ∷ []))
before_last n (outcome o ∷ ls) l = before_last n ls l
before_last n (step x ∷ ls) l = before_last n ls l

-- no attribute of a scope is added
same_before : (ls : List Line) (l : Line)
    → on_scopes_before (0 + length (filter_map scope_in ls)) (l ∷ []) ≡ true
    → on_scopes_before 0 (ls ++ l ∷ []) ≡ on_scopes_before 0 ls
same_before ls l e = before_last 0 ls l ∙ rw e (and_true (on_scopes_before 0 ls))

none_more : {Y : Type 0} (h : Line → Option Y) (ls : List Line) (l : Line) → h l ≡ None
    → filter_map h (ls ++ l ∷ []) ≡ filter_map h ls
none_more h ls l e = filter_map-append h ls (l ∷ []) ∙ rw e (append-nil (filter_map h ls))

one_more : {Y : Type 0} (h : Line → Option Y) (ls : List Line) (l : Line) (y : Y) → h l ≡ Some y
    → filter_map h (ls ++ l ∷ []) ≡ filter_map h ls ++ y ∷ []
one_more h ls l y e = filter_map-append h ls (l ∷ []) ∙ rw e refl

words_more : (ls : List Line) (l : Line)
    → flat_map words_in (ls ++ l ∷ []) ≡ flat_map words_in ls ++ words_in l
words_more ls l =
    flat_map-append words_in ls (l ∷ [])
    ∙ ap (λ ws. flat_map words_in ls ++ ws) (append-nil (words_in l))

no_words_more : (ls : List Line) (l : Line) → words_in l ≡ []
    → flat_map words_in (ls ++ l ∷ []) ≡ flat_map words_in ls
no_words_more ls l e = words_more ls l ∙ rw e (append-nil (flat_map words_in ls))

-- how many scopes there are, by their lines
scope_count : (ls : List Line) → length (scopes_of ls) ≡ 0 + length (filter_map scope_in ls)
scope_count ls =
    length-map (filter_map scope_in ls) _ ∙ sym (zero-add (length (filter_map scope_in ls)))

-- Lines are a script with one more line where they are one and the line fits them.
pub is_last : (ls : List Line) (l : Line)
    → is_script (ls ++ l ∷ []) ≡ (is_script ls && fits (contents_of ls) l)
is_last ls (words ws) =
    let l = words ws in
    rw (
      setting_last ls l refl,
      none_more sampler_in ls l refl,
      none_more limits_in ls l refl,
      none_more desk_in ls l refl,
      none_more max_body_in ls l refl,
      none_more scope_in ls l refl,
      same_before ls l refl,
    )
    (and_swap (settings_first ls) (no_items (filter_map step_in ls)) _)
is_last ls (sampler name) =
    let l = sampler name in
    rw (
      setting_last ls l refl,
      one_more sampler_in ls l name refl,
      two_if_some (filter_map sampler_in ls) name,
      none_more limits_in ls l refl,
      none_more desk_in ls l refl,
      none_more max_body_in ls l refl,
      none_more scope_in ls l refl,
      same_before ls l refl,
    )
    (once (settings_first ls) (no_items (filter_map step_in ls)) (filter_map sampler_in ls) _)
is_last ls (limits x) =
    let l = limits x in
    rw (
      setting_last ls l refl,
      none_more sampler_in ls l refl,
      one_more limits_in ls l x refl,
      two_if_some (filter_map limits_in ls) x,
      none_more desk_in ls l refl,
      none_more max_body_in ls l refl,
      none_more scope_in ls l refl,
      same_before ls l refl,
    )
    (appended (settings_first ls) (no_items (filter_map step_in ls))
    (at_most_one (filter_map sampler_in ls)) _ _ _
    (once (settings_first ls) (no_items (filter_map step_in ls)) (filter_map limits_in ls) _))
is_last ls (desk c) =
    let l = desk c in
    rw (
      setting_last ls l refl,
      none_more sampler_in ls l refl,
      none_more limits_in ls l refl,
      one_more desk_in ls l c refl,
      two_if_some (filter_map desk_in ls) c,
      none_more max_body_in ls l refl,
      none_more scope_in ls l refl,
      same_before ls l refl,
    )
    (appended (settings_first ls) (no_items (filter_map step_in ls))
    (at_most_one (filter_map sampler_in ls)) _ _ _
    (appended (settings_first ls) (no_items (filter_map step_in ls))
    (at_most_one (filter_map limits_in ls)) _ _ _
    (once (settings_first ls) (no_items (filter_map step_in ls)) (filter_map desk_in ls) _)))
is_last ls (max_body n) =
    let l = max_body n in
    rw (
      setting_last ls l refl,
      none_more sampler_in ls l refl,
      none_more limits_in ls l refl,
      none_more desk_in ls l refl,
      one_more max_body_in ls l n refl,
      two_if_some (filter_map max_body_in ls) n,
      none_more scope_in ls l refl,
      same_before ls l refl,
    )
    (appended (settings_first ls) (no_items (filter_map step_in ls))
    (at_most_one (filter_map sampler_in ls)) _ _ _
    (appended (settings_first ls) (no_items (filter_map step_in ls))
    (at_most_one (filter_map limits_in ls)) _ _ _
    (appended (settings_first ls) (no_items (filter_map step_in ls))
    (at_most_one (filter_map desk_in ls)) _ _ _
    (once (settings_first ls) (no_items (filter_map step_in ls)) (filter_map max_body_in ls) _))))
is_last ls (resource p) =
    let l = resource p in
    rw (
      setting_last ls l refl,
      none_more sampler_in ls l refl,
      none_more limits_in ls l refl,
      none_more desk_in ls l refl,
      none_more max_body_in ls l refl,
      none_more scope_in ls l refl,
      same_before ls l refl,
    )
    (and_swap (settings_first ls) (no_items (filter_map step_in ls)) _)
is_last ls (scope n x) =
    let l = scope n x in
    rw (
      setting_last ls l refl,
      none_more sampler_in ls l refl,
      none_more limits_in ls l refl,
      none_more desk_in ls l refl,
      none_more max_body_in ls l refl,
      one_more scope_in ls l (n, x) refl,
      number_last 0 (filter_map scope_in ls) n x,
      same_before ls l refl,
      scope_count ls,
    )
    (appended (settings_first ls) (no_items (filter_map step_in ls))
    (at_most_one (filter_map sampler_in ls)) _ _ _
    (appended (settings_first ls) (no_items (filter_map step_in ls))
    (at_most_one (filter_map limits_in ls)) _ _ _
    (appended (settings_first ls) (no_items (filter_map step_in ls))
    (at_most_one (filter_map desk_in ls)) _ _ _
    (appended (settings_first ls) (no_items (filter_map step_in ls))
    (at_most_one (filter_map max_body_in ls)) _ _ _
    (placed (settings_first ls) (no_items (filter_map step_in ls))
    (numbered_from 0 (filter_map scope_in ls)) (on_scopes_before 0 ls) _)))))
is_last ls (scope_attribute n p) =
    let l = scope_attribute n p in
    rw (
      setting_last ls l refl,
      none_more sampler_in ls l refl,
      none_more limits_in ls l refl,
      none_more desk_in ls l refl,
      none_more max_body_in ls l refl,
      none_more scope_in ls l refl,
      before_last 0 ls l,
      scope_count ls,
    )
    (appended (settings_first ls) (no_items (filter_map step_in ls))
    (at_most_one (filter_map sampler_in ls)) _ _ _
    (appended (settings_first ls) (no_items (filter_map step_in ls))
    (at_most_one (filter_map limits_in ls)) _ _ _
    (appended (settings_first ls) (no_items (filter_map step_in ls))
    (at_most_one (filter_map desk_in ls)) _ _ _
    (appended (settings_first ls) (no_items (filter_map step_in ls))
    (at_most_one (filter_map max_body_in ls)) _ _ _
    (appended (settings_first ls) (no_items (filter_map step_in ls))
    (numbered_from 0 (filter_map scope_in ls)) _ _ _
    (after_others (settings_first ls) (no_items (filter_map step_in ls))
    (on_scopes_before 0 ls) _))))))
is_last ls (outcome o) =
    let l = outcome o in
    rw (
      others_last ls l refl,
      none_more sampler_in ls l refl,
      none_more limits_in ls l refl,
      none_more desk_in ls l refl,
      none_more max_body_in ls l refl,
      none_more scope_in ls l refl,
      same_before ls l refl,
    )
    (sym (and_true (is_script ls)))
is_last ls (step x) =
    let l = step x in
    rw (
      others_last ls l refl,
      none_more sampler_in ls l refl,
      none_more limits_in ls l refl,
      none_more desk_in ls l refl,
      none_more max_body_in ls l refl,
      none_more scope_in ls l refl,
      same_before ls l refl,
    )
    (sym (and_true (is_script ls)))

first_last : {X : Type 0} (xs : List X) (x : X) → not (is_some (first_of xs)) ≡ true
    → first_of (xs ++ x ∷ []) ≡ Some x
first_last [] x e = refl
first_last (y ∷ ys) x e = cc

-- ---- scopes

-- what is made of the scopes of lines, where it is the same for each
same_each : {X Y : Type 0} (f g : X → Y) (xs : List X) → ((x : X) → f x ≡ g x) → map f xs ≡ map g xs
same_each f g [] same = refl
same_each f g (x ∷ xs) same = rw same (ap (λ ys. g x ∷ ys) (same_each f g xs same))

-- a line that is about no scope
same_scopes : (ls : List Line) (l : Line) → scope_in l ≡ None → ((n : ℕ) → attribute_on n l ≡ None)
    → scopes_of (ls ++ l ∷ []) ≡ scopes_of ls
same_scopes ls l e none =
    rw (none_more scope_in ls l e)
    (same_each _ _ (filter_map scope_in ls)
    (λ p. ap (λ ps. with_attributes ps p.1) (none_more (attribute_on p.0) ls l (none p.0))))

-- no attribute comes before its scope
nothing_on : (m n : ℕ) (ls : List Line) → on_scopes_before m ls ≡ true
    → m + length (filter_map scope_in ls) ≤ n → filter_map (attribute_on n) ls ≡ []
nothing_on m n [] e h = refl
nothing_on m n (words ws ∷ ls) e h = nothing_on m n ls e h
nothing_on m n (sampler name ∷ ls) e h = nothing_on m n ls e h
nothing_on m n (limits x ∷ ls) e h = nothing_on m n ls e h
nothing_on m n (desk c ∷ ls) e h = nothing_on m n ls e h
nothing_on m n (max_body k ∷ ls) e h = nothing_on m n ls e h
nothing_on m n (resource p ∷ ls) e h = nothing_on m n ls e h
nothing_on m n (scope k x ∷ ls) e h = nothing_on (m + 1) n ls e (omega (arith, h))
nothing_on m n (scope_attribute k p ∷ ls) e h =
    let both = and_parts (ltb k m) (on_scopes_before m ls) e in
    let small : k < m = ltb-true k m both.0 in
    rw (ne_eqb k n (λ same. omega (arith, small, same, h))) (nothing_on m n ls both.1 h)
nothing_on m n (outcome o ∷ ls) e h = nothing_on m n ls e h
nothing_on m n (step x ∷ ls) e h = nothing_on m n ls e h

record ScopesPlaced (ls : List Line) : Type 0 where
  numbers : numbered_from 0 (filter_map scope_in ls) ≡ true
  before : on_scopes_before 0 ls ≡ true

scopes_placed : (ls : List Line) → is_script ls ≡ true → ScopesPlaced ls
scopes_placed ls e =
    let a = and_parts (settings_first ls) _ e in
    let b = and_parts (at_most_one (filter_map sampler_in ls)) _ a.1 in
    let c = and_parts (at_most_one (filter_map limits_in ls)) _ b.1 in
    let d = and_parts (at_most_one (filter_map desk_in ls)) _ c.1 in
    let m = and_parts (at_most_one (filter_map max_body_in ls)) _ d.1 in
    let f = and_parts (numbered_from 0 (filter_map scope_in ls)) _ m.1 in
    record { numbers = f.0; before = f.1 }

-- a line of a scope
next_scope : (ls : List Line) (n : ℕ) (x : spans.Scope) → on_scopes_before 0 ls ≡ true
    → eqb n (length (scopes_of ls)) ≡ true
    → scopes_of (ls ++ scope n x ∷ []) ≡ scopes_of ls ++ with_attributes [] x ∷ []
next_scope ls n x before e =
    let l = scope n x in
    let same : n ≡ length (scopes_of ls) = eqb-true n (length (scopes_of ls)) e in
    let none : filter_map (attribute_on n) ls ≡ [] =
    nothing_on 0 n ls before (omega (arith, same, scope_count ls)) in
    rw (one_more scope_in ls l (n, x) refl)
    (map_push _ (filter_map scope_in ls) (n, x)
    ∙ rw (none_more (attribute_on n) ls l refl, none)
    (ap (λ ys. ys ++ with_attributes [] x ∷ [])
    (same_each _ _ (filter_map scope_in ls)
    (λ p. ap (λ ps. with_attributes ps p.1) (none_more (attribute_on p.0) ls l refl)))))

-- with another attribute on the scope of this number
abbrev one_on : ℕ → attributes.Attribute → List attributes.Attribute → ℕ → List attributes.Attribute
one_on k p before n = if eqb k n then before ++ p ∷ [] else before

on_last : (ls : List Line) (n k : ℕ) (p : attributes.Attribute)
    → filter_map (attribute_on n) (ls ++ scope_attribute k p ∷ [])
    ≡ one_on k p (filter_map (attribute_on n) ls) n
on_last ls n k p =
    filter_map-append (attribute_on n) ls (scope_attribute k p ∷ [])
    ∙ elim (cases_Bool (eqb k n)) [
      | inl e ↦ rw e refl
      | inr e ↦ rw e (append-nil (filter_map (attribute_on n) ls))
    ]

-- the scopes from one on that comes after that of the number
rest_on : (m k : ℕ) (p : attributes.Attribute) (f : ℕ → List attributes.Attribute)
    (xs : List (ℕ × spans.Scope))
    → k < m → numbered_from m xs ≡ true
    → map (λ q. with_attributes (one_on k p (f q.0) q.0) q.1) xs
    ≡ map (λ q. with_attributes (f q.0) q.1) xs
rest_on m k p f [] h e = refl
rest_on m k p f ((n, x) ∷ xs) h e =
    let both = and_parts (eqb n m) (numbered_from (m + 1) xs) e in
    let same : n ≡ m = eqb-true n m both.0 in
    rw (ne_eqb k n (λ equal. omega (arith, h, same, equal)))
    (ap (λ ys. with_attributes (f n) x ∷ ys) (rest_on (m + 1) k p f xs (omega (arith, h)) both.1))

-- the scopes from that with the number m on
placed_on : (m j k : ℕ) (p : attributes.Attribute) (f : ℕ → List attributes.Attribute)
    (xs : List (ℕ × spans.Scope))
    → k ≡ m + j → numbered_from m xs ≡ true
    → map (λ q. with_attributes (one_on k p (f q.0) q.0) q.1) xs
    ≡ set_on j p (map (λ q. with_attributes (f q.0) q.1) xs)
placed_on m j k p f [] at e = refl
placed_on m zero k p f ((n, x) ∷ xs) at e =
    let both = and_parts (eqb n m) (numbered_from (m + 1) xs) e in
    let same : n ≡ m = eqb-true n m both.0 in
    rw (eq-eqb k n (omega (arith, at, same)))
    (ap (λ ys. with_attributes (f n ++ p ∷ []) x ∷ ys)
    (rest_on (m + 1) k p f xs (omega (arith, at)) both.1))
placed_on m (suc j) k p f ((n, x) ∷ xs) at e =
    let both = and_parts (eqb n m) (numbered_from (m + 1) xs) e in
    let same : n ≡ m = eqb-true n m both.0 in
    rw (ne_eqb k n (λ equal. omega (arith, at, same, equal)))
    (ap (λ ys. with_attributes (f n) x ∷ ys)
    (placed_on (m + 1) j k p f xs (omega (arith, at)) both.1))

-- a line of an attribute
next_attribute : (ls : List Line) (k : ℕ) (p : attributes.Attribute)
    → numbered_from 0 (filter_map scope_in ls) ≡ true
    → scopes_of (ls ++ scope_attribute k p ∷ []) ≡ set_on k p (scopes_of ls)
next_attribute ls k p numbers =
    let l = scope_attribute k p in
    rw (none_more scope_in ls l refl)
    (same_each _ _ (filter_map scope_in ls)
    (λ q. ap (λ ps. with_attributes ps q.1) (on_last ls q.0 k p))
    ∙ placed_on 0 k k p (λ n. filter_map (attribute_on n) ls) (filter_map scope_in ls)
    (omega arith) numbers)

-- A script with one more line that fits says what the line adds to it.
pub contents_last : (ls : List Line) (l : Line) → is_script ls ≡ true
    → fits (contents_of ls) l ≡ true
    → contents_of (ls ++ l ∷ []) ≡ extended_script (contents_of ls) l
contents_last ls (words ws) is e =
    let l = words ws in
    rw (
      words_more ls l,
      none_more sampler_in ls l refl,
      none_more limits_in ls l refl,
      none_more desk_in ls l refl,
      none_more max_body_in ls l refl,
      none_more attribute_in ls l refl,
      same_scopes ls l refl (λ n. refl),
      none_more outcome_in ls l refl,
      none_more step_in ls l refl,
    ) refl
contents_last ls (sampler name) is e =
    let l = sampler name in
    let only = first_last (filter_map sampler_in ls) name (and_parts _ _ e).1 in
    rw (
      no_words_more ls l refl,
      one_more sampler_in ls l name refl,
      only,
      none_more limits_in ls l refl,
      none_more desk_in ls l refl,
      none_more max_body_in ls l refl,
      none_more attribute_in ls l refl,
      same_scopes ls l refl (λ n. refl),
      none_more outcome_in ls l refl,
      none_more step_in ls l refl,
    ) refl
contents_last ls (limits x) is e =
    let l = limits x in
    let only = first_last (filter_map limits_in ls) x (and_parts _ _ e).1 in
    rw (
      no_words_more ls l refl,
      none_more sampler_in ls l refl,
      one_more limits_in ls l x refl,
      only,
      none_more desk_in ls l refl,
      none_more max_body_in ls l refl,
      none_more attribute_in ls l refl,
      same_scopes ls l refl (λ n. refl),
      none_more outcome_in ls l refl,
      none_more step_in ls l refl,
    ) refl
contents_last ls (desk c) is e =
    let l = desk c in
    let only = first_last (filter_map desk_in ls) c (and_parts _ _ e).1 in
    rw (
      no_words_more ls l refl,
      none_more sampler_in ls l refl,
      none_more limits_in ls l refl,
      one_more desk_in ls l c refl,
      only,
      none_more max_body_in ls l refl,
      none_more attribute_in ls l refl,
      same_scopes ls l refl (λ n. refl),
      none_more outcome_in ls l refl,
      none_more step_in ls l refl,
    ) refl
contents_last ls (max_body n) is e =
    let l = max_body n in
    let only = first_last (filter_map max_body_in ls) n (and_parts _ _ e).1 in
    rw (
      no_words_more ls l refl,
      none_more sampler_in ls l refl,
      none_more limits_in ls l refl,
      none_more desk_in ls l refl,
      one_more max_body_in ls l n refl,
      only,
      none_more attribute_in ls l refl,
      same_scopes ls l refl (λ n. refl),
      none_more outcome_in ls l refl,
      none_more step_in ls l refl,
    ) refl
contents_last ls (resource p) is e =
    let l = resource p in
    rw (
      no_words_more ls l refl,
      none_more sampler_in ls l refl,
      none_more limits_in ls l refl,
      none_more desk_in ls l refl,
      none_more max_body_in ls l refl,
      one_more attribute_in ls l p refl,
      same_scopes ls l refl (λ n. refl),
      none_more outcome_in ls l refl,
      none_more step_in ls l refl,
    ) refl
contents_last ls (scope n x) is e =
    let l = scope n x in
    let next = (and_parts (no_items (filter_map step_in ls)) (eqb n (length (scopes_of ls))) e).1 in
    rw (
      no_words_more ls l refl,
      none_more sampler_in ls l refl,
      none_more limits_in ls l refl,
      none_more desk_in ls l refl,
      none_more max_body_in ls l refl,
      none_more attribute_in ls l refl,
      next_scope ls n x (scopes_placed ls is).before next,
      none_more outcome_in ls l refl,
      none_more step_in ls l refl,
    ) refl
contents_last ls (scope_attribute n p) is e =
    let l = scope_attribute n p in
    rw (
      no_words_more ls l refl,
      none_more sampler_in ls l refl,
      none_more limits_in ls l refl,
      none_more desk_in ls l refl,
      none_more max_body_in ls l refl,
      none_more attribute_in ls l refl,
      next_attribute ls n p (scopes_placed ls is).numbers,
      none_more outcome_in ls l refl,
      none_more step_in ls l refl,
    ) refl
contents_last ls (outcome o) is e =
    let l = outcome o in
    rw (
      no_words_more ls l refl,
      none_more sampler_in ls l refl,
      none_more limits_in ls l refl,
      none_more desk_in ls l refl,
      none_more max_body_in ls l refl,
      none_more attribute_in ls l refl,
      same_scopes ls l refl (λ n. refl),
      one_more outcome_in ls l o refl,
      none_more step_in ls l refl,
    ) refl
contents_last ls (step x) is e =
    let l = step x in
    rw (
      no_words_more ls l refl,
      none_more sampler_in ls l refl,
      none_more limits_in ls l refl,
      none_more desk_in ls l refl,
      none_more max_body_in ls l refl,
      none_more attribute_in ls l refl,
      same_scopes ls l refl (λ n. refl),
      none_more outcome_in ls l refl,
      one_more step_in ls l x refl,
    ) refl

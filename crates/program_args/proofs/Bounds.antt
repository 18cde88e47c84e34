-- What clap finds for an option is a number that it takes.
use Rattle.std.proofs.Common.{◌≡◌, ◌∙◌, ◌<◌, ◌&&◌, ◌||◌, ap, ℕ, zero, suc, Bool, true, false, not}
use Rattle.std.proofs.Common.{List, [], ◌∷◌, length, Option, Some, None, refl, sym, subst, inl, inr}
use Rattle.std.proofs.Common.{arith, codes, map}
use Rattle.std.specs.Prelude.{Err, IfOk, IfSome, IsTrue, Ok, Result, option_map, slice_get}
use Rattle.std.specs.Prelude.{unwrap_or}
use Rattle.std.specs.List.{All, list_any, slice_index_or}
use Rattle.std.specs.Str.{bytes_eq}
use Rattle.std.specs.Borrow.{Bor}
use Rattle.std.proofs.lemmas.Bool.{and_parts}
use Rattle.std.proofs.lemmas.List.{get_or-map, length-map}
use Rattle.std.proofs.lemmas.List.Elements.{All-get_or}
use Rattle.std.proofs.lemmas.Slice.Eq.{bytes_eq-Decides}
use Rattle.clap.specs.Facts.{args_of, groups_of, Entry, EntryPasses, PassesArg, parser_of}
use Rattle.clap.specs.Facts.{parser_of_value}
use Rattle.clap.specs.Built.{IsParsedFrom, IsAuto, NamesNoGroup}
use Rattle.clap.specs.Matches.{matched_of, one_text, found_of}
use Rattle.clap.specs.Values.{Accepts, IsUnsignedIn, read_as, reading_of}
use Rattle.clap.specs.Walk.{Rule, Text, is_empty, one_of, rows_of, rule_of}
use Rattle.clap.specs.Simple.{App, app_of}
use Rattle.clap.specs.declared.builder.value_parser.Reading.{Reading}
use Rattle.clap.specs.declared.builder.value_parser.Reading.TheVariants.{AsWritten}
use Rattle.clap.specs.declared.builder.value_parser.ValueParser.{ValueParser}
use Rattle.clap.specs.declared.builder.value_parser.ValueParser.TheVariants.{Unsigned}
use Rattle.clap.specs.declared.builder.arg.Arg.{Arg}
use Rattle.clap.specs.declared.builder.command.Command.{Command}
use Rattle.clap.specs.declared.builder.command.Command.TheViews.{out-Command}
use Rattle.clap.specs.declared.error.Error.{Error}
use Rattle.clap.specs.declared.parser.matches.ArgMatches.{ArgMatches}
use Rattle.clap.specs.declared.parser.matches.MatchedArg.{MatchedArg}
use Rattle.clap.proofs.CallerLemmas.{entry_by_id, same_rules_by_id}
use Rattle.clap.proofs.SimpleLemmas.{is_false, is_nil}
use Rattle.clap.proofs.WalkLemmas.{one_text-rows}
use Rattle.program_args.specs.declared.line.CommandLine.{CommandLine}
use Rattle.program_args.specs.declared.line.FlagOption.{FlagOption}
use Rattle.program_args.specs.declared.line.NumberOption.{NumberOption}
use Rattle.program_args.specs.declared.line.TextOption.{TextOption}
use Rattle.program_args.specs.Line.{app_of_line, app_of_options, app_with, are_distinct}
use Rattle.program_args.specs.Line.{has_own_names, with_flag}
use Rattle.program_args.specs.Words.{IsValid}
use Rattle.program_args.proofs.Simple.{EachOption, app-is, each-at, each-rule, number-rule-at}
use Rattle.program_args.proofs.Simple.{number-within-rules, rules_with}

-- ---- distinct names

or-right : (a b : Bool) → b ≡ true → (a || b) ≡ true
or-right true b e = refl
or-right false b e = e

is-there : (t : Text) (xs : List Text) (k : ℕ) → k < length xs → slice_index_or xs k [] ≡ t
    → list_any (λ other. bytes_eq other t) xs ≡ true
is-there t [] k lt e = absurd (omega (arith, lt))
is-there t (x ∷ xs) zero lt e =
    ap (λ b. b || list_any (λ other. bytes_eq other t) xs) ((bytes_eq-Decides x t).1 e)
is-there t (x ∷ xs) (suc k) lt e = or-right (bytes_eq x t) _ (is-there t xs k (omega (arith, lt)) e)

not-there : (t : Text) (xs : List Text) (k : ℕ) → are_distinct (t ∷ xs) ≡ true → k < length xs
    → slice_index_or xs k [] ≡ t → ⊥
not-there t xs k distinct lt e =
    let there = is-there t xs k lt e in
    let none =
    is_false _
    (and_parts (not (list_any (λ other. bytes_eq other t) xs)) (are_distinct xs) distinct).0 in
    cc (there, none)

apart : (xs : List Text) → are_distinct xs ≡ true → (j k : ℕ) → j < length xs → k < length xs
    → slice_index_or xs j [] ≡ slice_index_or xs k [] → j ≡ k
apart [] distinct j k lj lk e = absurd (omega (arith, lj))
apart (x ∷ xs) distinct zero zero lj lk e = refl
apart (x ∷ xs) distinct zero (suc k) lj lk e =
    absurd (not-there x xs k distinct (omega (arith, lk)) (sym e))
apart (x ∷ xs) distinct (suc j) zero lj lk e =
    absurd (not-there x xs j distinct (omega (arith, lj)) e)
apart (x ∷ xs) distinct (suc j) (suc k) lj lk e =
    ap suc
    (apart xs
    (and_parts (not (list_any (λ other. bytes_eq other x) xs)) (are_distinct xs) distinct).1 j k
    (omega (arith, lj)) (omega (arith, lk)) e)

-- ---- what the rules of a command say of it

right-of : (x y : Bool) → (x && y) ≡ true → y ≡ true
right-of x y e = (and_parts x y e).1

left-of : (x y : Bool) → (x && y) ≡ true → x ≡ true
left-of x y e = (and_parts x y e).0

third-of : (a b c d : Bool) → (a && (b && (c && d))) ≡ true → c ≡ true
third-of a b c d s = left-of c d (right-of b (c && d) (right-of a (b && (c && d)) s))

module _ (cmd : Command) (program : Text) (rules : List Rule)
    (is : app_of cmd ≡ app_with program rules) (each : EachOption rules)
    (own : are_distinct (codes "help" ∷ codes "version" ∷ [] ∷ map (λ (r : Rule). r.id) rules)
    ≡ true) where
  abbrev names : List Text
  names = map (λ (r : Rule). r.id) rules

  abbrev taken : List Text
  taken = codes "help" ∷ codes "version" ∷ [] ∷ names

  same-length : length (args_of cmd) ≡ length rules
  same-length = sym (length-map (args_of cmd) rule_of) ∙ ap (λ (a : App). length a.top.rules) is

  -- The argument of a command at some place has the rule that is at this place among its rules.
  pub rule-at : (k : ℕ) (d : Arg) → k < length rules
      → rule_of (slice_index_or (args_of cmd) k d) ≡ slice_index_or rules k (rule_of d)
  rule-at k d lt =
      let long = same-length in
      sym (get_or-map rule_of (args_of cmd) k d (rule_of d) (omega (arith, long, lt)))
      ∙ ap (λ (a : App). slice_index_or a.top.rules k (rule_of d)) is

  id-at : (k : ℕ) (d : Arg) → k < length rules
      → (slice_index_or (args_of cmd) k d).id.now ≡ slice_index_or names k []
  id-at k d lt =
      ap (λ (r : Rule). r.id) (rule-at k d lt)
      ∙ sym (get_or-map (λ (r : Rule). r.id) rules k (rule_of d) [] lt)

  name-within : (k : ℕ) → k < length rules → suc (suc (suc k)) < length taken
  name-within k lt =
      let long = length-map rules (λ (r : Rule). r.id) in
      omega (arith, long, lt)

  only-one : (k : ℕ) (d : Arg) → k < length rules → (j : ℕ) (e : Arg) → j < length (args_of cmd)
      → bytes_eq (slice_index_or (args_of cmd) j e).id.now (slice_index_or (args_of cmd) k d).id.now
      ≡ true
      → j ≡ k
  only-one k d lt j e low same =
      let long = same-length in
      let few : j < length rules = omega (arith, long, low) in
      let ids =
      (bytes_eq-Decides (slice_index_or (args_of cmd) j e).id.now
      (slice_index_or (args_of cmd) k d).id.now).0
      same in
      let places : suc (suc (suc j)) ≡ suc (suc (suc k)) =
      apart taken own (suc (suc (suc j))) (suc (suc (suc k))) (name-within j few) (name-within k lt)
      (sym (id-at j e few) ∙ ids ∙ id-at k d lt) in
      omega (arith, places)

  -- its name is none of the first three
  elsewhere : (i k : ℕ) (d : Arg) → i < 3 → k < length rules
      → (slice_index_or (args_of cmd) k d).id.now ≡ slice_index_or taken i [] → ⊥
  elsewhere i k d low lt e =
      let within = name-within k lt in
      let places : i ≡ suc (suc (suc k)) =
      apart taken own i (suc (suc (suc k))) (omega (arith, within, low)) within
      (sym e ∙ id-at k d lt) in
      omega (arith, places, low)

  not-auto : (k : ℕ) (d : Arg) → k < length rules → IsAuto (slice_index_or (args_of cmd) k d) → ⊥
  not-auto k d lt (inl e) = elsewhere 0 k d (omega arith) lt e
  not-auto k d lt (inr e) = elsewhere 1 k d (omega arith) lt e

  plain : (groups_of cmd ≡ []) × ((out-Command cmd).has_globals ≡ false)
  plain =
      let c = out-Command cmd in
      let s = ap (λ (a : App). a.top.is_plain) is in (
        is_nil c.groups.items (left-of (is_empty c.groups.items) _ s),
        is_false c.has_globals
            (left-of (not c.has_globals) _
            (right-of (not c.allow_external_subcommands) _
            (right-of (is_empty c.groups.items) _ s))),
      )

  ungrouped : NamesNoGroup cmd
  ungrouped k d lt =
      let long = same-length in
      let few : k < length rules = omega (arith, long, lt) in
      let a = slice_index_or (args_of cmd) k d in
      is_nil a.groups.items
      (third-of (is_empty a.overrides.items) (is_empty a.default_vals_ifs.items)
      (is_empty a.groups.items) _
      (ap (λ (r : Rule). r.is_simple) (rule-at k d few) ∙ each-at rules each k (rule_of d) few))

  -- ---- what was found for an option is in its bounds

  module _ (m : ArgMatches) (p : IsParsedFrom cmd m) (k : ℕ) (d : Arg) (lt : k < length rules)
      (least most : ℕ)
      (parser : (slice_index_or (args_of cmd) k d).value_parser ≡ Some (Unsigned least most)) where
    abbrev id : List ℕ
    id = (slice_index_or (args_of cmd) k d).id.now

    -- an argument with its name has its parser
    same-parser : (j : ℕ) (x : Arg) → j < length (args_of p.built)
        → slice_index_or (args_of p.built) j x ≡ x → bytes_eq x.id.now id ≡ true
        → parser_of x ≡ Unsigned least most
    same-parser j x high at same =
        let long = same-length in
        let s =
        same_rules_by_id cmd m p k d (omega (arith, long, lt)) (only-one k d lt)
        (not-auto k d lt) j x high at same in
        ap parser_of_value (s.parser (Unsigned least most) parser)

    no-groups : groups_of p.built ≡ []
    no-groups = (p.from.same_groups ungrouped).1 ∙ plain.0

    not-group : (e : Entry) → e.0.now ≡ id → EntryPasses p.built e → e.1.is_group ≡ true → ⊥
    not-group e key pass g = elim (pass.3 g) [
      | inl empty ↦ elsewhere 2 k d (omega arith) lt (sym key ∙ empty)
      | inr lots ↦
          let bad : 0 < 0 = rw no-groups at lots in
          absurd (omega arith)
    ]

    -- its values are read as they are written
    as-written : (e : Entry) → e.0.now ≡ id → EntryPasses p.built e → e.1.reading ≡ AsWritten
    as-written e key pass = elim pass.4 [
      | inl g ↦ absurd (not-group e key pass g)
      | inr a ↦
          let same : bytes_eq a.1.id.now id ≡ true =
          subst (λ (w : List ℕ). bytes_eq a.1.id.now w ≡ true) key a.4.0 in
          sym a.4.1 ∙ ap reading_of (same-parser a.0 a.1 a.2 a.3 same)
    ]

    is-in : (w t : List ℕ) → w ≡ id → PassesArg p.built w t → IsUnsignedIn least most t
    is-in w t key a =
        let same : bytes_eq a.1.id.now id ≡ true =
        subst (λ (u : List ℕ). bytes_eq a.1.id.now u ≡ true) key a.4.0 in
        subst (λ (q : ValueParser). Accepts a.1.ignore_case q t)
        (same-parser a.0 a.1 a.2 a.3 same) a.4.1

    values-in : (e : Entry) → e.0.now ≡ id → EntryPasses p.built e
        → All (λ v. PassesArg p.built e.0.now v.now) e.1.vals.items
    values-in e key pass = elim pass.0 [
      | inl g ↦ absurd (not-group e key pass g)
      | inr vals ↦ vals
    ]

    first-in : (w : List ℕ) (how : Reading) (vs : List (Bor (List ℕ))) (t : List ℕ) → w ≡ id
        → how ≡ AsWritten → All (λ v. PassesArg p.built w v.now) vs
        → option_map (λ s. read_as how s.now) (slice_get vs 0) ≡ Some t → IsUnsignedIn least most t
    first-in w how [] t key plainly all e = cc
    first-in w how (v ∷ vs) t key plainly all e =
        let one : Some v.now ≡ Some t = rw plainly at e in
        let same : v.now ≡ t = ap (λ (o : Option (List ℕ)). unwrap_or o t) one in
        subst (IsUnsignedIn least most) same
        (is-in w v.now key
        (All-get_or (λ v. PassesArg p.built w v.now) (v ∷ vs) 0 v (omega arith) all))

    -- A text that clap finds for a number option is a number within the option's bounds.
    pub is-within : (t : List ℕ) → one_text (found_of m) id ≡ Some t → IsUnsignedIn least most t
    is-within t found = by (matched_of (found_of m) id) refl found
      where
        entry : (x : MatchedArg)
            → option_map (λ s. read_as x.reading s.now) (slice_get x.vals.items 0) ≡ Some t
            → ((e : Entry) × (e.1 ≡ x) × (bytes_eq e.0.now id ≡ true) × EntryPasses p.built e)
            → IsUnsignedIn least most t
        entry x first got =
            let key = (bytes_eq-Decides got.0.0.now id).0 got.2 in
            let own-first =
            subst (λ (y : MatchedArg).
            option_map (λ s. read_as y.reading s.now) (slice_get y.vals.items 0) ≡ Some t)
            (sym got.1) first in
            first-in got.0.0.now got.0.1.reading got.0.1.vals.items t key
            (as-written got.0 key got.3) (values-in got.0 key got.3) own-first

        by : (o : Option MatchedArg) → matched_of (found_of m) id ≡ o
            → one_text (found_of m) id ≡ Some t → IsUnsignedIn least most t
        by None e f =
            let bad : None ≡ Some t = rw e at f in
            cc
        by (Some x) e f =
            entry x (rw e at f)
            (entry_by_id (EntryPasses p.built) (found_of m).entries.items id x
            (p.parsed (p.from.globals ∙ plain.1)).values e)

-- ---- of each option of a command line

if-some : (o : Option (List ℕ)) (P : List ℕ → Type 0) → ((t : List ℕ) → o ≡ Some t → P t)
    → IfSome o P
if-some None P f = tt
if-some (Some t) P f = f t refl

first-arg : (xs : List Arg) → 0 < length xs → Arg
first-arg [] lt = absurd (omega (arith, lt))
first-arg (x ∷ xs) lt = x

-- The numbers that clap finds for all options of a command are within their bounds.
pub are-valid : (cmd : Command) (m : ArgMatches) (program : Text) (os : List NumberOption)
    (ts : List TextOption) (f : Option FlagOption)
    → app_of cmd ≡ with_flag (app_of_options program os ts) f
    → are_distinct (codes "help" ∷ codes "version" ∷ []
    ∷ map (λ (r : Rule). r.id) (with_flag (app_of_options program os ts) f).top.rules)
    ≡ true
    → IsParsedFrom cmd m → All (IsValid (rows_of (found_of m))) os
are-valid cmd m program os ts f is own p k o lt =
    let rules = rules_with os ts f in
    let app : app_of cmd ≡ app_with program rules = is ∙ app-is program os ts f in
    let own_names =
    subst (λ (a : App).
    are_distinct (codes "help" ∷ codes "version" ∷ [] ∷ map (λ (r : Rule). r.id) a.top.rules)
    ≡ true)
    (app-is program os ts f) own in
    let each = each-rule os ts f in
    let few = number-within-rules os ts f k lt in
    let long : length (args_of cmd) ≡ length rules =
    same-length cmd program rules app each own_names in
    let d = first-arg (args_of cmd) (omega (arith, long, few)) in
    let at =
    rule-at cmd program rules app each own_names k d few
    ∙ number-rule-at os ts f k o (rule_of d) lt in
    let name = slice_index_or os k o in
    if-some (one_of name.name.now (rows_of (found_of m))) (IsUnsignedIn name.least name.most)
    (λ t e.
    is-within cmd program rules app each own_names m p k d few name.least name.most
    (ap (λ (r : Rule). r.parser) at) t
    (ap (one_text (found_of m)) (ap (λ (r : Rule). r.id) at)
    ∙ (one_text-rows (found_of m) name.name.now ∙ e)))

-- A command line that clap accepts has a valid number for each of its number options.
pub all-valid : (cmd : Command) (line : CommandLine) (r : Result ArgMatches Error)
    → app_of cmd ≡ app_of_line line → IsTrue (has_own_names line) → IfOk r (IsParsedFrom cmd)
    → IfOk r (λ m. All (IsValid (rows_of (found_of m))) line.numbers.now)
all-valid cmd line (Ok m) is own parsed =
    are-valid cmd m line.program.now line.numbers.now line.texts.now line.flag is own parsed
all-valid cmd line (Err e) is own parsed = tt

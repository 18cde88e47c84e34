-- A command line is one of which clap says what it takes.
use Rattle.std.proofs.Common.{◌≡◌, ◌∙◌, ◌<◌, ◌++◌, ◌&&◌, ◌||◌, ap, ℕ, suc, Bool, true, false, not}
use Rattle.std.proofs.Common.{List, [], ◌∷◌, length, Option, Some, None, refl, sym, arith, map}
use Rattle.std.proofs.Common.{◌+◌, append_assoc, append-nil, length-append, subst, take, zero}
use Rattle.std.specs.Prelude.{Err, IfOk, Ok, Result, String}
use Rattle.std.specs.List.{list_all, list_any, slice_index_or}
use Rattle.std.proofs.lemmas.List.{get_or-map, get_or_append_left, length-map, length_push}
use Rattle.std.proofs.lemmas.List.{map_more}
use Rattle.clap.specs.Simple.{App, HasMatchesOf, app_of, filled, filled_from, help_rule}
use Rattle.clap.specs.Simple.{index_after, is_simple, matches_of, version_rule, with_index}
use Rattle.clap.specs.Simple.{with_rule}
use Rattle.clap.specs.Faults.{fault_of, is_simple_and_free}
use Rattle.clap.specs.Kinds.{FailsBy}
use Rattle.clap.specs.Matches.{found_of}
use Rattle.clap.specs.Walk.{Rule, Text, is_early_multiple, rows_of}
use Rattle.clap.specs.declared.builder.command.Command.{Command}
use Rattle.clap.specs.declared.error.Error.{Error}
use Rattle.clap.specs.declared.parser.matches.ArgMatches.{ArgMatches}
use Rattle.program_args.specs.declared.line.CommandLine.{CommandLine}
use Rattle.program_args.specs.declared.line.FlagOption.{FlagOption}
use Rattle.program_args.specs.declared.line.NumberOption.{NumberOption}
use Rattle.program_args.specs.declared.line.TextOption.{TextOption}
use Rattle.program_args.specs.Line.{app_of_line, app_of_numbers, app_of_options, app_with}
use Rattle.program_args.specs.Line.{flag_rule, rule_of_number, rule_of_text, text_rule, with_flag}
use Rattle.program_args.specs.Words.{texts_of, word_faults}

-- ---- options of the three kinds

-- an option after whose filling in clap's rules are still plain
pub record IsOptionRule (rule : Rule) : Type 0 where
  pub simple : rule.is_simple ≡ true
  pub simple_filled : (i : ℕ) → (with_index i (filled rule)).is_simple ≡ true
  pub free_filled : (i : ℕ) → (with_index i (filled rule)).is_free ≡ true
  pub single : (n i : ℕ) → is_early_multiple n (with_index i (filled rule)) ≡ false

abbrev pub EachOption : List Rule → Type 0
EachOption [] = Unit {0}
EachOption (rule ∷ rules) = IsOptionRule rule × EachOption rules

number-is : (o : NumberOption) → IsOptionRule (rule_of_number o)
number-is o = record {
  simple = refl;
  simple_filled = λ i. refl;
  free_filled = λ i. refl;
  single = λ n i. refl;
}

-- of a text that may be there once, or often
text-is : (o : TextOption) → IsOptionRule (rule_of_text o)
text-is o = by o.is_repeatable
  where
    by : (often : Bool) → IsOptionRule (text_rule o.name.now often)
    by true = record {
      simple = refl;
      simple_filled = λ i. refl;
      free_filled = λ i. refl;
      single = λ n i. refl;
    }
    by false = record {
      simple = refl;
      simple_filled = λ i. refl;
      free_filled = λ i. refl;
      single = λ n i. refl;
    }

flag-is : (name : Text) → IsOptionRule (flag_rule name)
flag-is name = record {
  simple = refl;
  simple_filled = λ i. refl;
  free_filled = λ i. refl;
  single = λ n i. refl;
}

help-is : IsOptionRule help_rule
help-is = record {
  simple = refl;
  simple_filled = λ i. refl;
  free_filled = λ i. refl;
  single = λ n i. refl;
}

version-is : IsOptionRule version_rule
version-is = record {
  simple = refl;
  simple_filled = λ i. refl;
  free_filled = λ i. refl;
  single = λ n i. refl;
}

each-push : (rules : List Rule) (rule : Rule) → EachOption rules → IsOptionRule rule
    → EachOption (rules ++ rule ∷ [])
each-push [] rule each is = (is, tt)
each-push (r ∷ rules) rule each is = (each.0, each-push rules rule each.1 is)

each-both : (some more : List Rule) → EachOption some → EachOption more → EachOption (some ++ more)
each-both [] more each others = others
each-both (r ∷ some) more each others = (each.0, each-both some more each.1 others)

each-text : (ts : List TextOption) → EachOption (map rule_of_text ts)
each-text [] = tt
each-text (t ∷ ts) = (text-is t, each-text ts)

each-number : (os : List NumberOption) → EachOption (map rule_of_number os)
each-number [] = tt
each-number (o ∷ os) = (number-is o, each-number os)

-- Each of a list of option rules is a simple rule.
pub each-at : (rules : List Rule) → EachOption rules → (k : ℕ) (r : Rule) → k < length rules
    → (slice_index_or rules k r).is_simple ≡ true
each-at [] each k r lt = absurd (omega (arith, lt))
each-at (x ∷ rules) each zero r lt = each.0.simple
each-at (x ∷ rules) each (suc k) r lt = each-at rules each.1 k r (omega (arith, lt))

-- ---- they are simple

both : (a b : Bool) → a ≡ true → b ≡ true → (a && b) ≡ true
both true b p q = q
both false b p q = cc

neither : (a b : Bool) → a ≡ false → b ≡ false → (a || b) ≡ false
neither true b p q = cc
neither false b p q = q

all-simple : (rules : List Rule) → EachOption rules → list_all (λ r. r.is_simple) rules ≡ true
all-simple [] each = refl
all-simple (r ∷ rules) each = both _ _ each.0.simple (all-simple rules each.1)

filled-simple : (i : ℕ) (rules : List Rule) → EachOption rules
    → list_all (λ r. r.is_simple) (filled_from i rules) ≡ true
filled-simple i [] each = refl
filled-simple i (r ∷ rules) each =
    both _ _ (each.0.simple_filled i) (filled-simple (index_after i r) rules each.1)

filled-free : (i : ℕ) (rules : List Rule) → EachOption rules
    → list_all (λ r. r.is_free) (filled_from i rules) ≡ true
filled-free i [] each = refl
filled-free i (r ∷ rules) each =
    both _ _ (each.0.free_filled i) (filled-free (index_after i r) rules each.1)

filled-single : (n i : ℕ) (rules : List Rule) → EachOption rules
    → list_any (is_early_multiple n) (filled_from i rules) ≡ false
filled-single n i [] each = refl
filled-single n i (r ∷ rules) each =
    neither _ _ (each.0.single n i) (filled-single n (index_after i r) rules each.1)

-- the options, and the two that clap adds
each-with : (rules : List Rule) → EachOption rules
    → EachOption ((rules ++ help_rule ∷ []) ++ version_rule ∷ [])
each-with rules each =
    each-push (rules ++ help_rule ∷ []) version_rule
    (each-push rules help_rule each help-is) version-is

-- A command of option rules, help and the version is one that the model of clap covers.
pub simple-with : (program : Text) (rules : List Rule) → EachOption rules
    → is_simple (app_with program rules) ≡ true
simple-with program rules each =
    let all = each-with rules each in
    both _ _ (both _ _ (all-simple rules each) refl)
    (both _ _ (both _ _ (filled-simple 1 _ all) (ap not (filled-single _ 1 _ all))) refl)

-- A command of option rules, help and the version is simple and has no further constraints.
pub free-with : (program : Text) (rules : List Rule) → EachOption rules
    → is_simple_and_free (app_with program rules) ≡ true
free-with program rules each =
    let all = each-with rules each in
    both _ _ (simple-with program rules each) (both _ _ (filled-free 1 _ all) refl)

-- ---- those of a command line

-- A command of some number options, with one option more, is the command of one more of them.
pub numbers-more : (program : Text) (os : List NumberOption) (i : ℕ) (o : NumberOption)
    → i < length os
    → with_rule (app_of_numbers program (take i os)) (rule_of_number (slice_index_or os i o))
    ≡ app_of_numbers program (take (i + 1) os)
numbers-more program os i o lt = ap (app_with program) (sym (map_more rule_of_number os i o lt))

-- A command of some text options, with one option more, is the command of one more of them.
pub texts-more : (program : Text) (os : List NumberOption) (ts : List TextOption) (i : ℕ)
    (t : TextOption)
    → i < length ts
    → with_rule (app_of_options program os (take i ts)) (rule_of_text (slice_index_or ts i t))
    ≡ app_of_options program os (take (i + 1) ts)
texts-more program os ts i t lt =
    let ns = map rule_of_number os in
    ap (app_with program)
    (append_assoc ns (map rule_of_text (take i ts)) (rule_of_text (slice_index_or ts i t) ∷ [])
    ∙ ap (λ (rs : List Rule). ns ++ rs) (sym (map_more rule_of_text ts i t lt)))

-- A command of no text option yet is the command of the number options.
pub texts-none : (program : Text) (os : List NumberOption) (ts : List TextOption)
    → app_of_options program os (take 0 ts) ≡ app_of_numbers program os
texts-none program os ts = ap (app_with program) (append-nil (map rule_of_number os))

abbrev pub rules_with : List NumberOption → List TextOption → Option FlagOption → List Rule
rules_with os ts None = map rule_of_number os ++ map rule_of_text ts
rules_with os ts (Some f) =
    (map rule_of_number os ++ map rule_of_text ts) ++ flag_rule f.name.now ∷ []

-- The command of a line is one of the rules of its numbers, its texts and its flag, if it has one.
pub app-is : (program : Text) (os : List NumberOption) (ts : List TextOption)
    (f : Option FlagOption)
    → with_flag (app_of_options program os ts) f ≡ app_with program (rules_with os ts f)
app-is program os ts None = refl
app-is program os ts (Some f) = refl

each-option : (os : List NumberOption) (ts : List TextOption)
    → EachOption (map rule_of_number os ++ map rule_of_text ts)
each-option os ts =
    each-both (map rule_of_number os) (map rule_of_text ts) (each-number os) (each-text ts)

-- Each rule of a command line is an option rule.
pub each-rule : (os : List NumberOption) (ts : List TextOption) (f : Option FlagOption)
    → EachOption (rules_with os ts f)
each-rule os ts None = each-option os ts
each-rule os ts (Some f) =
    each-push (map rule_of_number os ++ map rule_of_text ts) (flag_rule f.name.now)
    (each-option os ts) (flag-is f.name.now)

number-option-at : (os : List NumberOption) (rules : List Rule) (k : ℕ) (o : NumberOption)
    (r : Rule)
    → k < length os
    → slice_index_or (map rule_of_number os ++ rules) k r ≡ rule_of_number (slice_index_or os k o)
number-option-at os rules k o r lt =
    let long = length-map os rule_of_number in
    get_or_append_left (map rule_of_number os) rules r k (omega (arith, long, lt))
    ∙ get_or-map rule_of_number os k o r lt

-- The first rules of a command line are those of its number options, in their order.
pub number-rule-at : (os : List NumberOption) (ts : List TextOption) (f : Option FlagOption) (k : ℕ)
    (o : NumberOption) (r : Rule)
    → k < length os
    → slice_index_or (rules_with os ts f) k r ≡ rule_of_number (slice_index_or os k o)
number-rule-at os ts None k o r lt = number-option-at os (map rule_of_text ts) k o r lt
number-rule-at os ts (Some f) k o r lt =
    let long = length-map os rule_of_number in
    let longer = length-append (map rule_of_number os) (map rule_of_text ts) in
    get_or_append_left (map rule_of_number os ++ map rule_of_text ts)
    (flag_rule f.name.now ∷ []) r k (omega (arith, long, longer, lt))
    ∙ number-option-at os (map rule_of_text ts) k o r lt

-- A command line has a rule for each of its number options.
pub number-within-rules : (os : List NumberOption) (ts : List TextOption) (f : Option FlagOption)
    (k : ℕ)
    → k < length os → k < length (rules_with os ts f)
number-within-rules os ts None k lt =
    let long = length-map os rule_of_number in
    let longer = length-append (map rule_of_number os) (map rule_of_text ts) in
    omega (arith, long, longer, lt)
number-within-rules os ts (Some f) k lt =
    let long = length-map os rule_of_number in
    let longer = length-append (map rule_of_number os) (map rule_of_text ts) in
    let longest =
    length_push (map rule_of_number os ++ map rule_of_text ts) (flag_rule f.name.now) in
    omega (arith, long, longer, longest, lt)

-- ---- what clap says of a command of these options

module _ {A : Type 0} (cmd : Command) (line : CommandLine) (words : List (String A))
    (r : Result ArgMatches Error) (is : app_of cmd ≡ app_of_line line) where
  abbrev rules : List Rule
  rules = rules_with line.numbers.now line.texts.now line.flag

  same : app_of cmd ≡ app_with line.program.now rules
  same = is ∙ app-is line.program.now line.numbers.now line.texts.now line.flag

  -- The faults that clap may report of a command are those of the words on its command line.
  pub faults-are :
      (is_simple_and_free (app_of cmd) ≡ true → FailsBy (fault_of (app_of cmd) (texts_of words)) r)
      → FailsBy (word_faults (app_of_line line) words) r
  faults-are kinds =
      subst (λ (a : App). FailsBy (fault_of a (texts_of words)) r) is
      (kinds (ap is_simple_and_free same
      ∙ free-with line.program.now rules (each-rule line.numbers.now line.texts.now line.flag)))

  -- The values that clap finds are those that the words give to the options of the line.
  pub rows-are : IfOk r (HasMatchesOf (app_of cmd) (texts_of words))
      → IfOk r (λ m. rows_of (found_of m) ≡ matches_of (app_of_line line) (texts_of words))
  rows-are matches = by r matches
    where
      by : (x : Result ArgMatches Error) → IfOk x (HasMatchesOf (app_of cmd) (texts_of words))
          → IfOk x (λ m. rows_of (found_of m) ≡ matches_of (app_of_line line) (texts_of words))
      by (Ok m) has =
          (has (ap is_simple same
          ∙ simple-with line.program.now rules
          (each-rule line.numbers.now line.texts.now line.flag))).0
          ∙ ap (λ (a : App). matches_of a (texts_of words)) is
      by (Err e) has = tt

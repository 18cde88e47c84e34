-- A number that clap accepted is read.
use Rattle.std.proofs.Common.{◌≡◌, ◌∙◌, ◌&&◌, ap, ℕ, suc, true, List, [], ◌∷◌, Option, Some, None}
use Rattle.std.proofs.Common.{refl, arith}
use Rattle.std.specs.Prelude.{IfSome, IsTrue, String, nat_le, unwrap_or, Ok, Err, Result}
use Rattle.std.specs.List.{All}
use Rattle.std.specs.Option.{option_map_or}
use Rattle.std.specs.Str.Parse.{ParsesUnsigned}
use Rattle.std.proofs.lemmas.Bool.{and_parts}
use borrow.Author.Tests.{leb-true}
use Rattle.clap.specs.Matches.{one_text, ReadsOne}
use Rattle.clap.specs.Values.{IsUnsignedIn}
use Rattle.clap.specs.Walk.{Text, one_of, rows_of}
use Rattle.clap.specs.Simple.{App, matches_of}
use Rattle.clap.specs.declared.parser.matches.Found.{Found}
use Rattle.clap.proofs.WalkLemmas.{one_text-rows}
use Rattle.program_args.specs.declared.line.NumberOption.{NumberOption}
use Rattle.program_args.specs.Line.{has_sound_defaults}
use Rattle.program_args.specs.Words.{AreWithin, IsNumber, IsValid, IsWithin, number_of}
use Rattle.program_args.specs.Words.{number_of_option, texts_of}

is-read : (E : Type 0) (G : List ℕ → Result ℕ E → Type 0) (t : List ℕ) (r : Option ℕ)
    → ReadsOne G t r → ((u : List ℕ) (x : Result ℕ E) → G u x → ParsesUnsigned 64 10 u x)
    → IsNumber t → r ≡ Some (number_of t)
is-read E G t (Some v) h only passed = ap Some ((only t (Ok v) h).1)
is-read E G t None h only passed = absurd (only t (Err h.0) h.1 (passed.0, passed.1))

is-number : (E : Type 0) (G : List ℕ → Result ℕ E → Type 0) (default : ℕ) (o : Option (List ℕ))
    (r : Option ℕ)
    → (o ≡ None → r ≡ None) → ((t : List ℕ) → o ≡ Some t → ReadsOne G t r)
    → IfSome o IsNumber → ((u : List ℕ) (x : Result ℕ E) → G u x → ParsesUnsigned 64 10 u x)
    → unwrap_or r default ≡ option_map_or number_of o default
is-number E G default None r none some number only = ap (λ x. unwrap_or x default) (none refl)
is-number E G default (Some t) r none some number only =
    ap (λ x. unwrap_or x default) (is-read E G t r (some t refl) only number)

-- The number that is read of an option is the one that clap found, or its default.
pub number-found : (f : Found) (name : Text) (E : Type 0) (G : List ℕ → Result ℕ E → Type 0)
    (default : ℕ) (r : Option ℕ)
    → IfSome (one_of name (rows_of f)) IsNumber
    → (one_text f name ≡ None → r ≡ None)
    → ((t : List ℕ) → one_text f name ≡ Some t → ReadsOne G t r)
    → ((u : List ℕ) (x : Result ℕ E) → G u x → ParsesUnsigned 64 10 u x)
    → unwrap_or r default ≡ number_of_option name default (rows_of f)
number-found f name E G default r number none some only =
    is-number E G default (one_of name (rows_of f)) r (λ e. none (one_text-rows f name ∙ e))
    (λ t e. some t (one_text-rows f name ∙ e)) number only

-- A text that a number option takes is a number of 64 bits.
pub valid-number : (o : Option Text) (least most : ℕ) → IfSome o (IsUnsignedIn least most)
    → IfSome o IsNumber
valid-number None least most valid = tt
valid-number (Some t) least most valid = (valid.0, valid.1)

-- it is within the option's bounds, as the default is
number-within : (o : Option Text) (least most default : ℕ) → IfSome o (IsUnsignedIn least most)
    → (nat_le least default && nat_le default most) ≡ true
    → IsWithin least most (option_map_or number_of o default)
number-within None least most default valid sound =
    let parts = and_parts (nat_le least default) (nat_le default most) sound in
    (leb-true least default parts.0, leb-true default most parts.1)
number-within (Some t) least most default valid sound = (valid.2, valid.3)

-- Each number that a program reads of valid words is within its option's bounds.
pub are-within : {A : Type 0} (app : App) (words : List (String A)) (os : List NumberOption)
    → All (IsValid (matches_of app (texts_of words))) os → IsTrue (has_sound_defaults os)
    → AreWithin app os words
are-within app words [] valid sound = tt
are-within app words (o ∷ os) valid sound =
    let parts = and_parts _ (has_sound_defaults os) sound in (
      number-within (one_of o.name.now (matches_of app (texts_of words))) o.least o.most o.default
          (valid 0 o (omega arith)) parts.0,
      are-within app words os (λ k d lt. valid (suc k) d (omega (arith, lt))) parts.1,
    )

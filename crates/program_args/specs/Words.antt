-- What words mean to a command, of which the first is the program's name.
use Rattle.std.specs.Prelude.{◌≡◌, ◌≢◌, ◌<◌, ◌≤◌, ◌⊎◌, ℕ, ◌^◌, ⊤, Bool, true, false, List, []}
use Rattle.std.specs.Prelude.{◌∷◌, Some, String, Vec, map, string_bytes, codes, IfSome}
use Rattle.std.specs.Prelude.{unwrap_or}
use Rattle.std.specs.Option.{option_map_or}
use Rattle.std.specs.Str.Parse.{IsNumeral, digits_value, without_leading_plus}
use Rattle.clap.specs.Words.{App, IsAmong, IsUnsignedIn, Kinds, Row, Text, fault_of, matches_of}
use Rattle.clap.specs.Words.{all_of, one_of}
use Rattle.clap.specs.declared.error.ErrorKind.{ErrorKind}
use Rattle.clap.specs.declared.error.ErrorKind.TheVariants.{DisplayHelp, DisplayVersion}
use Rattle.program_args.specs.declared.fault.ArgFault.{ArgFault}
use Rattle.program_args.specs.declared.fault.ArgFault.TheVariants as faults
use Rattle.program_args.specs.declared.line.NumberOption.{NumberOption}
use Rattle.program_args.specs.declared.line.TextOption.{TextOption}

abbrev pub texts_of : {A : Type 0} → List (String A) → List Text
texts_of words = map (λ word. string_bytes word) words

-- the faults that clap may report of these words
abbrev pub word_faults : {A : Type 0} → App → List (String A) → Kinds
word_faults app words = fault_of app (texts_of words)

-- clap takes the words
abbrev pub IsTaken : {A : Type 0} → App → List (String A) → Type 0
IsTaken app words = word_faults app words ≡ []

-- they ask for the text that says what the program does
abbrev pub AskForHelp : {A : Type 0} → App → List (String A) → Type 0
AskForHelp app words = IsAmong DisplayHelp (word_faults app words)

-- they ask for the program's version
abbrev pub AskForVersion : {A : Type 0} → App → List (String A) → Type 0
AskForVersion app words = IsAmong DisplayVersion (word_faults app words)

-- they ask for a text in place of a run
abbrev pub AskForText : {A : Type 0} → App → List (String A) → Type 0
AskForText app words = AskForHelp app words ⊎ AskForVersion app words

-- clap refuses them, for another reason than that they ask for help or the version
abbrev pub AreFaulty : {A : Type 0} → App → List (String A) → Type 0
AreFaulty app words = (kind : ErrorKind) × IsAmong kind (word_faults app words)
    × (kind ≢ DisplayHelp) × (kind ≢ DisplayVersion)

-- why the words ask for no run; memory may be refused at any words
abbrev pub IsCause : {A : Type 0} → App → List (String A) → ArgFault → Type 0
IsCause app words (faults.Help text) = AskForHelp app words
IsCause app words (faults.Version text) = AskForVersion app words
IsCause app words (faults.Mistake text) = AreFaulty app words
IsCause app words faults.OutOfMemory = ⊤

-- the number that a text has in decimal digits, after a `+` if it has one
abbrev pub number_of : Text → ℕ
number_of text = digits_value 10 (without_leading_plus text)

-- the text is such a number, of 64 bits
abbrev pub IsNumber : Text → Type 0
IsNumber text = IsNumeral 10 (without_leading_plus text) × (number_of text < 2 ^ 64)

-- the number of an option in what clap found, or its default where it isn't there
abbrev pub number_of_option : Text → ℕ → List Row → ℕ
number_of_option name default rows = option_map_or number_of (one_of name rows) default

abbrev pub number_by : List Row → NumberOption → ℕ
number_by rows option = number_of_option option.name.now option.default rows

-- the number that the words give an option, or its default where they don't name it
abbrev pub number_in : {A : Type 0} → App → Text → ℕ → List (String A) → ℕ
number_in app name default words = number_of_option name default (matches_of app (texts_of words))

-- the same of each option
abbrev pub numbers_in : {A : Type 0} → App → List NumberOption → List (String A) → List ℕ
numbers_in app options words = map (number_by (matches_of app (texts_of words))) options

-- the texts of an option in what clap found: none where it isn't there
abbrev pub texts_of_option : Text → List Row → List Text
texts_of_option name rows = unwrap_or (all_of name rows) []

abbrev pub texts_by : List Row → TextOption → List Text
texts_by rows option = texts_of_option option.name.now rows

-- the texts that the words give an option, in their order
abbrev pub texts_given : {A : Type 0} → App → Text → List (String A) → List Text
texts_given app name words = texts_of_option name (matches_of app (texts_of words))

-- the same of each option
abbrev pub texts_in : {A : Type 0} → App → List TextOption → List (String A) → List (List Text)
texts_in app options words = map (texts_by (matches_of app (texts_of words))) options

abbrev pub each_texts : {A B : Type 0} → List (Vec (String A) B) → List (List Text)
each_texts lists = map (λ words. texts_of words.items) lists

abbrev pub IsWithin : ℕ → ℕ → ℕ → Type 0
IsWithin least most number = (least ≤ number) × (number ≤ most)

-- the number of each option is one that it takes
abbrev pub AreWithin : {A : Type 0} → App → List NumberOption → List (String A) → Type 0
AreWithin app [] words = ⊤
AreWithin app (option ∷ options) words =
    IsWithin option.least option.most (number_in app option.name.now option.default words)
    × AreWithin app options words

-- what clap found for an option is a number that it takes
abbrev pub IsValid : List Row → NumberOption → Type 0
IsValid rows option =
    IfSome (one_of option.name.now rows) (IsUnsignedIn option.least option.most)

-- whether clap found a flag
pub record IsSetIn (rows : List Row) (name : Text) (is_set : Bool) : Type 0 where
  pub set : one_of name rows ≡ Some (codes "true") → is_set ≡ true
  pub unset : one_of name rows ≡ Some (codes "false") → is_set ≡ false

-- whether the words name a flag
abbrev pub IsSetBy : {A : Type 0} → App → Text → List (String A) → Bool → Type 0
IsSetBy app name words is_set = IsSetIn (matches_of app (texts_of words)) name is_set

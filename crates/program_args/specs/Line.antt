-- The command line of a program, as clap reads it.
use Rattle.std.specs.Prelude.{◌&&◌, ◌++◌, ◌∷◌, [], List, ℕ, Bool, true, not, Option, Some, None}
use Rattle.std.specs.Prelude.{if◌then◌else◌, codes, map, nat_le}
use Rattle.std.specs.List.{list_all, list_any}
use Rattle.std.specs.Str.{bytes_eq}
use Rattle.clap.specs.Words.{App, Rule, Text, new_app, new_rule, with_rule}
use Rattle.clap.specs.declared.builder.ArgAction.TheVariants.{Append, Set, SetTrue}
use Rattle.clap.specs.declared.builder.value_parser.ValueParser.TheVariants.{Unsigned}
use Rattle.program_args.specs.declared.line.CommandLine.{CommandLine}
use Rattle.program_args.specs.declared.line.FlagOption.{FlagOption}
use Rattle.program_args.specs.declared.line.NumberOption.{NumberOption}
use Rattle.program_args.specs.declared.line.TextOption.{TextOption}

-- an option of this name that takes a number in decimal digits, from `least` to `most`
abbrev pub number_rule : Text → ℕ → ℕ → Rule
number_rule name least most = record (new_rule name) {
  long = Some name;
  action = Some Set;
  value_names = 1;
  parser = Some (Unsigned least most);
}

-- an option of this name that takes a text, once or as often as it is there
abbrev pub text_rule : Text → Bool → Rule
text_rule name is_repeatable = record (new_rule name) {
  long = Some name;
  action = Some (if is_repeatable then Append else Set);
  value_names = 1;
}

-- an option of this name that is there or not
abbrev pub flag_rule : Text → Rule
flag_rule name = record (new_rule name) { long = Some name; action = Some SetTrue }

abbrev pub rule_of_number : NumberOption → Rule
rule_of_number option = number_rule option.name.now option.least option.most

abbrev pub rule_of_text : TextOption → Rule
rule_of_text option = text_rule option.name.now option.is_repeatable

-- the command of a program of this name, with these options, and `--version`
abbrev pub app_with : Text → List Rule → App
app_with program rules = record (new_app program) {
  top = record (new_app program).top { rules = rules; has_version = true };
}

abbrev pub app_of_numbers : Text → List NumberOption → App
app_of_numbers program numbers = app_with program (map rule_of_number numbers)

abbrev pub app_of_options : Text → List NumberOption → List TextOption → App
app_of_options program numbers texts =
    app_with program (map rule_of_number numbers ++ map rule_of_text texts)

abbrev pub with_flag : App → Option FlagOption → App
with_flag app None = app
with_flag app (Some flag) = with_rule app (flag_rule flag.name.now)

-- the command of a command line
abbrev pub app_of_line : CommandLine → App
app_of_line line =
    with_flag (app_of_options line.program.now line.numbers.now line.texts.now) line.flag

-- no text is there twice
abbrev pub are_distinct : List Text → Bool
are_distinct [] = true
are_distinct (text ∷ texts) =
    not (list_any (λ other. bytes_eq other text) texts) && are_distinct texts

-- no two options have one name, and none has one of clap's own, or an empty one
abbrev pub has_own_names : CommandLine → Bool
has_own_names line = are_distinct (codes "help" ∷ codes "version" ∷ [] ∷
    map (λ rule. rule.id) (app_of_line line).top.rules)

-- each default is a number that its option takes
abbrev pub has_sound_defaults : List NumberOption → Bool
has_sound_defaults =
    list_all (λ option. nat_le option.least option.default && nat_le option.default option.most)

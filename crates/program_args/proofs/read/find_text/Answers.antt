use Rattle.std.proofs.Common.{◌≡◌, ◌∙◌, ap, map, List, [], Option, None, Some, subst}
use Rattle.std.specs.Prelude.{IfOk, unwrap_or}
use Rattle.clap.specs.Matches.{found_of}
use Rattle.clap.specs.Walk.{Text, all_of, rows_of}
use Rattle.clap.proofs.WalkLemmas.{raw_values-rows}
use Rattle.program_args.specs.Words.{texts_of, texts_of_option}
use Rattle.program_args.proofs.read.find_text.Goals as goal

pub returns-in-Some : goal.returns-in-Some
returns-in-Some c =
    let name = c.args.name.now in
    let found = found_of c.args.matches.now in
    let all : Some (map (λ text. text.now) c.in-Some.texts.now) ≡ all_of name (rows_of found) =
    c.in-Some.ensures ∙ raw_values-rows found name in
    let given : map (λ text. text.now) c.in-Some.texts.now ≡ texts_of_option name (rows_of found) =
    ap (λ (o : Option (List Text)). unwrap_or o []) all in
    subst (λ (xs : List Text). IfOk c.copy_texts.result (λ texts. texts_of texts.items ≡ xs)) given
    c.copy_texts.ensures

pub returns-in-None : goal.returns-in-None
returns-in-None c =
    let name = c.args.name.now in
    let found = found_of c.args.matches.now in
    let none : None ≡ all_of name (rows_of found) =
    c.in-None.ensures ∙ raw_values-rows found name in
    ap texts_of c.new.ensures.items ∙ ap (λ (o : Option (List Text)). unwrap_or o []) none

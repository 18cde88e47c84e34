use Rattle.std.proofs.Common.{◌∙◌, Option, subst, sym}
use Rattle.std.specs.Prelude.{IfSome}
use Rattle.clap.specs.Matches.{found_of}
use Rattle.clap.specs.Walk.{rows_of}
use Rattle.clap.proofs.WalkLemmas.{one_text-rows}
use Rattle.program_args.specs.declared.line.FlagOption.{FlagOption}
use Rattle.program_args.specs.Words.{IsSetIn}
use Rattle.program_args.proofs.read.find_flag.Goals as goal

pub returns-in-Some : goal.returns-in-Some
returns-in-Some c =
    let found = found_of c.args.matches.now in
    let set : IsSetIn (rows_of found) c.in-Some.flag.name.now c.get_flag.result = record {
      set = λ e. c.get_flag.ensures.value (one_text-rows found c.in-Some.flag.name.now ∙ e);
      unset = λ e. c.get_flag.ensures.other (one_text-rows found c.in-Some.flag.name.now ∙ e);
    } in
    subst (λ (o : Option FlagOption).
    IfSome o (λ flag. IsSetIn (rows_of found) flag.name.now c.get_flag.result))
    (sym c.in-Some.is) set

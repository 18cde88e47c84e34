use Rattle.std.proofs.Common.{◌∙◌, ap, ap₂, sym}
use Rattle.clap.specs.Simple.{with_rule}
use Rattle.program_args.specs.Line.{app_of_options, with_flag}
use Rattle.program_args.proofs.line.command.Goals as goal

pub returns-clause-app : goal.returns-clause-app
returns-clause-app c =
    let line = c.args.line.now in
    c.in_ok-arg.ensures.shape c.flag_arg.ensures.local
    ∙ ap₂ with_rule c.in_ok-command.ensures.app c.flag_arg.ensures.rule
    ∙ ap (with_flag (app_of_options line.program.now line.numbers.now line.texts.now))
    (sym c.in-Some.is)

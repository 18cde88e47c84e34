use Rattle.std.proofs.Common.{◌∙◌, ap₂}
use Rattle.clap.specs.Simple.{with_rule}
use Rattle.program_args.proofs.Simple.{numbers-more}
use Rattle.program_args.proofs.line.numbers_command.Goals as goal

pub loop-option-preserved : goal.loop-option-preserved
loop-option-preserved c =
    let line = c.args.line.now in
    c.in_ok-command-2.ensures.shape c.number_arg.ensures.local
    ∙ ap₂ with_rule c.loop-option.invariant c.number_arg.ensures.rule
    ∙ numbers-more line.program.now line.numbers.now c.loop-option.option-index _
    c.loop-option-test.true

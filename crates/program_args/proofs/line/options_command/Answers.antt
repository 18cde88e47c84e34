use Rattle.std.proofs.Common.{◌∙◌, ap₂, sym}
use Rattle.clap.specs.Simple.{with_rule}
use Rattle.program_args.proofs.Simple.{texts-more, texts-none}
use Rattle.program_args.proofs.line.options_command.Goals as goal

pub loop-option-init : goal.loop-option-init
loop-option-init c =
    let line = c.args.line.now in
    c.in_ok-command.ensures.app ∙ sym (texts-none line.program.now line.numbers.now line.texts.now)

pub loop-option-preserved : goal.loop-option-preserved
loop-option-preserved c =
    let line = c.args.line.now in
    c.in_ok-command-2.ensures.shape c.text_arg.ensures.local
    ∙ ap₂ with_rule c.loop-option.invariant c.text_arg.ensures.rule
    ∙ texts-more line.program.now line.numbers.now line.texts.now c.loop-option.option-index _
    c.loop-option-test.true

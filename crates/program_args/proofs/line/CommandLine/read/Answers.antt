use Rattle.std.proofs.Common.{List, subst}
use Rattle.std.specs.List.{All}
use Rattle.clap.specs.Walk.{Row}
use Rattle.program_args.specs.Words.{IsValid}
use Rattle.program_args.specs.Line.{app_of_line}
use Rattle.program_args.proofs.Causes.{cause-of}
use Rattle.program_args.proofs.Numbers.{are-within}
use Rattle.program_args.proofs.line.CommandLine.read.Goals as goal

pub returns-clause-within : goal.returns-clause-within
returns-clause-within c =
    let line = c.args.self.now in
    let valid =
    subst (λ (rows : List Row). All (IsValid rows) line.numbers.now) c.in_ok-matches.ensures.rows
    c.in_ok-matches.ensures.valid in
    are-within (app_of_line line) c.args.words.now line.numbers.now valid c.requires.defaults

pub returns-in_err-matches-clause-refused : goal.returns-in_err-matches-clause-refused
returns-in_err-matches-clause-refused c =
    cause-of (app_of_line c.args.self.now) c.args.words.now c.in_err-matches.field-0.0
    c.from_residual.result c.in_err-matches.ensures.taken c.from_residual.ensures.1

use Rattle.program_args.proofs.Bounds.{all-valid}
use Rattle.program_args.proofs.Simple.{faults-are, rows-are}
use Rattle.program_args.proofs.read.find_options.Goals as goal

pub returns : goal.returns
returns c =
    let parse = c.try_get_matches_from in
    let line = c.args.line.now in
    let is = c.in_ok-command.ensures.app in
    record {
      taken =
          faults-are c.in_ok-command.field-0 line c.args.words.now parse.result is
          parse.ensures.kinds;
      rows =
          rows-are c.in_ok-command.field-0 line c.args.words.now parse.result is
          parse.ensures.matches;
      valid =
          all-valid c.in_ok-command.field-0 line parse.result is c.requires parse.ensures.parsed;
    }

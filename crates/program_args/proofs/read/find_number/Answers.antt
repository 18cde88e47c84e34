use Rattle.std.proofs.Common.{◌∙◌}
use Rattle.std.specs.Str.Parse.{ParsesUnsigned, ExplainsUnsignedError, HasUnsignedDigitsIfOk}
use Rattle.clap.specs.Matches.{found_of}
use Rattle.program_args.proofs.Numbers.{number-found}
use Rattle.program_args.proofs.read.find_number.Goals as goal

pub returns : goal.returns
returns c =
    c.unwrap_or.ensures
    ∙ number-found (found_of c.args.matches.now) c.args.name.now _
    (λ bs r. ParsesUnsigned 64 10 bs r × ExplainsUnsignedError 10 bs r × HasUnsignedDigitsIfOk bs r)
    c.args.default c.get_one.result
    c.requires c.get_one.ensures.none c.get_one.ensures.value (λ u x g. g.0)

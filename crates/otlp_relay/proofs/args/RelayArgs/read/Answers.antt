use Rattle.std.proofs.Common.{rules, ◌≡◌, ◌≤◌, arith, codes}
use Rattle.std.proofs.lemmas.Grind.{common_steps}
use Rattle.program_args.specs.Words.{number_in}
use Rattle.otlp_relay.specs.Command.{command}
use Rattle.otlp_relay.proofs.args.RelayArgs.read.Goals as goal

pub overflow_cast-result : goal.overflow_cast-result
overflow_cast-result c =
    let within : number_in command (codes "port") 4318 c.args.words.now ≤ 65535 =
    c.in_ok-numbers.ensures.within.0.1 in
    let same : c.index.result.now ≡ number_in command (codes "port") 4318 c.args.words.now =
    first_of (search rules, grind (arith, common_steps)) in
    omega (arith, within, same)

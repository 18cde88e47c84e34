use Rattle.std.proofs.Common.{◌<◌, ◌^◌, arith, w64}
use Rattle.std.proofs.lemmas.Int.{to_z_pos}
use Rattle.trace_api.proofs.attribute.int_value.Goals as goal

pub returns : goal.returns
returns c =
    let small : c.args.number < 2 ^ 63 = omega arith in
    rw c.from.ensures (to_z_pos w64 c.args.number small)

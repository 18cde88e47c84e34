use Rattle.std.proofs.Common.{◌<◌, ◌^◌, arith, w64}
use Rattle.std.proofs.lemmas.Int.{to_z_pos}
use Rattle.trace_api.proofs.Said.{does-one, on-ok}
use Rattle.trace_api.proofs.end.set_status_code.Goals as goal

pub returns : goal.returns
returns c =
    let small : c.args.status < 2 ^ 63 = omega arith in
    on-ok c.set.result (does-one _ _ _)
    (rw (c.int_value.ensures, to_z_pos w64 c.args.status small) at c.set.ensures.ok)

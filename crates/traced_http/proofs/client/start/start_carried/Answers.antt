use Rattle.std.proofs.Common.{◌≡◌, None, Err, arith}
use Rattle.traced_http.proofs.client.start.start_carried.Goals as goal

pub returns-in_err-span-clause-none : goal.returns-in_err-span-clause-none
returns-in_err-span-clause-none g c =
    let told : c.from_residual.result ≡ Err c.in_err-span.field-0.0 = grind arith in
    rw told (None, (c.in_err-span.field-0.0, c.in_err-span.ensures.none))

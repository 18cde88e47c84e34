use Rattle.std.proofs.Common.{arith, ◌*◌, ◌<◌, ◌≤◌, ◌^◌, subst, sym}
use Rattle.page_text.proofs.Bounds.{two_below, two_small, whole_small}
use Rattle.page_text.proofs.double.push_large.Goals as goal

pub pow-requires : goal.pow-requires
pow-requires g c = two_below c.args.power 75 c.if-power-gt75.false (omega arith)

pub overflow_mul-from : goal.overflow_mul-from
overflow_mul-from g c =
    let small : c.pow.result ≤ 2 ^ 75 =
    subst (λ n. n ≤ 2 ^ 75) (sym c.pow.ensures) (two_small c.args.power 75 c.if-power-gt75.false) in
    let below : c.from.result * c.pow.result < 2 ^ 128 =
    subst (λ m. m * c.pow.result < 2 ^ 128) (sym c.from.ensures)
    (whole_small c.args.mantissa c.pow.result c.requires small) in
    omega (arith, below)

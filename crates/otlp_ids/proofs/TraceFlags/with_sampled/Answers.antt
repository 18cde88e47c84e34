use Rattle.std.proofs.Common.{◌≡◌, ◌+◌, ◌-◌, ◌*◌, ◌/◌, ◌%◌, bit_and, bit_or, arith, rules}
use Rattle.std.proofs.lemmas.Nat.Bits.{and_high_mask, and_high_mask_twice, or_low_ones}
use Rattle.otlp_ids.proofs.TraceFlags.with_sampled.Goals as goal

pub returns-then-sampled : goal.returns-then-sampled
returns-then-sampled c =
    let n = c.args.self.now.0 in
    let others : bit_and n 254 ≡ n / 2 * 2 = and_high_mask 8 1 (omega arith) n (search rules) in
    let set : bit_or (bit_and n 254) 1 + 1 ≡ bit_and n 254 + 2 =
    or_low_ones 8 1 (omega arith) (bit_and n 254)
    (and_high_mask_twice 8 1 (omega arith) n 1 (omega arith)) in
    rw c.if-sampled.true
    (let whole : bit_or (bit_and n 254) 1 ≡ (n - n % 2) + 1 = omega (arith, others, set) in whole)

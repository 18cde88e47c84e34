use Rattle.std.proofs.Common.{ap, codes, to_z-of_z}
use Rattle.std.specs.Fmt.{signed_decimal}
use Rattle.otlp_json.specs.Seen.{seen, text_member}
use Rattle.otlp_json.proofs.Chains.{written_is}
use Rattle.view_json.proofs.value.push_int.Goals as goal

pub returns-clause-seen : goal.returns-clause-seen
returns-clause-seen g c =
    written_is c.push_signed_long.result (seen c.args.out.now.tokens)
    (seen c.push_signed_long.new.out.tokens) _ _
    (ap (λ z. seen (text_member (codes "intValue") (signed_decimal z)))
    (to_z-of_z c.ranges.number))
    c.push_signed_long.ensures.seen

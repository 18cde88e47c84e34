use Rattle.std.proofs.Common.{◌≡◌, ap, ◌∙◌, rules, to_z-of_z}
use Rattle.std.specs.Int.{w64, cast_unsigned}
use mir.Val.{SFits}
use Rattle.otlp_proto.proofs.Values.{int-member}
use Rattle.otlp_proto.proofs.encoder.values.I64Submessage.put.Goals as goal

pub returns : goal.returns
returns g c =
    let number = c.args.self.now in
    let fits : SFits w64 number = search rules in
    let is : c.cast_unsigned.result ≡ cast_unsigned w64 number =
    c.cast_unsigned.ensures ∙ ap (cast_unsigned w64) (to_z-of_z {w = w64} {z = number} fits) in
    int-member number fits (rw is at c.put_varint.ensures)

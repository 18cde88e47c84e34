use Rattle.std.proofs.Common.{arith, ◌≡◌, refl, ap, ◌∙◌, length}
use Rattle.std.proofs.lemmas.Slice.{take-put_mid, drop-put_mid}
use Rattle.otlp_wire.proofs.places.put_bytes.Goals as goal

pub returns : goal.returns
returns c =
    let fits = c.requires in
    let wrote = c.copy_from_slice.ensures.after in
    let long : length c.copy_from_slice.new.self ≡ length c.args.bytes.now = ap length wrote in
    record {
      place = refl;
      front =
          take-put_mid c.args.at _ c.args.out.now _ _ (omega (arith, long)) (omega (arith, fits))
          ∙ rw wrote refl;
      appended =
          drop-put_mid c.args.at _ c.args.out.now _ _ (omega arith) (omega (arith, fits))
          (omega (arith, long));
    }

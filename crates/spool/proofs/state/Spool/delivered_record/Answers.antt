use Rattle.std.proofs.Common.{◌∙◌, ap, length, arith}
use Rattle.spool.proofs.PutLaws.{length-note}
use Rattle.spool.proofs.state.Spool.delivered_record.Goals as goal

pub returns-in-None-clause-full : goal.returns-in-None-clause-full
returns-in-None-clause-full g c = λ _ known.
    let was = c.requires.settled known in
    let sized = ap length c.in_ok-bytes.ensures.written ∙ length-note c.args.number in
    omega (arith, c.in-None.ensures, was.size, c.len.ensures, sized, c.in_ok-bytes.bytes.ok.0)

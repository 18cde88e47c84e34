use Rattle.gzip.proofs.CrcLaws.{steps-word}
use Rattle.gzip.proofs.crc.word_steps.Goals as goal

pub returns : goal.returns
returns c =
    rw (
      c.entry-first.ensures,
      c.entry-second.ensures,
      c.entry-third.ensures,
      c.entry-fourth.ensures,
      c.entry-fifth.ensures,
      c.entry-sixth.ensures,
      c.entry-seventh.ensures,
      c.entry-eighth.ensures,
    )
    (steps-word c.args.others c.args.word c.ranges.word.fits)

use Rattle.std.proofs.Common.{arith}
use Rattle.spool.specs.Records.{body_content}
use Rattle.spool.proofs.RecordLaws.{length-record}
use Rattle.spool.proofs.rolling.max_body.Goals as goal

pub returns-clause-fits : goal.returns-clause-fits
returns-clause-fits c = λ body enough short.
    omega (
      arith,
      enough,
      short,
      c.saturating_sub.ensures,
      c.min.ensures,
      length-record (body_content body),
    )

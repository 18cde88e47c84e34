use Rattle.std.proofs.Common.{◌≡◌, ap, arith, rules}
use Rattle.std.specs.Prelude.{sum_by}
use Rattle.trace_store.specs.Traces.{spans_of}
use Rattle.trace_store.proofs.Sums.{bytes_le}
use Rattle.trace_store.proofs.joined.bytes_there.Goals as goal

pub returns-in-Some : goal.returns-in-Some
returns-in-Some g c =
    let same : spans_of c.args.traces.now.entries c.args.trace ≡ c.in-Some.kept.now =
    search rules in
    omega (
      arith,
      c.bytes.ensures,
      ap (sum_by g.S.SpanSize.size_of) same,
      bytes_le g.S.SpanSize.size_of c.args.traces.now.entries c.args.trace,
      c.requires,
    )

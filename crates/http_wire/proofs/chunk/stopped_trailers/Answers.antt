use Rattle.std.proofs.Common.{rules, length, ap, arith, length-append, ◌∙◌, true, Ok, Err}
use Rattle.http_wire.specs.Parses.{ParsesTrailers}
use Rattle.http_wire.specs.Chunks.{Trailers, print_trailers}
use Rattle.http_wire.proofs.ChunkLemmas.{stopped_by}
use Rattle.http_wire.proofs.chunk.stopped_trailers.Goals as goal

pub unreachable-requires : goal.unreachable-requires
unreachable-requires c =
    let found : ParsesTrailers c.args.text.now (length c.args.spans.now) (Ok true) = search rules in
    let trailers : Trailers = record { fields = found.0; last = found.1 } in
    let short = c.requires.short in
    let long = ap length found.3.1 ∙ length-append (print_trailers trailers) found.2 in
    let few = found.4 in
    let room = c.requires.room in
    c.requires.none trailers found.2 (
      record {
        valid = found.3.0;
        few = omega (arith, few, room);
        bytes = omega (arith, long, short);
      },
      found.3.1,
    )

pub returns-in-Err : goal.returns-in-Err
returns-in-Err c =
    let parsed : ParsesTrailers c.args.text.now c.args.limits.now.fields (Err c.in-Err.bad) =
    search rules in
    stopped_by c.args.text.now c.args.limits.now.fields c.in-Err.bad parsed

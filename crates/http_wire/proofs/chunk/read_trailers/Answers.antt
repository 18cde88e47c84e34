use Rattle.std.proofs.Common.{rules, ap, ◌++◌, ◌∷◌, [], ◌∙◌, sym, subst, arith, true, false, inr}
use Rattle.std.proofs.Common.{Ok, Err}
use Rattle.http_wire.specs.Chunks.{HasNoTrailers, ended_lines}
use Rattle.http_wire.specs.Parses.{ParsesTrailers}
use Rattle.http_wire.proofs.ChunkLemmas.{no_trailers_yet, no_section, trailers_read, trailers_bad}
use Rattle.http_wire.proofs.ChunkLemmas.{line_more, other_more, grows}
use Rattle.http_wire.proofs.chunk.read_trailers.Goals as goal

pub returns-in-Ok-true-clause-trailers : goal.returns-in-Ok-true-clause-trailers
returns-in-Ok-true-clause-trailers g c =
    let found : ParsesTrailers c.push_reserved.new.self.items c.args.limits.now.fields (Ok true) =
    search rules in
    let grown =
    grows c.args.limits.now.head _ _ _ c.loop-spans.text.items c.reserve.new.self.items
    c.push_reserved.new.self.items c.in-Ok-Some.byte _ c.loop-spans.invariant.0
    (search rules) c.reserve.ensures.items c.push_reserved.ensures.items c.in-Ok-Some.field-0-is
    c.in-Ok-Some.ensures.some in
    trailers_read c.args.limits.now c.loop-spans.text.items c.push_reserved.new.self.items
    c.in-Ok-Some.byte c.loop-spans.invariant.1 grown.is
    (search rules) found

pub returns-in-Err-parse_trailers-clause-none : goal.returns-in-Err-parse_trailers-clause-none
returns-in-Err-parse_trailers-clause-none g c =
    let found : ParsesTrailers c.push_reserved.new.self.items c.args.limits.now.fields
    (Err c.in-Err-parse_trailers.bad) =
    search rules in
    let grown =
    grows c.args.limits.now.head _ _ _ c.loop-spans.text.items c.reserve.new.self.items
    c.push_reserved.new.self.items c.in-Ok-Some.byte _ c.loop-spans.invariant.0
    (search rules) c.reserve.ensures.items c.push_reserved.ensures.items c.in-Ok-Some.field-0-is
    c.in-Ok-Some.ensures.some in
    trailers_bad c.args.limits.now c.push_reserved.new.self.items _ _ c.in-Err-parse_trailers.bad
    grown.bytes found

pub returns-then-lines-limits-clause-none : goal.returns-then-lines-limits-clause-none
returns-then-lines-limits-clause-none g c =
    let found : ParsesTrailers c.push_reserved.new.self.items c.args.limits.now.fields (Ok false) =
    search rules in
    let grown =
    grows c.args.limits.now.head _ _ _ c.loop-spans.text.items c.reserve.new.self.items
    c.push_reserved.new.self.items c.in-Ok-Some.byte _ c.loop-spans.invariant.0
    (search rules) c.reserve.ensures.items c.push_reserved.ensures.items c.in-Ok-Some.field-0-is
    c.in-Ok-Some.ensures.some in
    let count =
    ap ended_lines (grown.is ∙ ap (λ b. c.loop-spans.text.items ++ b ∷ []) c.if-byte-eq10.true)
    ∙ line_more c.loop-spans.text.items in
    let lines = c.loop-spans.invariant.3 in
    let full = c.if-lines-limits.true in (
      grown.bytes,
      no_section c.args.limits.now _ found.0,
      inr (inr (omega (arith, count, lines, full))),
    )

pub loop-spans-preserved-then-byte-eq10 : goal.loop-spans-preserved-then-byte-eq10
loop-spans-preserved-then-byte-eq10 g c =
    let found : ParsesTrailers c.push_reserved.new.self.items c.args.limits.now.fields (Ok false) =
    search rules in
    let grown =
    grows c.args.limits.now.head _ _ _ c.loop-spans.text.items c.reserve.new.self.items
    c.push_reserved.new.self.items c.in-Ok-Some.byte _ c.loop-spans.invariant.0
    (search rules) c.reserve.ensures.items c.push_reserved.ensures.items c.in-Ok-Some.field-0-is
    c.in-Ok-Some.ensures.some in
    let count =
    ap ended_lines (grown.is ∙ ap (λ b. c.loop-spans.text.items ++ b ∷ []) c.if-byte-eq10.true)
    ∙ line_more c.loop-spans.text.items in
    let lines = c.loop-spans.invariant.3 in
    let most = c.loop-spans.invariant.4 in
    let more = c.if-lines-limits.false in (
      grown.taken,
      no_section c.args.limits.now _ found.0,
      grown.bytes,
      omega (arith, count, lines),
      omega (arith, most, more),
      c.parse_trailers.ensures.room ∙ c.loop-spans.invariant.5,
      c.in-Ok-Some.ensures.counted ∙ c.loop-spans.invariant.6,
    )

pub loop-spans-preserved : goal.loop-spans-preserved
loop-spans-preserved g c =
    let grown =
    grows c.args.limits.now.head _ _ _ c.loop-spans.text.items c.reserve.new.self.items
    c.push_reserved.new.self.items c.in-Ok-Some.byte _ c.loop-spans.invariant.0
    (search rules) c.reserve.ensures.items c.push_reserved.ensures.items c.in-Ok-Some.field-0-is
    c.in-Ok-Some.ensures.some in
    let count =
    ap ended_lines grown.is
    ∙ other_more c.loop-spans.text.items c.in-Ok-Some.byte c.if-byte-eq10.false in
    let lines = c.loop-spans.invariant.3 in (
      grown.taken,
      subst (HasNoTrailers c.args.limits.now) (sym grown.is)
          (no_trailers_yet c.args.limits.now _ _ c.loop-spans.invariant.1 c.if-byte-eq10.false),
      grown.bytes,
      omega (arith, count, lines),
      c.loop-spans.invariant.4,
      c.loop-spans.invariant.5,
      c.in-Ok-Some.ensures.counted ∙ c.loop-spans.invariant.6,
    )

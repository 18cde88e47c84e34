use Rattle.std.proofs.Common.{◌+◌, ◌<◌, ◌≤◌, ◌∙◌, length, arith, rules}
use Rattle.http_wire.proofs.ChunksLemmas.{one_more_came, data_grown, ended_without_line}
use Rattle.http_wire.proofs.ChunksLemmas.{ended_too_large, ended_without_data}
use Rattle.http_wire.proofs.ChunksLemmas.{ended_without_trailers, ended_whole}
use Rattle.http_wire.proofs.body.read_chunks.Goals as goal

pub returns-in-Err-clause-body : goal.returns-in-Err-clause-body
returns-in-Err-clause-body g c =
    let inv = c.chunks.invariant in
    ended_without_line c.args.limits.now _ _ _ c.chunks.body.items c.read_line.new.text.items _ _ _
    c.in-Err.fault inv.0 inv.1 inv.2 c.in-Err.ensures.taken c.in-Err.ensures.none

pub returns-in-Ok-read_trailers-clause-body : goal.returns-in-Ok-read_trailers-clause-body
returns-in-Ok-read_trailers-clause-body g c =
    let inv = c.chunks.invariant in
    ended_whole c.args.limits.now _ _ _ _ c.chunks.body.items c.read_line.new.text.items
    c.read_trailers.new.text.items c.in-Ok.size _ inv.0 inv.1 c.in-Ok.ensures.taken
    c.in-Ok.ensures.line c.if-size-eq0.true c.in-Ok-read_trailers.ensures.taken
    c.in-Ok-read_trailers.ensures.trailers

pub returns-in-Err-read_trailers-clause-body : goal.returns-in-Err-read_trailers-clause-body
returns-in-Err-read_trailers-clause-body g c =
    let inv = c.chunks.invariant in
    ended_without_trailers c.args.limits.now _ _ _ _ c.chunks.body.items c.read_line.new.text.items
    c.read_trailers.new.text.items c.in-Ok.size _ _ _ c.in-Err-read_trailers.fault inv.0 inv.1
    (c.in-Ok.ensures.counted ∙ inv.2) c.in-Ok.ensures.taken c.in-Ok.ensures.line c.if-size-eq0.true
    c.in-Err-read_trailers.ensures.taken c.in-Err-read_trailers.ensures.none

pub returns-then-size-limits-clause-body : goal.returns-then-size-limits-clause-body
returns-then-size-limits-clause-body g c =
    let inv = c.chunks.invariant in
    let over : c.args.limits.now.body < length c.chunks.body.items + c.in-Ok.size = search rules in
    ended_too_large c.args.limits.now _ _ _ c.chunks.body.items c.read_line.new.text.items
    c.in-Ok.size _ inv.0 inv.1 c.in-Ok.ensures.taken c.in-Ok.ensures.line over

pub chunks-preserved : goal.chunks-preserved
chunks-preserved g c =
    let inv = c.chunks.invariant in
    let came = c.in-Ok-read_data.ensures.data in
    let some : 0 < c.in-Ok.size = search rules in
    let fit : length c.chunks.body.items + c.in-Ok.size ≤ c.args.limits.now.body = search rules in
    let more =
    one_more_came c.args.limits.now _ _ _ _ c.chunks.body.items c.read_data.new.body.items
    c.read_line.new.text.items came.0 c.in-Ok.size inv.0 c.in-Ok.ensures.taken c.in-Ok.ensures.line
    some came.1 came.2 in
    let long = data_grown came.2 in (
      more,
      omega (arith, long, fit),
      c.in-Ok-read_data.ensures.counted ∙ c.in-Ok.ensures.counted ∙ inv.2,
    )

pub returns-in-Err-read_data-clause-body : goal.returns-in-Err-read_data-clause-body
returns-in-Err-read_data-clause-body g c =
    let inv = c.chunks.invariant in
    let came = c.in-Err-read_data.ensures.data in
    let some : 0 < c.in-Ok.size = search rules in
    let fit : length c.chunks.body.items + c.in-Ok.size ≤ c.args.limits.now.body = search rules in
    ended_without_data c.args.limits.now _ _ _ _ c.chunks.body.items c.read_line.new.text.items
    came.0 c.in-Ok.size _ _ _ c.in-Err-read_data.fault inv.0
    (c.in-Ok.ensures.counted ∙ inv.2) c.in-Ok.ensures.taken c.in-Ok.ensures.line some fit came.1
    came.3

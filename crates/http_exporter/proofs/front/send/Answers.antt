use Rattle.std.proofs.Common.{arith, length}
use Rattle.otlp_http.specs.Request.{head_in}
use Rattle.http_exporter.proofs.FrontLemmas.{front_and_rest, sent_both, stopped_within}
use Rattle.http_exporter.proofs.front.send.Goals as goal

pub returns-in-Ok-write_pieces-clause-sent : goal.returns-in-Ok-write_pieces-clause-sent
returns-in-Ok-write_pieces-clause-sent g c =
    let body = c.args.body.now in
    let front = c.front_of-front.ensures in
    let taken = c.taken-front.ensures in
    let room = c.if-head-gt-FRONT_ROOM.false in
    let is =
    front_and_rest
    (head_in c.args.coding c.args.connection c.args.target.now (length body)) body _ _ _ _
    c.head_length-head.ensures
    (omega (arith, room))
    front.beginning front.whole taken.taken taken.full in
    sent_both _ _ _ _ _ is c.in-Ok-write_pieces.ensures.ok c.in-Ok-write_pieces.ensures.counted

pub returns-in-Err-write_pieces-clause-stopped : goal.returns-in-Err-write_pieces-clause-stopped
returns-in-Err-write_pieces-clause-stopped g c =
    let body = c.args.body.now in
    let front = c.front_of-front.ensures in
    let taken = c.taken-front.ensures in
    let room = c.if-head-gt-FRONT_ROOM.false in
    let stop = c.in-Err-write_pieces.ensures in
    let is =
    front_and_rest
    (head_in c.args.coding c.args.connection c.args.target.now (length body)) body _ _ _ _
    c.head_length-head.ensures
    (omega (arith, room))
    front.beginning front.whole taken.taken taken.full in
    stopped_within _ _ _ _ _ is _ stop.within stop.stopped stop.counted

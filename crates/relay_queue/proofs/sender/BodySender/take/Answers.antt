use Rattle.std.proofs.Common.{◌≡◌, rules}
use Rattle.relay_queue.specs.Senders.{Sender}
use Rattle.relay_queue.specs.Views.{config_view, stage_view}
use Rattle.relay_queue.proofs.Stages.{free_of}
use Rattle.relay_queue.proofs.Takes.{takes_some}
use Rattle.relay_queue.proofs.sender.BodySender.take.Goals as goal

pub returns-clause-taken : goal.returns-clause-taken
returns-clause-taken g c = λ e.
    let here : Sender =
    record {
      config = config_view c.self.inside.config;
      body = c.self.inside.body.items;
      number = c.self.inside.number;
      attempts = c.self.inside.attempts;
      stage = stage_view c.self.inside.stage;
    } in
    let same : here ≡ c.args.self.now = search rules in
    takes_some c.args.self.now _ c.args.desk.now c.take.new.self c.is_again.result
    c.in_ok-taken.taken c.in-Some._count _ c.in-Some.is
    (c.self.invariant.empty (free_of c.args.self.now here same c.requires)) c.is_again.ensures
    c.in_ok-taken.ensures.some (search rules) c.in_ok-taken.ensures.joined
    c.in_ok-taken.ensures.desk c.in_ok-taken.ensures.history

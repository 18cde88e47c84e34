use Rattle.std.proofs.Common.{ap, refl, Some, None, option_map}
use Rattle.std.proofs.KnownBytes.{Appends-nil}
use Rattle.otlp_read.specs.Requests.{request_view}
use Rattle.otlp_collector.proofs.Replies.{judges-as}
use Rattle.otlp_collector.proofs.connection.answer.Goals as goal

pub returns-in_default-clause-served : goal.returns-in_default-clause-served
returns-in_default-clause-served g c = record {
  reply = None;
  judges = judges-as c.in_default.is c.judge-reply.ensures;
  status_is = refl;
  writes_it = Appends-nil _;
}

pub returns-in-Ok-clause-served : goal.returns-in-Ok-clause-served
returns-in-Ok-clause-served g c = record {
  reply = Some c.in-Some.reply;
  judges = judges-as c.in-Some.is c.judge-reply.ensures;
  status_is = ap Some c.code.ensures;
  writes_it = c.in-Ok.ensures.ok;
}

pub returns-in-Err-clause-stopped : goal.returns-in-Err-clause-stopped
returns-in-Err-clause-stopped g c = record {
  reply = c.in-Some.reply;
  request = option_map request_view c.judge-reply.result.request;
  judges = judges-as c.in-Some.is c.judge-reply.ensures;
  within = c.in-Err.ensures.within;
  writes_it = c.in-Err.ensures.stopped;
}

use Rattle.std.proofs.Common.{refl, Some, codes}
use Rattle.std.specs.Fmt.{digits}
use Rattle.otlp_collector.specs.Answering.{taken, unread}
use Rattle.otlp_wire.specs.declared.fault.ReadFault.TheVariants.{OutOfMemory}
use Rattle.otlp_serve.specs.Answers.{plain_reply}
use Rattle.otlp_serve.specs.Replies.{reply_front}
use Rattle.otlp_serve.specs.declared.status.ReplyStatus.TheVariants.{Ok}
use Rattle.worked_trace.specs.Bytes.{plain_body}
use Rattle.worked_trace.specs.Written.{request_with}
use Rattle.law_export.specs.Delivery.{wants_memory}
use Rattle.law_export.specs.SmallBatch.{batch}
use Rattle.law_export.proofs.Sent.{not_refused, post}
use Rattle.law_export.proofs.SmallBatch.{came, carried, comes, means}
use Rattle.law_export.proofs.worked.one_span.Goals as goal

pub returns-clause-carried : goal.returns-clause-carried
returns-clause-carried c = carried

pub returns-clause-comes : goal.returns-clause-comes
returns-clause-comes c = comes

pub returns-clause-taken : goal.returns-clause-taken
unfolding reply_front digits
returns-clause-taken c = record {
  reply = Some (plain_reply Ok);
  judges =
      taken (post (codes "127.0.0.1") 4318 plain_body) came refl
      (not_refused (codes "127.0.0.1") 4318 plain_body) (request_with batch) means refl refl;
  status_is = refl;
  writes_it = refl;
}

pub returns-clause-refused : goal.returns-clause-refused
unfolding reply_front digits
returns-clause-refused c = record {
  reply = Some wants_memory;
  judges =
      unread (post (codes "127.0.0.1") 4318 plain_body) came refl
      (not_refused (codes "127.0.0.1") 4318 plain_body) OutOfMemory tt refl refl;
  status_is = refl;
  writes_it = refl;
}

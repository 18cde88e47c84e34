-- A reply that is known to be another.
use Rattle.std.proofs.Common.{◌≡◌, ℕ, List, Option, subst}
use Rattle.model_message.specs.Tables
use Rattle.model_message.specs.Tables.{Message}
use Rattle.http_wire.specs.declared.limits.HeadLimits.{HeadLimits}
use Rattle.otlp_serve.specs.declared.reply.PostReply.{PostReply}
use Rattle.otlp_collector.specs.declared.canned.Canned.{Canned}
use Rattle.otlp_collector.specs.Answering.{Judges}

-- What is judged of a reply is judged of an equal reply.
pub judges-as : {limits : HeadLimits} {canned : Option Canned} {old new : Option (List ℕ)}
    {before after : ℕ} {reply other : Option PostReply} {request : Option (Message Tables.request)}
    → reply ≡ other → Judges limits canned old new before after reply request
    → Judges limits canned old new before after other request
judges-as {limits} {canned} {old} {new} {before} {after} {reply} {other} {request} e j =
    subst (λ r. Judges limits canned old new before after r request) e j

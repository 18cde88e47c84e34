use Rattle.law_export.proofs.Agree.{one_reply, one_fault}
use Rattle.law_export.proofs.requests.bytes_mean_one_thing.Goals as goal

pub returns : goal.returns
returns c = record { reply = one_reply; fault = one_fault }

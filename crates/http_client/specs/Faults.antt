-- Why a request has no reply. (profile)
use Rattle.std.specs.Prelude.{ℕ, List, codes}
use Rattle.http_client.specs.declared.fault.SendFault.{SendFault}
use Rattle.http_client.specs.declared.fault.SendFault.TheVariants as faults

-- the word that a span has for it (Semantic Conventions, error.type)
abbrev pub error_type : SendFault → List ℕ
error_type faults.BadMethod = codes "bad_method"
error_type faults.BadField = codes "bad_field"
error_type faults.BadBody = codes "bad_body"
error_type faults.OutOfMemory = codes "out_of_memory"
error_type faults.NoConnection = codes "no_connection"
error_type faults.NotSent = codes "not_sent"
error_type (faults.NoReply fault) = codes "no_reply"

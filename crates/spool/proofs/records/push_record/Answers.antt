use Rattle.std.proofs.Common.{rules, append_assoc}
use Rattle.spool.specs.Records.{record_bytes}
use Rattle.spool.proofs.records.push_record.Goals as goal

pub returns-clause-written : goal.returns-clause-written
unfolding record_bytes
returns-clause-written c = search (rules, append_assoc)

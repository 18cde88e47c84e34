use Rattle.law_export.proofs.Delivered.{batch_arrives, one_of_two}
use Rattle.law_export.proofs.After.{later_left}
use Rattle.law_export.proofs.Memory.{unavailable}
use Rattle.law_export.proofs.delivery.a_batch_arrives.Goals as goal

pub returns-clause-whole : goal.returns-clause-whole
returns-clause-whole c = batch_arrives c.bytes_mean_one_request.ensures.post

pub returns-clause-broken_off : goal.returns-clause-broken_off
returns-clause-broken_off c = one_of_two c.bytes_mean_one_request.ensures.post

pub returns-clause-unavailable : goal.returns-clause-unavailable
returns-clause-unavailable c = unavailable

pub returns-clause-appended : goal.returns-clause-appended
returns-clause-appended c = later_left

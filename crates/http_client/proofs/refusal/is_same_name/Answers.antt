use Rattle.std.proofs.Common.{rules}
use Rattle.trace_context.specs.Carriers.{is_same_name}
use Rattle.http_client.proofs.refusal.is_same_name.Goals as goal

pub returns : goal.returns
unfolding is_same_name
returns c = search rules

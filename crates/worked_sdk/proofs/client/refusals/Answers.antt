use Rattle.std.proofs.Common.{refl}
use Rattle.httparse.specs.Grammar.{is_token_byte}
use Rattle.trace_context.specs.Carriers.{is_same_name}
use Rattle.http_client.specs.Refusals.{refusal}
use Rattle.worked_sdk.proofs.client.refusals.Goals as goal

pub returns-clause-none : goal.returns-clause-none
unfolding refusal is_token_byte is_same_name
returns-clause-none c = refl

pub returns-clause-empty : goal.returns-clause-empty
unfolding refusal is_token_byte is_same_name
returns-clause-empty c = refl

pub returns-clause-connect : goal.returns-clause-connect
unfolding refusal is_token_byte is_same_name
returns-clause-connect c = refl

pub returns-clause-own : goal.returns-clause-own
unfolding is_same_name
returns-clause-own c = refl

pub returns-clause-other : goal.returns-clause-other
unfolding is_same_name
returns-clause-other c = refl

pub returns-clause-line_end : goal.returns-clause-line_end
unfolding refusal is_token_byte is_same_name
returns-clause-line_end c = refl

pub returns-clause-trace : goal.returns-clause-trace
unfolding refusal is_token_byte is_same_name
returns-clause-trace c = refl

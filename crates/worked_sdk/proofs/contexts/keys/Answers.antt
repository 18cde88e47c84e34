use Rattle.std.proofs.Common.{refl}
use Rattle.trace_context.specs.Keys.{is_key, is_key_byte}
use Rattle.worked_sdk.proofs.contexts.keys.Goals as goal

pub returns-clause-letter : goal.returns-clause-letter
unfolding is_key is_key_byte
returns-clause-letter c = refl

pub returns-clause-digit : goal.returns-clause-digit
unfolding is_key is_key_byte
returns-clause-digit c = refl

pub returns-clause-all : goal.returns-clause-all
unfolding is_key is_key_byte
returns-clause-all c = refl

pub returns-clause-two_signs : goal.returns-clause-two_signs
unfolding is_key is_key_byte
returns-clause-two_signs c = refl

pub returns-clause-sign_last : goal.returns-clause-sign_last
unfolding is_key is_key_byte
returns-clause-sign_last c = refl

pub returns-clause-system_of_15 : goal.returns-clause-system_of_15
unfolding is_key is_key_byte
returns-clause-system_of_15 c = refl

pub returns-clause-most : goal.returns-clause-most
unfolding is_key is_key_byte
returns-clause-most c = refl

pub returns-clause-too_long : goal.returns-clause-too_long
unfolding is_key is_key_byte
returns-clause-too_long c = refl

pub returns-clause-empty : goal.returns-clause-empty
unfolding is_key is_key_byte
returns-clause-empty c = refl

pub returns-clause-sign_first : goal.returns-clause-sign_first
unfolding is_key is_key_byte
returns-clause-sign_first c = refl

pub returns-clause-underscore_first : goal.returns-clause-underscore_first
unfolding is_key is_key_byte
returns-clause-underscore_first c = refl

pub returns-clause-capital_first : goal.returns-clause-capital_first
unfolding is_key is_key_byte
returns-clause-capital_first c = refl

pub returns-clause-capital : goal.returns-clause-capital
unfolding is_key is_key_byte
returns-clause-capital c = refl

pub returns-clause-dot : goal.returns-clause-dot
unfolding is_key is_key_byte
returns-clause-dot c = refl

pub returns-clause-space : goal.returns-clause-space
unfolding is_key is_key_byte
returns-clause-space c = refl

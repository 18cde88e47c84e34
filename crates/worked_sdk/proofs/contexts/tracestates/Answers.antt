use Rattle.std.proofs.Common.{refl}
use Rattle.std.specs.Str.{is_utf8, chars}
use lib.Utf8.{encode}
use Rattle.httparse.specs.Grammar.{trim_ows}
use Rattle.trace_context.specs.Keys.{is_key, is_key_byte, is_value, is_value_byte}
use Rattle.trace_context.specs.Tracestate.{entries_in, is_entry, key_of, tracestate}
use Rattle.worked_sdk.proofs.contexts.tracestates.Goals as goal

pub returns-clause-one : goal.returns-clause-one
unfolding tracestate entries_in is_entry key_of is_key is_key_byte is_value is_value_byte trim_ows
    is_utf8 chars encode
returns-clause-one c = refl

pub returns-clause-two : goal.returns-clause-two
unfolding tracestate entries_in is_entry key_of is_key is_key_byte is_value is_value_byte trim_ows
    is_utf8 chars encode
returns-clause-two c = refl

pub returns-clause-tenant : goal.returns-clause-tenant
unfolding tracestate entries_in is_entry key_of is_key is_key_byte is_value is_value_byte trim_ows
    is_utf8 chars encode
returns-clause-tenant c = refl

pub returns-clause-twice : goal.returns-clause-twice
unfolding tracestate entries_in is_entry key_of is_key is_key_byte is_value is_value_byte trim_ows
    is_utf8 chars encode
returns-clause-twice c = refl

pub returns-clause-capital : goal.returns-clause-capital
unfolding tracestate entries_in is_entry key_of is_key is_key_byte is_value is_value_byte trim_ows
    is_utf8 chars encode
returns-clause-capital c = refl

pub returns-clause-no_value : goal.returns-clause-no_value
unfolding tracestate entries_in is_entry key_of is_key is_key_byte is_value is_value_byte trim_ows
    is_utf8 chars encode
returns-clause-no_value c = refl

pub returns-clause-equals : goal.returns-clause-equals
unfolding tracestate entries_in is_entry key_of is_key is_key_byte is_value is_value_byte trim_ows
    is_utf8 chars encode
returns-clause-equals c = refl

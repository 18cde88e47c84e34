-- The texts compute.
use Rattle.std.proofs.Common.{refl}
use Rattle.std.specs.Fmt.{digits}
use Rattle.std.specs.Str.{is_utf8, chars}
use lib.Utf8.{encode}
use Rattle.httparse.specs.Grammar.{trim_ows}
use Rattle.hex.proofs.OnLiterals.{hex_on_literals}
use Rattle.trace_context.specs.Carriers.{outgoing}
use Rattle.trace_context.specs.Keys.{is_key, is_key_byte, is_value}
use Rattle.trace_context.specs.Keys.{is_value_byte}
use Rattle.trace_context.specs.Outgoing.{traceparent_text}
use Rattle.trace_context.specs.Tracestate.{entries_in, is_entry, key_of, tracestate}
use Rattle.http_client.specs.Requests.{expects_body, request_head}
use Rattle.worked_sdk.proofs.client.texts.Goals as goal

pub returns-clause-traced : goal.returns-clause-traced
unfolding request_head expects_body digits outgoing traceparent_text hex_on_literals tracestate
    entries_in is_entry
    key_of is_key is_key_byte is_value is_value_byte trim_ows is_utf8 chars
    encode
returns-clause-traced c = refl

pub returns-clause-untraced : goal.returns-clause-untraced
unfolding request_head expects_body digits
returns-clause-untraced c = refl

pub returns-clause-body : goal.returns-clause-body
unfolding request_head expects_body digits
returns-clause-body c = refl

pub returns-clause-empty : goal.returns-clause-empty
unfolding request_head expects_body digits
returns-clause-empty c = refl

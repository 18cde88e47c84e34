use Rattle.std.proofs.Common.{refl}
use Rattle.hex.proofs.OnLiterals.{hex_on_literals}
use Rattle.trace_context.specs.Digits.{is_lower_digit, lower_bytes}
use Rattle.trace_context.specs.Traceparent.{has_dashes, is_version, span_of, trace_of, traceparent}
use Rattle.trace_context.specs.Traceparent.{version_of}
use Rattle.trace_context.specs.Outgoing.{traceparent_text}
use Rattle.worked_sdk.proofs.contexts.traceparents.Goals as goal

pub returns-clause-sampled : goal.returns-clause-sampled
unfolding traceparent version_of trace_of span_of is_version has_dashes lower_bytes is_lower_digit
    hex_on_literals
returns-clause-sampled c = refl

pub returns-clause-written : goal.returns-clause-written
unfolding traceparent_text hex_on_literals
returns-clause-written c = refl

pub returns-clause-short : goal.returns-clause-short
unfolding traceparent version_of trace_of span_of is_version has_dashes lower_bytes is_lower_digit
    hex_on_literals
returns-clause-short c = refl

pub returns-clause-long : goal.returns-clause-long
unfolding traceparent version_of trace_of span_of is_version has_dashes lower_bytes is_lower_digit
    hex_on_literals
returns-clause-long c = refl

pub returns-clause-no_version : goal.returns-clause-no_version
unfolding traceparent version_of trace_of span_of is_version has_dashes lower_bytes is_lower_digit
    hex_on_literals
returns-clause-no_version c = refl

pub returns-clause-capital : goal.returns-clause-capital
unfolding traceparent version_of trace_of span_of is_version has_dashes lower_bytes is_lower_digit
    hex_on_literals
returns-clause-capital c = refl

pub returns-clause-no_trace : goal.returns-clause-no_trace
unfolding traceparent version_of trace_of span_of is_version has_dashes lower_bytes is_lower_digit
    hex_on_literals
returns-clause-no_trace c = refl

pub returns-clause-no_span : goal.returns-clause-no_span
unfolding traceparent version_of trace_of span_of is_version has_dashes lower_bytes is_lower_digit
    hex_on_literals
returns-clause-no_span c = refl

pub returns-clause-no_dash : goal.returns-clause-no_dash
unfolding traceparent version_of trace_of span_of is_version has_dashes lower_bytes is_lower_digit
    hex_on_literals
returns-clause-no_dash c = refl

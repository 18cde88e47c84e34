use Rattle.std.proofs.Common.{refl}
use Rattle.std.specs.Str.{is_utf8, chars}
use lib.Utf8.{encode}
use Rattle.httparse.specs.Grammar.{is_token_byte, trim_ows}
use Rattle.otlp_http.specs.Fields.{refusal}
use Rattle.text_words.specs.Words.{bytes_of}
use Rattle.otel_settings.specs.Headers.{fields_of, headers_of, refusal_after}
use Rattle.otel_settings.specs.Pairs.{last_of, text_set}
use Rattle.otel_settings.specs.ResourcePairs.{is_value_byte, member_of, pair_of, pairs_of}
use Rattle.otel_settings.specs.Variables.{name_of}
use Rattle.worked_sdk.proofs.headers.variables_of_headers.Goals as goal

pub returns-clause-unset : goal.returns-clause-unset
unfolding headers_of text_set last_of name_of
returns-clause-unset c = refl

pub returns-clause-two : goal.returns-clause-two
unfolding headers_of fields_of refusal_after refusal pairs_of member_of pair_of is_value_byte
    trim_ows
    is_token_byte bytes_of text_set last_of name_of is_utf8 chars encode
returns-clause-two c = refl

pub returns-clause-traces_win : goal.returns-clause-traces_win
unfolding headers_of fields_of refusal_after refusal pairs_of member_of pair_of is_value_byte
    trim_ows
    is_token_byte bytes_of text_set last_of name_of is_utf8 chars encode
returns-clause-traces_win c = refl

pub returns-clause-bad_traces : goal.returns-clause-bad_traces
unfolding headers_of fields_of refusal_after refusal pairs_of member_of pair_of is_value_byte
    trim_ows
    is_token_byte bytes_of text_set last_of name_of is_utf8 chars encode
returns-clause-bad_traces c = refl

pub returns-clause-one_bad : goal.returns-clause-one_bad
unfolding headers_of fields_of refusal_after refusal pairs_of member_of pair_of is_value_byte
    trim_ows
    is_token_byte bytes_of text_set last_of name_of is_utf8 chars encode
returns-clause-one_bad c = refl

use Rattle.std.proofs.Common.{refl}
use Rattle.std.specs.Str.{is_utf8, chars}
use lib.Utf8.{encode}
use Rattle.httparse.specs.Grammar.{is_token_byte, trim_ows}
use Rattle.otlp_http.specs.Fields.{refusal}
use Rattle.text_words.specs.Words.{bytes_of}
use Rattle.otel_settings.specs.Headers.{header_faults, refusal_after}
use Rattle.otel_settings.specs.Pairs.{last_of, text_set}
use Rattle.otel_settings.specs.ResourcePairs.{is_value_byte, member_of, pair_of, pairs_of}
use Rattle.otel_settings.specs.Variables.{name_of}
use Rattle.worked_sdk.proofs.headers.faults_of_headers.Goals as goal

pub returns-clause-good : goal.returns-clause-good
unfolding header_faults refusal_after refusal pairs_of member_of pair_of is_value_byte trim_ows
    is_token_byte bytes_of text_set last_of name_of is_utf8 chars encode
returns-clause-good c = refl

pub returns-clause-no_pairs : goal.returns-clause-no_pairs
unfolding header_faults refusal_after refusal pairs_of member_of pair_of is_value_byte trim_ows
    is_token_byte bytes_of text_set last_of name_of is_utf8 chars encode
returns-clause-no_pairs c = refl

pub returns-clause-reserved : goal.returns-clause-reserved
unfolding header_faults refusal_after refusal pairs_of member_of pair_of is_value_byte trim_ows
    is_token_byte bytes_of text_set last_of name_of is_utf8 chars encode
returns-clause-reserved c = refl

pub returns-clause-end_of_line : goal.returns-clause-end_of_line
unfolding header_faults refusal_after refusal pairs_of member_of pair_of is_value_byte trim_ows
    is_token_byte bytes_of text_set last_of name_of is_utf8 chars encode
returns-clause-end_of_line c = refl

pub returns-clause-decoded : goal.returns-clause-decoded
unfolding header_faults refusal_after refusal pairs_of member_of pair_of is_value_byte trim_ows
    is_token_byte bytes_of text_set last_of name_of is_utf8 chars encode
returns-clause-decoded c = refl

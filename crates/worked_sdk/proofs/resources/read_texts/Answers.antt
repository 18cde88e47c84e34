use Rattle.std.proofs.Common.{refl}
use Rattle.std.specs.Str.{is_utf8, chars}
use lib.Utf8.{encode}
use Rattle.httparse.specs.Grammar.{is_token_byte, trim_ows}
use Rattle.text_words.specs.Words.{bytes_of}
use Rattle.otel_settings.specs.ResourcePairs.{is_value_byte, member_of, pair_of, pairs_of}
use Rattle.worked_sdk.proofs.resources.read_texts.Goals as goal

pub returns-clause-two : goal.returns-clause-two
unfolding pairs_of member_of pair_of is_value_byte trim_ows is_token_byte bytes_of is_utf8 chars
    encode
returns-clause-two c = refl

pub returns-clause-blanks : goal.returns-clause-blanks
unfolding pairs_of member_of pair_of is_value_byte trim_ows is_token_byte bytes_of is_utf8 chars
    encode
returns-clause-blanks c = refl

pub returns-clause-percent : goal.returns-clause-percent
unfolding pairs_of member_of pair_of is_value_byte trim_ows is_token_byte bytes_of is_utf8 chars
    encode
returns-clause-percent c = refl

pub returns-clause-marks : goal.returns-clause-marks
unfolding pairs_of member_of pair_of is_value_byte trim_ows is_token_byte bytes_of is_utf8 chars
    encode
returns-clause-marks c = refl

pub returns-clause-empty_value : goal.returns-clause-empty_value
unfolding pairs_of member_of pair_of is_value_byte trim_ows is_token_byte bytes_of is_utf8 chars
    encode
returns-clause-empty_value c = refl

pub returns-clause-second_equals : goal.returns-clause-second_equals
unfolding pairs_of member_of pair_of is_value_byte trim_ows is_token_byte bytes_of is_utf8 chars
    encode
returns-clause-second_equals c = refl

pub returns-clause-same_key : goal.returns-clause-same_key
unfolding pairs_of member_of pair_of is_value_byte trim_ows is_token_byte bytes_of is_utf8 chars
    encode
returns-clause-same_key c = refl

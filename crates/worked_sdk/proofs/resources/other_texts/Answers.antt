use Rattle.std.proofs.Common.{refl}
use Rattle.std.specs.Str.{is_utf8, chars}
use lib.Utf8.{encode}
use Rattle.httparse.specs.Grammar.{is_token_byte, trim_ows}
use Rattle.text_words.specs.Words.{bytes_of}
use Rattle.otel_settings.specs.ResourcePairs.{is_value_byte, member_of, pair_of, pairs_of}
use Rattle.worked_sdk.proofs.resources.other_texts.Goals as goal

pub returns-clause-not_utf8 : goal.returns-clause-not_utf8
unfolding pairs_of member_of pair_of is_value_byte trim_ows is_token_byte bytes_of is_utf8 chars
    encode
returns-clause-not_utf8 c = refl

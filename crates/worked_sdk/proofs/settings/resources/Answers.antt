use Rattle.std.proofs.Common.{refl}
use Rattle.std.specs.Str.{is_utf8, chars}
use lib.Utf8.{encode}
use Rattle.httparse.specs.Grammar.{is_token_byte, trim_ows}
use Rattle.model_span.specs.Attributes.{attributes}
use Rattle.text_words.specs.Words.{bytes_of}
use Rattle.otel_settings.specs.ResourcePairs.{is_value_byte, member_of, pair_of, pairs_of}
use Rattle.otel_settings.specs.Pairs.{last_of, text_set}
use Rattle.otel_settings.specs.Resources.{resource_faults, resource_of}
use Rattle.otel_settings.specs.Variables.{name_of}
use Rattle.worked_sdk.proofs.settings.resources.Goals as goal

pub returns-clause-name_wins : goal.returns-clause-name_wins
unfolding resource_of attributes pairs_of member_of pair_of is_value_byte trim_ows is_token_byte
    bytes_of text_set last_of name_of is_utf8 chars encode
returns-clause-name_wins c = refl

pub returns-clause-bad : goal.returns-clause-bad
unfolding resource_of attributes pairs_of member_of pair_of is_value_byte trim_ows is_token_byte
    bytes_of text_set last_of name_of is_utf8 chars encode
returns-clause-bad c = refl

pub returns-clause-fault : goal.returns-clause-fault
unfolding resource_faults pairs_of member_of pair_of is_value_byte trim_ows is_token_byte bytes_of
    text_set last_of name_of is_utf8 chars encode
returns-clause-fault c = refl

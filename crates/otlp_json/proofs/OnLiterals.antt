-- What computes the meaning of a text that is written out.
use Rattle.std.specs.Prelude.{⊤}
use Rattle.std.specs.Str.{is_utf8, chars}
use lib.Utf8.{encode}
use Rattle.json.proofs.OnLiterals.{json_on_literals}
use Rattle.model_message.specs.Canon.{row_bytes, field_bytes, payload_bytes, shortest, septets_of}
use Rattle.otlp_json.specs.Bodies.{request_fields, object, members, member, value, items}
use Rattle.otlp_json.specs.Leaves.{payload}
use Rattle.otlp_json.specs.Names.{member_named, request_member, resource_spans_member}

-- what an answer unfolds to compute the bytes of fields
unfoldable pub rows_on_literals : ⊤
unfolding row_bytes field_bytes payload_bytes shortest septets_of
rows_on_literals = tt

-- and which fields a few names are
unfoldable pub names_on_literals : ⊤
unfolding member_named request_member resource_spans_member
names_on_literals = tt

-- and which fields objects are that have these names
unfoldable pub objects_on_literals : ⊤
unfolding object members member value items payload names_on_literals
objects_on_literals = tt

-- and what a text means
unfoldable pub texts_on_literals : ⊤
unfolding is_utf8 chars encode json_on_literals request_fields rows_on_literals objects_on_literals
texts_on_literals = tt

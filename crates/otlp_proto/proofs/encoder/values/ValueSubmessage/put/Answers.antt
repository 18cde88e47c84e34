use Rattle.std.proofs.Common.{string_bytes, map}
use Rattle.model_message.specs.AnyValue.{AnyValue}
use Rattle.otlp_proto.proofs.Values.{map-map, one-level, array-member}
use Rattle.otlp_proto.proofs.encoder.values.ValueSubmessage.put.Goals as goal

pub returns-in-Text : goal.returns-in-Text
returns-in-Text g c = rw c.in-Text.is (one-level _ c.put.ensures)

pub returns-in-Bool : goal.returns-in-Bool
returns-in-Bool g c = rw c.in-Bool.is (one-level _ c.put-in-Bool.ensures)

pub returns-in-Int : goal.returns-in-Int
returns-in-Int g c = rw c.in-Int.is (one-level _ c.put-in-Int.ensures)

pub returns-in-Texts : goal.returns-in-Texts
returns-in-Texts g c =
    let array = rw c.as_slice.ensures.value at c.put_one.ensures in
    rw (c.in-Texts.is, map-map AnyValue.text string_bytes c.in-Texts.texts.items)
    (array-member (map (λ t. AnyValue.text (string_bytes t)) c.in-Texts.texts.items) array)

pub returns-in-Bools : goal.returns-in-Bools
returns-in-Bools g c =
    let array = rw c.as_slice-in-Bools.ensures.value at c.put_one-in-Bools.ensures in
    rw c.in-Bools.is (array-member (map AnyValue.bool c.in-Bools.truths.items) array)

pub returns-in-Ints : goal.returns-in-Ints
returns-in-Ints g c =
    let array = rw c.as_slice-in-Ints.ensures.value at c.put_one-in-Ints.ensures in
    rw c.in-Ints.is (array-member (map AnyValue.int c.in-Ints.numbers.items) array)

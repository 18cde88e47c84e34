use Rattle.std.proofs.Common.{sym, ap, ◌∙◌, ◌++◌, true, false, codes, map, string_bytes, rules}
use Rattle.std.proofs.Common.{arith}
use Rattle.std.specs.Fmt.{signed_decimal}
use Rattle.std.specs.Int.{w64, to_be_bytes}
use Rattle.hex.specs.Hex.{encode_lower}
use Rattle.otlp_read.specs.declared.any_value.AnyValue.{Empty, Text, Bool as Truth, Int, Double}
use Rattle.otlp_read.specs.declared.any_value.AnyValue.{Array, Pairs, Bytes}
use Rattle.otlp_collector.specs.Lines.{comma_before, listed, text_word, bytes_word}
use Rattle.otlp_collector.specs.Words.{any_word, pair_word}
use Rattle.otlp_collector.proofs.Listed.{left-more, part-of, appended}
use Rattle.otlp_collector.proofs.Views.{word-Empty, word-Text, word-true, word-false, word-Int}
use Rattle.otlp_collector.proofs.Views.{word-Double, word-Array, word-Pairs, word-Bytes, told}
use Rattle.otlp_collector.proofs.Views.{told-by, told-call, array-longer, pairs-longer}
use Rattle.otlp_collector.proofs.Views.{value-shorter, pair-after}
use Rattle.otlp_collector.proofs.value.+value.Goals as goal

pub push_array-push_value-requires : goal.push_array-push_value-requires
push_array-push_value-requires g t c κs within =
    let part =
    part-of any_word c.args.values.now c.loop-at.at c.index-values-at.result c.loop-at-test.true
    c.index-values-at.is in
    (omega (arith, part, c.decreases), within)

pub push_array-loop-at-preserved : goal.push_array-loop-at-preserved
push_array-loop-at-preserved g t c =
    left-more any_word c.args.values.now c.loop-at.at c.index-values-at.result
    (string_bytes c.push_str.new.self) (string_bytes c.loop-at.out)
    (string_bytes c.push_value.new.out) c.loop-at-test.true c.index-values-at.is c.loop-at.invariant
    (appended (string_bytes c.loop-at.out) (string_bytes c.push_comma.new.out)
    (string_bytes c.push_value.new.out) (comma_before c.loop-at.at)
    (any_word c.index-values-at.result) c.in_ok-push_comma.ensures c.in_ok-push_value.ensures)

pub push_pairs-push_value-requires : goal.push_pairs-push_value-requires
push_pairs-push_value-requires g t c κs within =
    let part =
    part-of pair_word c.args.pairs.now c.loop-at.at c.index-pairs-at.result c.loop-at-test.true
    c.index-pairs-at.is in
    (omega (arith, part, value-shorter c.index-pairs-at.result, c.decreases), within)

pub push_pairs-loop-at-preserved : goal.push_pairs-loop-at-preserved
push_pairs-loop-at-preserved g t c =
    left-more pair_word c.args.pairs.now c.loop-at.at c.index-pairs-at.result
    (string_bytes c.push_str.new.self) (string_bytes c.loop-at.out)
    (string_bytes c.push_value.new.out) c.loop-at-test.true c.index-pairs-at.is c.loop-at.invariant
    (pair-after c.index-pairs-at.result c.deref.result.now (string_bytes c.loop-at.out)
    (string_bytes c.push_key.new.out) (string_bytes c.push_value.new.out)
    (comma_before c.loop-at.at) c.deref.ensures c.in_ok-push_key.ensures c.in_ok-push_value.ensures)

pub push_value-push_array-requires : goal.push_value-push_array-requires
push_value-push_array-requires g t c κs within =
    let longer =
    array-longer c.args.value.now c.in-Array.values c.deref-in-Array.result.now c.in-Array.is
    c.deref-in-Array.ensures.value in
    (omega (arith, longer, c.decreases), within)

pub push_value-push_pairs-requires : goal.push_value-push_pairs-requires
push_value-push_pairs-requires g t c κs within =
    let longer =
    pairs-longer c.args.value.now c.in-Pairs.pairs c.deref-in-Pairs.result.now c.in-Pairs.is
    c.deref-in-Pairs.ensures.value in
    (omega (arith, longer, c.decreases), within)

pub push_value-returns-in_ok-push_str-in-Empty : goal.push_value-returns-in_ok-push_str-in-Empty
push_value-returns-in_ok-push_str-in-Empty g t c =
    told c.args.value.now Empty (string_bytes c.args.out.now) (string_bytes c.push_str.new.self)
    (codes "n:") c.in-Empty.is (word-Empty _) c.in_ok-push_str-in-Empty.ensures.bytes

pub push_value-returns-in_ok-push_str-in-Text : goal.push_value-returns-in_ok-push_str-in-Text
push_value-returns-in_ok-push_str-in-Text g t c =
    told-by c.push_text.result c.args.value.now (Text c.in-Text.text) (string_bytes c.args.out.now)
    (string_bytes c.push_str-in-Text.new.self) (string_bytes c.push_text.new.out) (codes "t:")
    (text_word c.deref.result.now) c.in-Text.is
    (word-Text c.in-Text.text ∙ ap (λ l. codes "t:" ++ text_word l) (sym c.deref.ensures))
    c.in_ok-push_str-in-Text.ensures.bytes c.push_text.ensures

pub push_value-returns-in_ok-push_str-in-Bool-true :
    goal.push_value-returns-in_ok-push_str-in-Bool-true
push_value-returns-in_ok-push_str-in-Bool-true g t c =
    told c.args.value.now (Truth true) (string_bytes c.args.out.now)
    (string_bytes c.push_str-in-Bool-true.new.self) (codes "b:true")
    (c.in-Bool-true.is ∙ ap Truth (sym c.in-Bool-true.field-0-is ∙ c.in-Bool-true.field-0-test))
    (word-true _) c.in_ok-push_str-in-Bool-true.ensures.bytes

pub push_value-returns-in_ok-push_str-in-Bool-false :
    goal.push_value-returns-in_ok-push_str-in-Bool-false
push_value-returns-in_ok-push_str-in-Bool-false g t c =
    told c.args.value.now (Truth false) (string_bytes c.args.out.now)
    (string_bytes c.push_str-in-Bool-false.new.self) (codes "b:false")
    (c.in-Bool-false.is ∙ ap Truth (sym c.in-Bool-false.field-0-is ∙ c.in-Bool-false.field-0-test))
    (word-false _) c.in_ok-push_str-in-Bool-false.ensures.bytes

pub push_value-returns-in_ok-write-in-Int : goal.push_value-returns-in_ok-write-in-Int
push_value-returns-in_ok-write-in-Int g t c =
    told c.args.value.now (Int c.in-Int.number) (string_bytes c.args.out.now)
    (string_bytes c.write.new.self) (codes "i:" ++ signed_decimal c.in-Int.number) c.in-Int.is
    (word-Int _ _) (search rules)

pub push_value-returns-in_ok-write-in-Double : goal.push_value-returns-in_ok-write-in-Double
push_value-returns-in_ok-write-in-Double g t c =
    told c.args.value.now (Double c.in-Double.bits) (string_bytes c.args.out.now)
    (string_bytes c.write-in-Double.new.self)
    (codes "d:" ++ encode_lower (to_be_bytes w64 c.in-Double.bits)) c.in-Double.is (word-Double _ _)
    (search rules)

pub push_value-returns-in-Array : goal.push_value-returns-in-Array
push_value-returns-in-Array g t c =
    told-call c.push_array.result c.args.value.now (Array c.in-Array.values)
    (string_bytes c.args.out.now) (string_bytes c.push_array.new.out)
    (codes "a(" ++ (listed (map any_word c.deref-in-Array.result.now) ++ codes ")")) c.in-Array.is
    (word-Array c.in-Array.values
    ∙ ap (λ l. codes "a(" ++ (listed (map any_word l) ++ codes ")"))
    (sym c.deref-in-Array.ensures.value))
    c.push_array.ensures

pub push_value-returns-in-Pairs : goal.push_value-returns-in-Pairs
push_value-returns-in-Pairs g t c =
    told-call c.push_pairs.result c.args.value.now (Pairs c.in-Pairs.pairs)
    (string_bytes c.args.out.now) (string_bytes c.push_pairs.new.out)
    (codes "m(" ++ (listed (map pair_word c.deref-in-Pairs.result.now) ++ codes ")")) c.in-Pairs.is
    (word-Pairs c.in-Pairs.pairs
    ∙ ap (λ l. codes "m(" ++ (listed (map pair_word l) ++ codes ")"))
    (sym c.deref-in-Pairs.ensures.value))
    c.push_pairs.ensures

pub push_value-returns-in_ok-push_str-in-Bytes : goal.push_value-returns-in_ok-push_str-in-Bytes
push_value-returns-in_ok-push_str-in-Bytes g t c =
    told-by c.push_bytes.result c.args.value.now (Bytes c.in-Bytes.bytes)
    (string_bytes c.args.out.now) (string_bytes c.push_str-in-Bytes.new.self)
    (string_bytes c.push_bytes.new.out) (codes "y:")
    (bytes_word c.deref-in-Bytes.result.now) c.in-Bytes.is
    (word-Bytes c.in-Bytes.bytes
    ∙ ap (λ l. codes "y:" ++ bytes_word l) (sym c.deref-in-Bytes.ensures.value))
    c.in_ok-push_str-in-Bytes.ensures.bytes c.push_bytes.ensures

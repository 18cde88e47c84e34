use Rattle.std.proofs.Common.{sym, ap, ◌∙◌, true, false, codes, string_bytes, arith}
use Rattle.otlp_read.specs.declared.any_value.AnyValue.{Empty, Text, Bool as Truth, Int, Double}
use Rattle.otlp_read.specs.declared.any_value.AnyValue.{Array, Pairs, Bytes}
use Rattle.view_pages.specs.Html.{Markup, Text as TextPart, Signed}
use Rattle.view_pages.specs.Values.{item_html, pair_html, double_html, bytes_html}
use Rattle.view_pages.proofs.Each.{each_more, part_within}
use Rattle.view_pages.proofs.Shown.{html-Empty, html-Text, html-true, html-false, html-Int}
use Rattle.view_pages.proofs.Shown.{html-Double, html-Bytes, html-Array, html-Pairs, array_html}
use Rattle.view_pages.proofs.Shown.{list_html, told_call, array_longer, pairs_longer, item_longer}
use Rattle.view_pages.proofs.Shown.{value_shorter, pair_after}
use Rattle.view_pages.proofs.value.+value.Goals as goal

pub push_array-push_value-requires : goal.push_array-push_value-requires
push_array-push_value-requires g t c κs within =
    let part =
    part_within item_html c.args.values.now c.loop-value.value-index c.value-item.result
    c.loop-value-test.true c.value-item.is in
    (omega (arith, part, item_longer c.value-item.result, c.decreases), within)

pub push_list-push_value-requires : goal.push_list-push_value-requires
push_list-push_value-requires g t c κs within =
    let part =
    part_within pair_html c.args.pairs.now c.loop-key.key-index c.loop-key-item.result
    c.loop-key-test.true c.loop-key-item.is in
    (omega (arith, part, value_shorter c.loop-key-item.result, c.decreases), within)

pub push_list-loop-key-preserved : goal.push_list-loop-key-preserved
push_list-loop-key-preserved g t c =
    each_more pair_html c.args.pairs.now c.loop-key.key-index c.loop-key-item.result
    (string_bytes c.push_markup.new.out) (string_bytes c.loop-key.out)
    (string_bytes c.push_value.new.out) c.loop-key-test.true c.loop-key-item.is c.loop-key.invariant
    (pair_after c.loop-key-item.result c.deref.result.now (string_bytes c.loop-key.out)
    (string_bytes c.push_key.new.out)
    (string_bytes c.push_value.new.out) c.deref.ensures c.in_ok-push_key.ensures
    c.in_ok-push_value.ensures)

pub push_value-push_array-requires : goal.push_value-push_array-requires
push_value-push_array-requires g t c κs within =
    let longer =
    array_longer c.args.value.now c.in-Array.values c.deref-in-Array.result.now c.in-Array.is
    c.deref-in-Array.ensures.value in
    (omega (arith, longer, c.decreases), within)

pub push_value-push_list-requires : goal.push_value-push_list-requires
push_value-push_list-requires g t c κs within =
    let longer =
    pairs_longer c.args.value.now c.in-Pairs.pairs c.deref-in-Pairs.result.now c.in-Pairs.is
    c.deref-in-Pairs.ensures.value in
    (omega (arith, longer, c.decreases), within)

pub push_value-returns-in-Empty : goal.push_value-returns-in-Empty
push_value-returns-in-Empty g t c =
    told_call c.push_markup.result c.args.value.now Empty (string_bytes c.args.out.now)
    (string_bytes c.push_markup.new.out) (Markup (codes "<i>no value</i>")) c.in-Empty.is
    (html-Empty _) c.push_markup.ensures

pub push_value-returns-in-Text : goal.push_value-returns-in-Text
push_value-returns-in-Text g t c =
    told_call c.push_text.result c.args.value.now (Text c.in-Text.text)
    (string_bytes c.args.out.now) (string_bytes c.push_text.new.out)
    (TextPart c.deref.result.now) c.in-Text.is
    (html-Text c.in-Text.text ∙ ap TextPart (sym c.deref.ensures)) c.push_text.ensures

pub push_value-returns-in-Bool-true : goal.push_value-returns-in-Bool-true
push_value-returns-in-Bool-true g t c =
    told_call c.push_markup-in-Bool-true.result c.args.value.now (Truth true)
    (string_bytes c.args.out.now) (string_bytes c.push_markup-in-Bool-true.new.out)
    (Markup (codes "true"))
    (c.in-Bool-true.is ∙ ap Truth (sym c.in-Bool-true.field-0-is ∙ c.in-Bool-true.field-0-test))
    (html-true _) c.push_markup-in-Bool-true.ensures

pub push_value-returns-in-Bool-false : goal.push_value-returns-in-Bool-false
push_value-returns-in-Bool-false g t c =
    told_call c.push_markup-in-Bool-false.result c.args.value.now (Truth false)
    (string_bytes c.args.out.now) (string_bytes c.push_markup-in-Bool-false.new.out)
    (Markup (codes "false"))
    (c.in-Bool-false.is ∙ ap Truth (sym c.in-Bool-false.field-0-is ∙ c.in-Bool-false.field-0-test))
    (html-false _) c.push_markup-in-Bool-false.ensures

pub push_value-returns-in-Int : goal.push_value-returns-in-Int
push_value-returns-in-Int g t c =
    told_call c.push_int.result c.args.value.now (Int c.in-Int.number)
    (string_bytes c.args.out.now)
    (string_bytes c.push_int.new.out) (Signed c.in-Int.number) c.in-Int.is
    (html-Int _ _) c.push_int.ensures

pub push_value-returns-in-Double : goal.push_value-returns-in-Double
push_value-returns-in-Double g t c =
    told_call c.push_double.result c.args.value.now (Double c.in-Double.bits)
    (string_bytes c.args.out.now) (string_bytes c.push_double.new.out)
    (double_html c.in-Double.bits) c.in-Double.is
    (html-Double _ _) c.push_double.ensures

pub push_value-returns-in-Array : goal.push_value-returns-in-Array
push_value-returns-in-Array g t c =
    told_call c.push_array.result c.args.value.now (Array c.in-Array.values)
    (string_bytes c.args.out.now) (string_bytes c.push_array.new.out)
    (array_html c.deref-in-Array.result.now) c.in-Array.is
    (html-Array c.in-Array.values ∙ ap array_html (sym c.deref-in-Array.ensures.value))
    c.push_array.ensures

pub push_value-returns-in-Pairs : goal.push_value-returns-in-Pairs
push_value-returns-in-Pairs g t c =
    told_call c.push_list.result c.args.value.now (Pairs c.in-Pairs.pairs)
    (string_bytes c.args.out.now) (string_bytes c.push_list.new.out)
    (list_html c.deref-in-Pairs.result.now) c.in-Pairs.is
    (html-Pairs c.in-Pairs.pairs ∙ ap list_html (sym c.deref-in-Pairs.ensures.value))
    c.push_list.ensures

pub push_value-returns-in-Bytes : goal.push_value-returns-in-Bytes
push_value-returns-in-Bytes g t c =
    told_call c.push_bytes.result c.args.value.now (Bytes c.in-Bytes.bytes)
    (string_bytes c.args.out.now) (string_bytes c.push_bytes.new.out)
    (bytes_html c.deref-in-Bytes.result.now) c.in-Bytes.is
    (html-Bytes c.in-Bytes.bytes ∙ ap bytes_html (sym c.deref-in-Bytes.ensures.value))
    c.push_bytes.ensures

use Rattle.std.proofs.Common.{◌∙◌, ◌++◌, ap, sym, arith, codes}
use Rattle.std.specs.List.{flat_map}
use Rattle.otlp_read.specs.declared.any_value.AnyValue.{Array, Pairs, Text}
use Rattle.trace_store.specs.Sizes.{pair_bytes}
use Rattle.trace_store.proofs.SizeSteps.{array_larger, pairs_larger, value_smaller}
use Rattle.otlp_json.specs.Seen.{braces, seen, text_member}
use Rattle.view_json.specs.Values.{member_seen, nested, nested_back, nested_front, pair_seen}
use Rattle.view_json.specs.Values.{pair_text, value_seen}
use Rattle.view_json.proofs.Views.{array_seen, given, left_out, pairs_seen, text_seen, told}
use Rattle.otlp_json.proofs.Chains.{appended, last, list_written, next_written, written_is}
use Rattle.view_json.proofs.value.+value.Goals as goal

pub push_member-push_array-requires : goal.push_member-push_array-requires
push_member-push_array-requires g t c κs within =
    let larger =
    array_larger c.args.value.now c.in-Array.values c.deref-in-Array.result.now c.in-Array.is
    c.deref-in-Array.ensures.value in
    (omega (arith, larger, c.decreases), within)

pub push_member-push_pairs-requires : goal.push_member-push_pairs-requires
push_member-push_pairs-requires g t c κs within =
    let larger =
    pairs_larger c.args.value.now c.in-Pairs.pairs c.deref-in-Pairs.result.now c.in-Pairs.is
    c.deref-in-Pairs.ensures.value in
    (omega (arith, larger, c.decreases), within)

pub push_member-returns-in-Array-clause-seen : goal.push_member-returns-in-Array-clause-seen
push_member-returns-in-Array-clause-seen g t c =
    told c.push_array.result c.args.value.now (Array c.in-Array.values) (seen c.args.out.now.tokens)
    (seen c.push_array.new.out.tokens)
    (nested (codes "arrayValue") (flat_map value_seen c.deref-in-Array.result.now)) c.in-Array.is
    (array_seen c.in-Array.values
    ∙ ap (λ l. nested (codes "arrayValue") (flat_map value_seen l))
    (sym c.deref-in-Array.ensures.value))
    c.push_array.ensures.seen

pub push_member-returns-in-Pairs-clause-seen : goal.push_member-returns-in-Pairs-clause-seen
push_member-returns-in-Pairs-clause-seen g t c =
    told c.push_pairs.result c.args.value.now (Pairs c.in-Pairs.pairs) (seen c.args.out.now.tokens)
    (seen c.push_pairs.new.out.tokens)
    (nested (codes "kvlistValue") (flat_map pair_seen c.deref-in-Pairs.result.now)) c.in-Pairs.is
    (pairs_seen c.in-Pairs.pairs
    ∙ ap (λ l. nested (codes "kvlistValue") (flat_map pair_seen l))
    (sym c.deref-in-Pairs.ensures.value))
    c.push_pairs.ensures.seen

pub push_member-returns-in-Text-clause-seen : goal.push_member-returns-in-Text-clause-seen
push_member-returns-in-Text-clause-seen g t c =
    told c.push_text.result c.args.value.now (Text c.in-Text.text) (seen c.args.out.now.tokens)
    (seen c.push_text.new.out.tokens) (seen (text_member (codes "stringValue") c.deref.result.now))
    c.in-Text.is
    (text_seen c.in-Text.text
    ∙ ap (λ l. seen (text_member (codes "stringValue") l)) (sym c.deref.ensures))
    c.push_text.ensures.seen

pub push_array-returns-clause-seen : goal.push_array-returns-clause-seen
push_array-returns-clause-seen g t c =
    list_written c.end_nested.result value_seen c.args.values.now c.loop-value.value-index
    (seen c.args.out.now.tokens) (seen c.begin_nested.new.out.tokens) (seen c.loop-value.out.tokens)
    (seen c.end_nested.new.out.tokens)
    (nested_front (codes "arrayValue")) nested_back c.in_ok-begin_nested.ensures.seen
    c.loop-value.invariant.written c.loop-value-test.false c.end_nested.ensures.seen

pub push_pairs-push_pair-requires : goal.push_pairs-push_pair-requires
push_pairs-push_pair-requires g t c κs within =
    let part =
    value_smaller pair_bytes c.args.pairs.now c.loop-key.key-index c.loop-key-item.result
    c.loop-key-test.true c.loop-key-item.is in
    (omega (arith, part, c.decreases), within)

pub push_pairs-loop-key-preserved : goal.push_pairs-loop-key-preserved
push_pairs-loop-key-preserved g t c = record {
  written =
      next_written pair_seen c.args.pairs.now c.loop-key.key-index c.loop-key-item.result
      (seen c.loop-key.out.tokens)
      (seen c.push_pair.new.out.tokens) _ c.loop-key-test.true c.loop-key-item.is
      c.loop-key.invariant.written
      (c.in_ok-push_pair.ensures.seen
      ∙ ap (λ l. seen c.loop-key.out.tokens ++ pair_text l (member_seen c.loop-key-item.result.1))
      c.deref.ensures);
  before = c.in_ok-push_pair.ensures.before ∙ c.loop-key.invariant.before;
}

pub push_pairs-returns-clause-seen : goal.push_pairs-returns-clause-seen
push_pairs-returns-clause-seen g t c =
    list_written c.end_nested.result pair_seen c.args.pairs.now c.loop-key.key-index
    (seen c.args.out.now.tokens) (seen c.begin_nested.new.out.tokens) (seen c.loop-key.out.tokens)
    (seen c.end_nested.new.out.tokens)
    (nested_front (codes "kvlistValue")) nested_back c.in_ok-begin_nested.ensures.seen
    c.loop-key.invariant.written c.loop-key-test.false c.end_nested.ensures.seen

pub push_value-returns-clause-seen : goal.push_value-returns-clause-seen
push_value-returns-clause-seen g t c =
    let s0 = seen c.args.out.now.tokens in
    let s1 = seen c.begin.new.out.tokens in
    let s2 = seen c.push_member.new.out.tokens in
    last c.end.result s0 s2 (seen c.end.new.out.tokens) _ _
    (appended s0 s1 s2 _ _ c.in_ok-begin.ensures.seen c.in_ok-push_member.ensures.seen)
    c.end.ensures.seen

pub push_pair-returns-then-is_empty-clause-seen : goal.push_pair-returns-then-is_empty-clause-seen
push_pair-returns-then-is_empty-clause-seen g t c =
    let s0 = seen c.args.out.now.tokens in
    let s1 = seen c.begin.new.out.tokens in
    let s2 = seen c.push_text.new.out.tokens in
    let s3 = seen c.end.new.out.tokens in
    written_is c.end.result s0 s3 _ _
    (ap (λ l. braces (seen (text_member (codes "key") c.args.name.now) ++ l))
    (left_out (member_seen c.args.value.now) (sym c.is_empty.ensures ∙ c.if-is_empty.true)))
    (last c.end.result s0 s2 s3 _ _
    (appended s0 s1 s2 _ _ c.in_ok-begin.ensures.seen c.in_ok-push_text.ensures.seen)
    c.end.ensures.seen)

pub push_pair-returns-clause-seen : goal.push_pair-returns-clause-seen
push_pair-returns-clause-seen g t c =
    let s0 = seen c.args.out.now.tokens in
    let s1 = seen c.begin.new.out.tokens in
    let s2 = seen c.push_text.new.out.tokens in
    let s3 = seen c.push_key.new.out.tokens in
    let s4 = seen c.push_value.new.out.tokens in
    let s5 = seen c.end-2.new.out.tokens in
    written_is c.end-2.result s0 s5 _ _
    (ap (λ l. braces (seen (text_member (codes "key") c.args.name.now) ++ l))
    (given (member_seen c.args.value.now) (sym c.is_empty.ensures ∙ c.if-is_empty.false)))
    (last c.end-2.result s0 s4 s5 _ _
    (appended s0 s3 s4 _ _
    (appended s0 s2 s3 _ _
    (appended s0 s1 s2 _ _ c.in_ok-begin.ensures.seen c.in_ok-push_text.ensures.seen)
    c.in_ok-push_key.ensures.seen) c.in_ok-push_value.ensures.seen)
    c.end-2.ensures.seen)

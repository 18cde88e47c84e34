use Rattle.std.proofs.Common.{◌≡◌, ℕ, ◌-◌, List, [], ◌++◌, length, Some}
use Rattle.std.proofs.Common.{None}
use Rattle.std.proofs.Common.{Result, Ok, sym, ap, ◌∙◌, arith, take, drop, subst}
use Rattle.std.specs.Option.{option_map}
use Rattle.json.specs.Token.{Token}
use Rattle.json.specs.Json.{read_key, after_end_array}
use Rattle.json.specs.Reads.{token_of}
use Rattle.json.proofs.Grammar.{read_key-shorter}
use Rattle.model_message.specs.Canon.{field_bytes, bytes_field}
use Rattle.otlp_json.specs.Bodies.{object, member, value, nested, each}
use Rattle.otlp_json.specs.Fronts.{next_token, if_skipped, after}
use Rattle.otlp_json.specs.Leaves.{payload}
use Rattle.otlp_json.specs.Writing.{appended, Leaves}
use Rattle.otlp_json.specs.declared.fault.JsonFault.{JsonFault}
use Rattle.otlp_json.specs.declared.fault.JsonFault.TheVariants as faults
use Rattle.otlp_json.specs.declared.fault.Stop.TheVariants as stops
use Rattle.otlp_json.proofs.Outcomes.{fails_too, passed, beside}
use Rattle.otlp_json.proofs.Outcomes.{leaf_left, always, not_null}
use Rattle.otlp_json.proofs.Rows.{no_fields, object-is, item-none, item-is, items-end, items-stop}
use Rattle.otlp_json.proofs.Rows.{items-more, members-end, members-no-name, members-stop}
use Rattle.otlp_json.proofs.Rows.{members-more, enclosed}
use Rattle.otlp_json.proofs.walk.+walk.Goals as goal

-- ---- lists

pub each-returns-in_err-opening-clause-value : goal.each-returns-in_err-opening-clause-value
each-returns-in_err-opening-clause-value g t c =
    let o = object c.args.depth in
    let l = c.items in
    let going : (after_end_array l.reader ≡ None) × (c.take_end_array.new.self ≡ l.reader) =
    grind arith in
    let opened =
    ap (λ k. appended c.args.out.now.items
    (each o c.args.number c.args.message (token_of k) c.args.reader.now))
    c.in-BeginArray.is in
    passed c.from_residual.result c.in_err-opening.field-0.0 _ _ c.from_residual.ensures.1
    (fails_too c.in_err-opening.field-0.0 (next_token c.take_end_array.new.self) _
    (λ fault none. opened ∙ l.invariant.3
    ∙ items-stop o c.args.number c.args.message l.invariant.0 l.out.items l.reader fault
    (omega (arith, l.invariant.1)) going.0
    (item-none o c.args.number c.args.message l.out.items l.reader fault
    (ap next_token (sym going.1) ∙ none)))
    c.in_err-opening.ensures.value)

pub each-items-preserved : goal.each-items-preserved
each-items-preserved g t c =
    let o = object c.args.depth in
    let l = c.items in
    let going : (after_end_array l.reader ≡ None) × (c.take_end_array.new.self ≡ l.reader) =
    grind arith in
    let first =
    item-is o c.args.number c.args.message l.out.items l.reader c.next.new.reader
    (token_of c.in_ok-opening.opening)
    (ap next_token (sym going.1) ∙ c.in_ok-opening.ensures.value) ∙ c.in_ok-nested.ensures.value in
    let same = ap length going.1 in
    let less = c.in_ok-opening.ensures.shorter in
    let lesser = c.in_ok-nested.ensures.shorter in (
      l.invariant.0 - 1,
      omega (arith, l.invariant.1),
      omega (arith, l.invariant.2),
      l.invariant.3
          ∙ items-more o c.args.number c.args.message l.invariant.0 l.out.items
          c.nested.new.out.items l.reader c.nested.new.reader
          (omega (arith, l.invariant.1)) going.0 first,
    )

pub each-returns-in_err-nested-clause-value : goal.each-returns-in_err-nested-clause-value
each-returns-in_err-nested-clause-value g t c =
    let o = object c.args.depth in
    let l = c.items in
    let going : (after_end_array l.reader ≡ None) × (c.take_end_array.new.self ≡ l.reader) =
    grind arith in
    let opened =
    ap (λ k. appended c.args.out.now.items
    (each o c.args.number c.args.message (token_of k) c.args.reader.now))
    c.in-BeginArray.is in
    let first =
    item-is o c.args.number c.args.message l.out.items l.reader c.next.new.reader
    (token_of c.in_ok-opening.opening)
    (ap next_token (sym going.1) ∙ c.in_ok-opening.ensures.value) in
    passed c.from_residual-in_err-nested.result c.in_err-nested.field-0.0 _ _
    c.from_residual-in_err-nested.ensures.1
    (fails_too c.in_err-nested.field-0.0
    (appended l.out.items
    (nested o c.args.number c.args.message (token_of c.in_ok-opening.opening) c.next.new.reader))
    _
    (λ fault wrong. opened ∙ l.invariant.3
    ∙ items-stop o c.args.number c.args.message l.invariant.0 l.out.items l.reader fault
    (omega (arith, l.invariant.1)) going.0 (first ∙ wrong))
    c.in_err-nested.ensures.value)

pub each-returns-clause-value : goal.each-returns-clause-value
each-returns-clause-value g t c =
    let o = object c.args.depth in
    let l = c.items in
    let opened =
    ap (λ k. appended c.args.out.now.items
    (each o c.args.number c.args.message (token_of k) c.args.reader.now))
    c.in-BeginArray.is in
    opened ∙ l.invariant.3
    ∙ items-end o c.args.number c.args.message l.invariant.0 l.out.items l.reader
    c.take_end_array.new.self
    (omega (arith, l.invariant.1)) (grind arith)

-- ---- members

pub member-returns-in_err-skip_value-clause-value :
    goal.member-returns-in_err-skip_value-clause-value
unfolding member
member-returns-in_err-skip_value-clause-value g t c =
    let o = object c.args.depth in
    passed c.from_residual.result (stops.Fault faults.Malformed) _ _ c.from_residual.ensures.1
    (ap (λ k. appended c.args.out.now.items (member o k c.args.reader.now)) c.in_default.is
    ∙ ap (λ k. appended c.args.out.now.items (if_skipped [] k)) c.in_err-skip_value.ensures.value)

pub member-returns-in_default-clause-value : goal.member-returns-in_default-clause-value
unfolding member
member-returns-in_default-clause-value g t c =
    let o = object c.args.depth in
    ap (λ k. appended c.args.out.now.items (member o k c.args.reader.now)) c.in_default.is
    ∙ ap (λ k. appended c.args.out.now.items (if_skipped [] k)) c.in_ok-skip_value.ensures.value
    ∙ no_fields c.args.out.now.items c.skip_value.new.self

pub member-returns-in_err-token-clause-value : goal.member-returns-in_err-token-clause-value
unfolding member
member-returns-in_err-token-clause-value g t c =
    let o = object c.args.depth in
    let known =
    ap (λ k. appended c.args.out.now.items (member o k c.args.reader.now)) c.in-Some.is in
    passed c.from_residual-in_err-token.result c.in_err-token.field-0.0 _ _
    c.from_residual-in_err-token.ensures.1
    (fails_too c.in_err-token.field-0.0 (next_token c.args.reader.now) _
    (λ fault none.
    known ∙ ap (λ r. appended c.args.out.now.items (after r (value o c.in-Some.known))) none)
    c.in_err-token.ensures.value)

pub member-returns-clause-value : goal.member-returns-clause-value
unfolding member
member-returns-clause-value g t c =
    let o = object c.args.depth in
    let known =
    ap (λ k. appended c.args.out.now.items (member o k c.args.reader.now)) c.in-Some.is in
    let read =
    known
    ∙ ap (λ r. appended c.args.out.now.items (after r (value o c.in-Some.known)))
    c.in_ok-token.ensures.value in
    let P : Result (List ℕ × List Token) JsonFault → Type 0 =
    λ m. Leaves c.value.result (c.value.new.out.items, c.value.new.reader) m in
    subst P (sym read) c.value.ensures.value

-- ---- messages

pub nested-returns-clause-value : goal.nested-returns-clause-value
nested-returns-clause-value g t c =
    let o = object c.args.depth in
    let out = c.args.out.now.items in
    let opened =
    ap (λ k. appended out (nested o c.args.number c.args.message (token_of k) c.args.reader.now))
    c.in-BeginObject.is in
    let whole =
    opened
    ∙ enclosed out c.object.new.out.items c.args.number c.object.new.reader
    (object c.args.depth c.args.message c.args.reader.now) c.in_ok-object.ensures.value in
    let P : Result (List ℕ × List Token) JsonFault → Type 0 =
    λ m. Leaves c.close.result (c.close.new.out.items, c.object.new.reader) m in
    let Q : ℕ → Type 0 = λ k. Leaves c.close.result c.close.new.out.items
    (Ok (take k c.object.new.out.items
    ++ field_bytes (bytes_field c.args.number (drop k c.object.new.out.items)))) in
    let start : c.len-start.result ≡ length out = omega (arith, c.len-start.ensures) in
    subst P (sym whole)
    (beside c.close.result _ _ c.object.new.reader (subst Q start c.close.ensures))

pub object-returns-then-depth-eq0-clause-value : goal.object-returns-then-depth-eq0-clause-value
unfolding object
object-returns-then-depth-eq0-clause-value g t c =
    ap (λ k. appended c.args.out.now.items (object k c.args.message c.args.reader.now))
    c.if-depth-eq0.true

pub object-returns-in_err-name-clause-value : goal.object-returns-in_err-name-clause-value
object-returns-in_err-name-clause-value g t c =
    let l = c.members in
    let whole =
    ap (appended c.args.out.now.items)
    (object-is c.args.depth c.args.message c.args.reader.now c.if-depth-eq0.false)
    ∙ l.invariant.3 in
    passed c.from_residual.result (stops.Fault faults.Malformed) _ _ c.from_residual.ensures.1
    (whole
    ∙ ap (appended l.out.items)
    (members-no-name
    (object (c.args.depth - 1)) c.args.message l.invariant.0 l.reader c.in_err-name.ensures.value))

pub object-members-preserved : goal.object-members-preserved
object-members-preserved g t c =
    let o = object (c.args.depth - 1) in
    let l = c.members in
    let name = c.in-Some.name.now in
    let s = c.next_key.new.self in
    let key : read_key l.reader ≡ Some (Some name, s) =
    c.in_ok-name.ensures.value ∙ ap (λ k. Some (option_map (λ n. n.now) k, s)) c.in-Some.is in
    let found = ap (λ k. appended l.out.items (member o k s)) (sym c.member_named.ensures) in
    let less = read_key-shorter l.reader (Some name) s key in
    let lesser = c.in_ok-member.ensures.shorter in (
      l.invariant.0 - 1,
      omega (arith, l.invariant.1),
      omega (arith, l.invariant.2),
      l.invariant.3
          ∙ members-more o c.args.message l.invariant.0 l.out.items c.member.new.out.items name
          l.reader s c.member.new.reader
          (omega (arith, l.invariant.1)) key (found ∙ c.in_ok-member.ensures.value),
    )

pub object-returns-in_err-member-clause-value : goal.object-returns-in_err-member-clause-value
object-returns-in_err-member-clause-value g t c =
    let o = object (c.args.depth - 1) in
    let l = c.members in
    let name = c.in-Some.name.now in
    let s = c.next_key.new.self in
    let whole =
    ap (appended c.args.out.now.items)
    (object-is c.args.depth c.args.message c.args.reader.now c.if-depth-eq0.false)
    ∙ l.invariant.3 in
    let key : read_key l.reader ≡ Some (Some name, s) =
    c.in_ok-name.ensures.value ∙ ap (λ k. Some (option_map (λ n. n.now) k, s)) c.in-Some.is in
    let found = ap (λ k. appended l.out.items (member o k s)) (sym c.member_named.ensures) in
    passed c.from_residual-in_err-member.result c.in_err-member.field-0.0 _ _
    c.from_residual-in_err-member.ensures.1
    (fails_too c.in_err-member.field-0.0 (appended l.out.items (member o c.member_named.result s)) _
    (λ fault wrong. whole
    ∙ members-stop o c.args.message l.invariant.0 l.out.items name l.reader s fault
    (omega (arith, l.invariant.1)) key (found ∙ wrong))
    c.in_err-member.ensures.value)

pub object-returns-clause-value : goal.object-returns-clause-value
object-returns-clause-value g t c =
    let o = object (c.args.depth - 1) in
    let l = c.members in
    let s = c.next_key.new.self in
    let whole =
    ap (appended c.args.out.now.items)
    (object-is c.args.depth c.args.message c.args.reader.now c.if-depth-eq0.false)
    ∙ l.invariant.3 in
    let key : read_key l.reader ≡ Some (None, s) =
    c.in_ok-name.ensures.value ∙ ap (λ k. Some (option_map (λ n. n.now) k, s)) c.in_default.is in
    whole
    ∙ members-end o c.args.message l.invariant.0 l.out.items l.reader s
    (omega (arith, l.invariant.1)) key

-- ---- values

pub value-returns-in-Null-clause-value : goal.value-returns-in-Null-clause-value
unfolding value
value-returns-in-Null-clause-value g t c =
    ap (λ k. appended c.args.out.now.items
    (value (object c.args.depth) c.args.member (token_of k) c.args.reader.now))
    c.in-Null.is
    ∙ no_fields c.args.out.now.items c.args.reader.now

pub value-returns-in-One : goal.value-returns-in-One
unfolding value
value-returns-in-One g t c =
    let o = object c.args.depth in
    let out = c.args.out.now.items in
    let ts = c.args.reader.now in
    let there = not_null c.args.token c.in_default.not-Null in
    record {
      value =
          rw (there, c.in-One.is)
          (leaf_left c.put_leaf.result out c.put_leaf.new.out.items c.args.member.number
          (payload c.in-One.leaf (token_of c.args.token)) ts c.put_leaf.ensures);
      shorter = always c.put_leaf.result (omega arith);
    }

pub value-returns-in-Nested : goal.value-returns-in-Nested
unfolding value
value-returns-in-Nested g t c =
    let there = not_null c.args.token c.in_default.not-Null in
    record {
      value = rw (there, c.in-Nested.is) c.nested.ensures.value;
      shorter = c.nested.ensures.shorter;
    }

pub value-returns-in-Each : goal.value-returns-in-Each
unfolding value
value-returns-in-Each g t c =
    let there = not_null c.args.token c.in_default.not-Null in
    record {
      value = rw (there, c.in-Each.is) c.each.ensures.value;
      shorter = c.each.ensures.shorter;
    }

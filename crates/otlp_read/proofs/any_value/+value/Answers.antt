use Rattle.std.proofs.Common.{◌≡◌, refl, sym, ap, subst, ◌∙◌, Err, [], ◌∷◌}
use Rattle.std.proofs.Common.{rules, arith, ◌++◌, ◌-◌, suc, take_all, to_z, of_z, w64}
use Rattle.std.proofs.lemmas.List.{map-append}
use Rattle.model_message.specs.Reading.{Reads, too_deep}
use Rattle.model_message.specs.Wire.{row, len}
use Rattle.model_message.specs.Tables
use Rattle.model_message.specs.Tables.{message, repeated, any}
use Rattle.model_message.specs.Messages.{value, value_of, payloads, utf8}
use Rattle.model_message.specs.AnyValue.{AnyValue, as_pairs}
use Rattle.std.specs.List.{Contains}
use Rattle.otlp_wire.specs.Faults.{NamesOne}
use Rattle.otlp_read.specs.Members.{parts_view, members_from_last, Holds, Runs}
use Rattle.otlp_read.specs.Values.{any_value_view, values_view, pair_view, pairs_view}
use Rattle.otlp_wire.specs.declared.fault.ReadFault.TheVariants.{Wire}
use Rattle.otlp_wire.proofs.GatherSteps.{row-fails}
use Rattle.otlp_wire.proofs.Finished.{on-err, on-ok}
use Rattle.otlp_read.proofs.ValueViews.{view-Empty, view-Text, view-Bool, view-Int, view-Double}
use Rattle.otlp_read.proofs.ValueViews.{view-Pairs, view-Bytes}
use Rattle.otlp_read.proofs.PairSteps.{is-too-deep}
use Rattle.otlp_read.proofs.PairValues.{is-done, is-reading, row-of-value, one-value-read}
use Rattle.otlp_read.proofs.PairValues.{key-fails, value-fails, pair-read, pair-value}
use Rattle.otlp_read.proofs.PairValues.{pair-no-value}
use Rattle.otlp_read.proofs.ValueSteps.{member-text, member-bool, member-int, member-double}
use Rattle.otlp_read.proofs.ValueSteps.{member-bytes, member-pairs, any-reads, read-skips}
use Rattle.otlp_read.proofs.ValueSteps.{read-adds, read-fails, list-none, list-read, part-added}
use Rattle.otlp_read.proofs.ValueSteps.{part-fails, reads-on, names-on}
use Rattle.otlp_read.proofs.any_value.+value.Goals as goal

pub push_values-returns-in_err-field-clause-err : goal.push_values-returns-in_err-field-clause-err
push_values-returns-in_err-field-clause-err g t c =
    let gives = rw c.in_err-field.was at c.in-Some.ensures.steps in
    let told : c.from_residual.result ≡ Err (Wire c.in_err-field.field-0.0) = search rules in
    rw told
    (row-fails (value c.args.depth) Tables.array_value _ c.args.part.now _ _
    c.loop-field.invariant.2 gives.0)

pub push_values-loop-field-preserved-in_default : goal.push_values-loop-field-preserved-in_default
push_values-loop-field-preserved-in_default g t c =
    let gives = rw c.in_ok-field.was at c.in-Some.ensures.steps in (
      tt,
      tt,
      read-skips (value c.args.depth) any _ _ c.args.part.now _ _ _ c.loop-field.invariant.2
          gives (c.in_default.ensures (repeated any) refl),
    )

pub push_values-returns-in_err-read_value-clause-err :
    goal.push_values-returns-in_err-read_value-clause-err
push_values-returns-in_err-read_value-clause-err g t c =
    let gives = rw c.in_ok-field.was at c.in-Some.ensures.steps in
    let told : c.from_residual-in_err-read_value.result ≡ Err c.in_err-read_value.field-0.0 =
    search rules in
    rw told
    (read-fails (value c.args.depth) any _ _ c.args.part.now _ _ _ _
    c.loop-field.invariant.2 gives (c.in-Some-bytes_in.ensures (repeated any) refl)
    c.in_err-read_value.field-0.0 (subst (λ r. NamesOne r.faults c.in_err-read_value.field-0.0)
    (sym (any-reads (value c.args.depth) (len c.in-Some-bytes_in.content.now ∷ [])))
    c.in_err-read_value.ensures.err))

pub push_values-loop-field-preserved : goal.push_values-loop-field-preserved
push_values-loop-field-preserved g t c =
    let gives = rw c.in_ok-field.was at c.in-Some.ensures.steps in
    let pushed =
    ap values_view c.in_ok-push.ensures.items
    ∙ map-append any_value_view c.loop-field.values.items (c.in_ok-read_value.field-0 ∷ []) in (
      tt,
      tt,
      read-adds (value c.args.depth) any _ _ _ _ c.args.part.now _ _ _ _
          c.loop-field.invariant.2 gives (c.in-Some-bytes_in.ensures (repeated any) refl)
          (subst (λ r. Reads r (any_value_view c.in_ok-read_value.field-0))
          (sym (any-reads (value c.args.depth) (len c.in-Some-bytes_in.content.now ∷ [])))
          c.in_ok-read_value.ensures.ok) pushed,
    )

pub push_pairs-returns-in_err-field-clause-err : goal.push_pairs-returns-in_err-field-clause-err
push_pairs-returns-in_err-field-clause-err g t c =
    let gives = rw c.in_err-field.was at c.in-Some.ensures.steps in
    let told : c.from_residual.result ≡ Err (Wire c.in_err-field.field-0.0) = search rules in
    rw told
    (row-fails (value c.args.depth) Tables.key_value_list _ c.args.part.now _ _
    c.loop-field.invariant.2 gives.0)

pub push_pairs-loop-field-preserved-in_default : goal.push_pairs-loop-field-preserved-in_default
push_pairs-loop-field-preserved-in_default g t c =
    let gives = rw c.in_ok-field.was at c.in-Some.ensures.steps in (
      tt,
      tt,
      read-skips (value c.args.depth)
          (message Tables.key_value) _ _ c.args.part.now _ _ _ c.loop-field.invariant.2
          gives (c.in_default.ensures (repeated (message Tables.key_value)) refl),
    )

pub push_pairs-returns-in_err-read_pair-clause-err :
    goal.push_pairs-returns-in_err-read_pair-clause-err
push_pairs-returns-in_err-read_pair-clause-err g t c =
    let gives = rw c.in_ok-field.was at c.in-Some.ensures.steps in
    let told : c.from_residual-in_err-read_pair.result ≡ Err c.in_err-read_pair.field-0.0 =
    search rules in
    rw told
    (read-fails (value c.args.depth) (message Tables.key_value) _ _ c.args.part.now _ _ _ _
    c.loop-field.invariant.2 gives
    (c.in-Some-bytes_in.ensures (repeated (message Tables.key_value)) refl)
    c.in_err-read_pair.field-0.0 c.in_err-read_pair.ensures.err)

pub push_pairs-loop-field-preserved : goal.push_pairs-loop-field-preserved
push_pairs-loop-field-preserved g t c =
    let gives = rw c.in_ok-field.was at c.in-Some.ensures.steps in
    let pushed =
    ap pairs_view c.in_ok-push.ensures.items
    ∙ map-append pair_view c.loop-field.pairs.items (c.in_ok-read_pair.field-0 ∷ []) in (
      tt,
      tt,
      read-adds (value c.args.depth) (message Tables.key_value) _ _ _ _ c.args.part.now _ _ _ _
          c.loop-field.invariant.2 gives
          (c.in-Some-bytes_in.ensures (repeated (message Tables.key_value)) refl)
          c.in_ok-read_pair.ensures.ok pushed,
    )

pub read_values-loop-part-init : goal.read_values-loop-part-init
read_values-loop-part-init g t c =
    list-none (value c.args.depth) any _ (ap values_view c.new-values.ensures.items)

pub read_values-loop-part-preserved : goal.read_values-loop-part-preserved
read_values-loop-part-preserved g t c =
    part-added (value c.args.depth) Tables.array_value c.args.parts.now c.loop-part.part-index _
    c.loop-part-test.true _ _ c.in_ok-push_values.ensures.ok c.in_ok-push_values.ensures.whole
    c.loop-part.invariant

pub read_values-returns-in_err-push_values-clause-err :
    goal.read_values-returns-in_err-push_values-clause-err
read_values-returns-in_err-push_values-clause-err g t c =
    let told : c.from_residual.result ≡ Err c.in_err-push_values.field-0.0 = grind arith in
    rw told
    (part-fails (value c.args.depth) Tables.array_value c.args.parts.now c.loop-part.part-index _
    c.loop-part-test.true c.in_err-push_values.field-0.0 c.in_err-push_values.ensures.err)

pub read_values-returns-clause-ok : goal.read_values-returns-clause-ok
read_values-returns-clause-ok g t c =
    list-read (value c.args.depth) any _ _
    (rw (take_all c.loop-part.part-index c.args.parts.now c.loop-part-test.false) at
    c.loop-part.invariant)

pub read_pairs-loop-part-init : goal.read_pairs-loop-part-init
read_pairs-loop-part-init g t c =
    list-none (value c.args.depth) (message Tables.key_value) _
    (ap pairs_view c.new-pairs.ensures.items)

pub read_pairs-loop-part-preserved : goal.read_pairs-loop-part-preserved
read_pairs-loop-part-preserved g t c =
    part-added (value c.args.depth) Tables.key_value_list c.args.parts.now c.loop-part.part-index _
    c.loop-part-test.true _ _ c.in_ok-push_pairs.ensures.ok c.in_ok-push_pairs.ensures.whole
    c.loop-part.invariant

pub read_pairs-returns-in_err-push_pairs-clause-err :
    goal.read_pairs-returns-in_err-push_pairs-clause-err
read_pairs-returns-in_err-push_pairs-clause-err g t c =
    let told : c.from_residual.result ≡ Err c.in_err-push_pairs.field-0.0 = grind arith in
    rw told
    (part-fails (value c.args.depth) Tables.key_value_list c.args.parts.now c.loop-part.part-index _
    c.loop-part-test.true c.in_err-push_pairs.field-0.0 c.in_err-push_pairs.ensures.err)

pub read_pairs-returns-clause-ok : goal.read_pairs-returns-clause-ok
read_pairs-returns-clause-ok g t c =
    list-read (value c.args.depth) (message Tables.key_value) _ _
    (rw (take_all c.loop-part.part-index c.args.parts.now c.loop-part-test.false) at
    c.loop-part.invariant)

-- ---- a value
pub value_of-returns-in-Bool-clause-ok : goal.value_of-returns-in-Bool-clause-ok
value_of-returns-in-Bool-clause-ok g t c =
    λ back h. is-done (member-bool (value c.args.depth) back c.in-Bool.number
    (rw c.in-Bool.is at h))
    (view-Bool _ _)

pub value_of-returns-in-Double-clause-ok : goal.value_of-returns-in-Double-clause-ok
value_of-returns-in-Double-clause-ok g t c =
    λ back h. is-done (member-double (value c.args.depth) back c.in-Double.bits
    (rw c.in-Double.is at h))
    (view-Double _ _)

pub value_of-returns-in-Int-clause-ok : goal.value_of-returns-in-Int-clause-ok
value_of-returns-in-Int-clause-ok g t c = λ back h.
    let same : to_z w64 (of_z w64 c.cast_signed.result) ≡ c.cast_signed.result = search rules in
    is-done
    (member-int (value c.args.depth) back c.in-Int.number (rw c.in-Int.is at h))
    (view-Int _ _ ∙ ap AnyValue.int (same ∙ c.cast_signed.ensures))

pub value_of-returns-in_err-read_text-in-Text-clause-err :
    goal.value_of-returns-in_err-read_text-in-Text-clause-err
value_of-returns-in_err-read_text-in-Text-clause-err g t c =
    let told : c.from_residual.result ≡ Err c.in_err-read_text-in-Text.field-0.0 = search rules in
    rw told
    (λ back h. subst (λ r. NamesOne r.faults c.in_err-read_text-in-Text.field-0.0)
    (sym (member-text (value c.args.depth) back c.in-Text.text.now
    (rw c.in-Text.is at h)))
    (names-on (utf8 c.in-Text.text.now) AnyValue.text c.in_err-read_text-in-Text.field-0.0
    c.in_err-read_text-in-Text.ensures.err))

pub value_of-returns-in_ok-copy_bytes-in-Bytes-clause-ok :
    goal.value_of-returns-in_ok-copy_bytes-in-Bytes-clause-ok
value_of-returns-in_ok-copy_bytes-in-Bytes-clause-ok g t c = λ back h.
    is-done (member-bytes (value c.args.depth) back c.in-Bytes.bytes.now
    (rw c.in-Bytes.is at h))
    (view-Bytes c.in_ok-copy_bytes-in-Bytes.field-0
    ∙ ap AnyValue.bytes c.in_ok-copy_bytes-in-Bytes.ensures)

pub value_of-returns-in_ok-read_text-in-Text-clause-ok :
    goal.value_of-returns-in_ok-read_text-in-Text-clause-ok
value_of-returns-in_ok-read_text-in-Text-clause-ok g t c = λ back h.
    is-reading (member-text (value c.args.depth) back c.in-Text.text.now
    (rw c.in-Text.is at h))
    (reads-on (utf8 c.in-Text.text.now) AnyValue.text _ c.in_ok-read_text-in-Text.ensures.ok)
    (view-Text c.in_ok-read_text-in-Text.field-0)

pub value_of-returns-in_ok-read_pairs-in-Pairs-clause-ok :
    goal.value_of-returns-in_ok-read_pairs-in-Pairs-clause-ok
value_of-returns-in_ok-read_pairs-in-Pairs-clause-ok g t c = λ back h.
    let all = ap parts_view c.deref-in-Pairs.ensures.value in
    let run = subst (λ ps. Runs 6 ps back) (sym all) (subst (λ m. Holds m back) c.in-Pairs.is h) in
    is-reading (member-pairs (value c.args.depth) back _ run)
    (reads-on _ (λ x. AnyValue.pairs (as_pairs x.0)) _ c.in_ok-read_pairs-in-Pairs.ensures.ok)
    (view-Pairs c.in_ok-read_pairs-in-Pairs.field-0)

pub read_value-returns-then-depth-eq0-clause-err : goal.read_value-returns-then-depth-eq0-clause-err
read_value-returns-then-depth-eq0-clause-err g t c =
    let none : c.args.depth ≡ 0 = omega arith in
    subst (λ d. Contains (value d (len c.args.content.now ∷ [])).faults too_deep) (sym none)
    (is-too-deep [] (len c.args.content.now) [])

pub read_value-returns-in_err-member-clause-err : goal.read_value-returns-in_err-member-clause-err
read_value-returns-in_err-member-clause-err g t c =
    let deep : c.args.depth ≡ suc (c.args.depth - 1) = omega arith in
    let told : c.from_residual.result ≡ Err c.in_err-member.field-0.0 = search rules in
    rw told
    (subst (λ d. NamesOne (value d (len c.args.content.now ∷ [])).faults c.in_err-member.field-0.0)
    (sym deep)
    (row-of-value
    (c.args.depth - 1) c.args.content.now c.in_err-member.field-0.0 c.in_err-member.ensures.err))

pub read_value-returns-clause-err : goal.read_value-returns-clause-err
read_value-returns-clause-err g t c =
    let deep : c.args.depth ≡ suc (c.args.depth - 1) = omega arith in
    let back = members_from_last (row c.args.content.now).value ++ [] in
    let one = one-value-read (c.args.depth - 1) c.args.content.now c.in_ok-member.ensures.whole in
    on-err c.value_of.result
    (λ fault k. subst (λ d. NamesOne (value d (len c.args.content.now ∷ [])).faults fault)
    (sym deep)
    (subst (λ r. NamesOne r.faults fault) (sym one) (k back (c.in_ok-member.ensures.ok [] refl))))
    c.value_of.ensures.err

pub read_value-returns-clause-ok : goal.read_value-returns-clause-ok
read_value-returns-clause-ok g t c =
    let deep : c.args.depth ≡ suc (c.args.depth - 1) = omega arith in
    let back = members_from_last (row c.args.content.now).value ++ [] in
    let one = one-value-read (c.args.depth - 1) c.args.content.now c.in_ok-member.ensures.whole in
    on-ok c.value_of.result
    (λ v k. subst (λ d. Reads (value d (len c.args.content.now ∷ [])) (any_value_view v)) (sym deep)
    (subst (λ r. Reads r (any_value_view v)) (sym one)
    (k back (c.in_ok-member.ensures.ok [] refl))))
    c.value_of.ensures.ok

-- ---- a pair

pub read_pair-returns-in_err-key-clause-err : goal.read_pair-returns-in_err-key-clause-err
read_pair-returns-in_err-key-clause-err g t c =
    let told : c.from_residual-in_err-key.result ≡ Err c.in_err-key.field-0.0 = search rules in
    rw told
    (key-fails c.args.depth c.in_ok-parts.parts c.args.content.now c.in_ok-parts.ensures.ok
    c.in_err-key.field-0.0 c.in_err-key.ensures.err)

pub read_pair-returns-in_err-value-clause-err : goal.read_pair-returns-in_err-value-clause-err
read_pair-returns-in_err-value-clause-err g t c =
    let deep : c.args.depth ≡ suc (c.args.depth - 1) = omega arith in
    let told : c.from_residual-in_err-value.result ≡ Err c.in_err-value.field-0.0 = search rules in
    rw told
    (value-fails c.args.depth c.in_ok-parts.parts c.args.content.now c.in_ok-parts.ensures.ok
    (c.args.depth - 1) deep c.in_err-value.field-0.0
    (c.in_err-value.ensures.err _ c.in_ok-parts.ensures.ok.value))

pub read_pair-returns-clause-ok : goal.read_pair-returns-clause-ok
read_pair-returns-clause-ok g t c =
    let deep : c.args.depth ≡ suc (c.args.depth - 1) = omega arith in
    pair-read c.args.depth c.in_ok-parts.parts c.args.content.now c.in_ok-parts.ensures.ok
    c.in_ok-parts.ensures.whole _ _ c.in_ok-key.ensures.ok
    (pair-value c.args.depth c.in_ok-parts.parts
    (row c.args.content.now).value c.in_ok-parts.ensures.ok (c.args.depth - 1) deep _
    (c.in_ok-value.ensures.ok _ c.in_ok-parts.ensures.ok.value))

pub read_pair-returns-then-depth-eq0-clause-ok : goal.read_pair-returns-then-depth-eq0-clause-ok
read_pair-returns-then-depth-eq0-clause-ok g t c =
    let none : c.args.depth ≡ 0 = omega arith in
    pair-read c.args.depth c.in_ok-parts.parts c.args.content.now c.in_ok-parts.ensures.ok
    c.in_ok-parts.ensures.whole _ _ c.in_ok-key.ensures.ok
    (subst (λ v. Reads (value c.args.depth (payloads 2 any (row c.args.content.now).value)) v)
    (sym (view-Empty _))
    (pair-no-value c.args.depth c.in_ok-parts.parts
    (row c.args.content.now).value c.in_ok-parts.ensures.ok none))

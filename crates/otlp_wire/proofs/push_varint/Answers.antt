use Rattle.std.proofs.Common.{arith, ◌≡◌, refl, ap, ◌∙◌, ℕ, ◌+◌, ◌/◌, ◌%◌, ◌<◌, [], ◌∷◌, ◌++◌}
use Rattle.std.proofs.Common.{length, append_assoc, Vec, vec_len, vec_capacity}
use Rattle.model_message.specs.Canon.{shortest, payload_bytes}
use Rattle.otlp_wire.proofs.Groups.{MoreGroups, low_groups, high_groups}
use Rattle.otlp_wire.proofs.push_varint.Invariants.{Begun}
use Rattle.otlp_wire.proofs.push_varint.Goals as goal

pub loop-unwritten-init : goal.loop-unwritten-init
unfolding shortest payload_bytes
loop-unwritten-init g c = record {
  room = 9;
  in_range = omega (arith, c.ranges.value.fits);
  has_room = c.requires;
  capacity = refl;
  whole = refl;
}

pub push_reserved-requires : goal.push_reserved-requires
push_reserved-requires g c =
    let i = c.loop-unwritten.invariant in
    omega (
      arith,
      ap length
          (high_groups i.room c.loop-unwritten.unwritten c.loop-unwritten-test.true
          i.in_range).first,
    )

-- After one more byte, the number is begun with one more group.
begun-more : {A : Type 0} (value rest : ℕ) (old out new : Vec ℕ A)
    → (i : Begun A value old out rest) → MoreGroups i.room rest →
    new.items ≡ out.items ++ (rest % 128 + 128) ∷ [] → vec_len new ≡ vec_len out + 1
    → vec_capacity new ≡ vec_capacity out → Begun A value old new (rest / 128)
begun-more value rest old out new i more items len capacity = record {
  room = more.less;
  in_range = more.in_range;
  has_room = omega (arith, ap length more.first);
  capacity = capacity ∙ i.capacity;
  whole = rw (items, append_assoc, ← i.whole, more.first) refl;
}

pub loop-unwritten-preserved : goal.loop-unwritten-preserved
loop-unwritten-preserved g c =
    let i = c.loop-unwritten.invariant in
    let e = c.push_reserved.ensures in
    let more =
    high_groups i.room c.loop-unwritten.unwritten c.loop-unwritten-test.true i.in_range in
    begun-more c.args.value c.loop-unwritten.unwritten c.args.out.now c.loop-unwritten.out
    c.push_reserved.new.self i more e.items e.len e.capacity

pub push_reserved-requires-2 : goal.push_reserved-requires-2
push_reserved-requires-2 g c =
    let i = c.loop-unwritten.invariant in
    omega
    (arith, ap length (low_groups i.room c.loop-unwritten.unwritten c.loop-unwritten-test.false))

-- After the last byte, the shortest varint of the number is appended.
begun-all : {A : Type 0} (value rest : ℕ) (old out new : Vec ℕ A) → (i : Begun A value old out rest)
    → rest < 128 →
    new.items ≡ out.items ++ rest ∷ [] → new.items ≡ old.items ++ shortest value
begun-all value rest old out new i l items = rw (items, ← i.whole, low_groups i.room rest l) refl

pub returns-clause-canonical : goal.returns-clause-canonical
unfolding payload_bytes
returns-clause-canonical g c =
    begun-all c.args.value c.loop-unwritten.unwritten c.args.out.now c.loop-unwritten.out
    c.push_reserved-2.new.self c.loop-unwritten.invariant c.loop-unwritten-test.false
    c.push_reserved-2.ensures.items

use Rattle.std.proofs.Common.{arith, ◌≡◌, refl, sym, ap, ◌∙◌, ℕ, ◌+◌, ◌/◌, ◌%◌, ◌<◌, List, [], ◌∷◌}
use Rattle.std.proofs.Common.{◌++◌, length, take, drop, set, append_assoc, append-nil}
use Rattle.std.proofs.lemmas.List.{take_more_set, drop-set-lt, length-append, length-set, drop-drop}
use Rattle.model_message.specs.Canon.{shortest, payload_bytes}
use Rattle.otlp_wire.specs.Writing.{PutsAt}
use Rattle.otlp_wire.proofs.Groups.{MoreGroups, low_groups, high_groups}
use Rattle.otlp_wire.proofs.places.put_varint.Invariants.{Begun}
use Rattle.otlp_wire.proofs.places.put_varint.Goals as goal

pub loop-unwritten-init : goal.loop-unwritten-init
unfolding shortest payload_bytes
loop-unwritten-init c = record {
  room = 9;
  in_range = omega (arith, c.ranges.value.fits);
  begun = [];
  whole = refl;
  place = omega arith;
  front = sym (append-nil _);
  appended = refl;
  len = refl;
  has_room = c.requires;
}

pub bounds-out-next : goal.bounds-out-next
bounds-out-next c =
    let i = c.loop-unwritten.invariant in
    omega (
      arith,
      i.len,
      i.has_room,
      ap length
          (high_groups i.room c.loop-unwritten.unwritten c.loop-unwritten-test.true
          i.in_range).first,
    )

pub bounds-out-next-2 : goal.bounds-out-next-2
bounds-out-next-2 c =
    let i = c.loop-unwritten.invariant in
    omega (
      arith,
      i.len,
      i.has_room,
      ap length (low_groups i.room c.loop-unwritten.unwritten c.loop-unwritten-test.false),
    )

-- One byte that is written at the next place comes after the bytes that were written.
more-front : (old out begun : List ℕ) (at next b : ℕ) → next < length out
    → take next out ≡ take at old ++ begun
    → take (next + 1) (set out next b) ≡ take at old ++ (begun ++ b ∷ [])
more-front old out begun at next b l e =
    take_more_set out next b l ∙ ap (λ bs. bs ++ b ∷ []) e
    ∙ append_assoc (take at old) begun (b ∷ [])

fewer-after : (old out : List ℕ) (next b : ℕ) → next < length out → length out ≡ length old
    → drop next out ≡ drop next old → drop (next + 1) (set out next b) ≡ drop (next + 1) old
fewer-after old out next b l len e =
    drop-set-lt (next + 1) out next b (omega arith)
    ∙ (sym (drop-drop 1 next out) ∙ ap (drop 1) e ∙ drop-drop 1 next old)

-- After one more byte, the number is begun with one more group.
begun-more : (value at : ℕ) (old out : List ℕ) (next rest : ℕ)
    → (i : Begun value at old out next rest) → MoreGroups i.room rest → next < length out →
    Begun value at old (set out next (rest % 128 + 128)) (next + 1) (rest / 128)
begun-more value at old out next rest i more l =
    let long = length-append i.begun ((rest % 128 + 128) ∷ []) in record {
      room = more.less;
      in_range = more.in_range;
      begun = i.begun ++ (rest % 128 + 128) ∷ [];
      whole =
          append_assoc i.begun ((rest % 128 + 128) ∷ []) _
          ∙ ap (λ bs. i.begun ++ bs) (sym more.first) ∙ i.whole;
      place = omega (arith, i.place, long);
      front = more-front old out i.begun at next _ l i.front;
      appended = fewer-after old out next _ l i.len i.appended;
      len = length-set out next _ ∙ i.len;
      has_room = omega (arith, i.has_room, ap length more.first);
    }

pub loop-unwritten-preserved : goal.loop-unwritten-preserved
loop-unwritten-preserved c =
    let i = c.loop-unwritten.invariant in
    let more =
    high_groups i.room c.loop-unwritten.unwritten c.loop-unwritten-test.true i.in_range in
    begun-more c.args.value c.args.at c.args.out.now c.loop-unwritten.out c.loop-unwritten.next
    c.loop-unwritten.unwritten i more
    (omega (arith, i.len, i.has_room, ap length more.first))

-- After the last byte, the shortest varint of the number is put at the place.
begun-all : (value at : ℕ) (old out : List ℕ) (next rest : ℕ)
    → (i : Begun value at old out next rest) → rest < 128
    → PutsAt (shortest value) at old (set out next rest) (next + 1)
begun-all value at old out next rest i low =
    let last = low_groups i.room rest low in
    let all : i.begun ++ rest ∷ [] ≡ shortest value =
    ap (λ bs. i.begun ++ bs) (sym last) ∙ i.whole in
    let long = length-append i.begun (rest ∷ []) in
    let l : next < length out = omega (arith, i.len, i.has_room, ap length last) in record {
      place = omega (arith, i.place, long, ap length all);
      front = more-front old out i.begun at next rest l i.front ∙ ap (λ bs. take at old ++ bs) all;
      appended = fewer-after old out next rest l i.len i.appended;
    }

pub returns : goal.returns
unfolding payload_bytes
returns c =
    begun-all c.args.value c.args.at c.args.out.now c.loop-unwritten.out c.loop-unwritten.next
    c.loop-unwritten.unwritten c.loop-unwritten.invariant c.loop-unwritten-test.false

use Rattle.std.proofs.Common.{◌≡◌, ◌<◌, ◌^◌, [], length, arith, sym, ap, ◌∙◌, subst}
use Rattle.model_message.specs.Tables
use Rattle.model_message.specs.Canon.{canon}
use Rattle.model_export.specs.Export.{request_message, body_length}
use Rattle.otlp_proto.specs.Group.{groups_view}
use Rattle.otlp_proto.specs.Bodies.{body_bytes}
use Rattle.otlp_proto.specs.Encode.{PutsAll}
use Rattle.otlp_proto.proofs.Laying.{counted-len}
use Rattle.otlp_proto.proofs.Lens.{begin-all, no-items}
use Rattle.otlp_proto.proofs.Read.{filled-message, reads-written, spans-written, length-written}
use Rattle.otlp_proto.proofs.Read.{no-groups, no-groups-whole}
use Rattle.otlp_proto.proofs.encoder.encode.Given.{Over}
use Rattle.otlp_proto.proofs.encoder.encode.Goals as goal

-- ---- without a group

none : (g : Over) (c : goal.After-new g) → groups_view c.args.groups.now ≡ []
none g c = ap groups_view (no-items c.args.groups.now (sym c.is_empty.ensures ∙ c.if-is_empty.true))

empty : (g : Over) (c : goal.After-new g)
    → c.new.result.items ≡ canon Tables.request (request_message (groups_view c.args.groups.now))
empty g c = no-groups _ _ (none g c) c.new.ensures.items

pub returns-then-is_empty-clause-meaning : goal.returns-then-is_empty-clause-meaning
returns-then-is_empty-clause-meaning g c =
    reads-written _ c.new.result.items (empty g c) (no-groups-whole _ (none g c))
    (omega (arith, ap length c.new.ensures.items))

pub returns-then-is_empty-clause-spans : goal.returns-then-is_empty-clause-spans
returns-then-is_empty-clause-spans g c =
    spans-written _ c.new.result.items (empty g c) (no-groups-whole _ (none g c))
    (omega (arith, ap length c.new.ensures.items))

pub returns-then-is_empty-clause-canonical : goal.returns-then-is_empty-clause-canonical
unfolding body_bytes
returns-then-is_empty-clause-canonical g c = empty g c

pub returns-then-is_empty-clause-length : goal.returns-then-is_empty-clause-length
returns-then-is_empty-clause-length g c = length-written _ _ (empty g c)

pub returns-then-is_empty-clause-within : goal.returns-then-is_empty-clause-within
returns-then-is_empty-clause-within g c =
    omega (arith, length-written _ _ (empty g c), ap length c.new.ensures.items)

-- ---- the lengths, and the length of all

pub put_request-requires : goal.put_request-requires
put_request-requires g c = begin-all _ _ (rw (← c.as_slice.ensures.value) at c.in_ok-lens.ensures)

pub put_request-requires-2 : goal.put_request-requires-2
put_request-requires-2 g c =
    begin-all _ _ (rw (← c.as_slice-2.ensures.value) at c.in_ok-lens.ensures)

pub returns-then-len-max-clause-too_large : goal.returns-then-len-max-clause-too_large
unfolding body_length
returns-then-len-max-clause-too_large g c =
    let message = request_message (groups_view c.args.groups.now) in
    let counted =
    counted-len (canon Tables.request message) _ _ _ c.new-length.ensures
    c.put_request.ensures.bytes c.len-len.ensures.value c.len-len.ensures.small in
    λ too_large. omega (arith, counted, c.if-len-max.true)

-- ---- the body

counted : (g : Over) (c : goal.After-drop-lens-2 g)
    → c.len-len.result
    ≡ length (canon Tables.request (request_message (groups_view c.args.groups.now)))
counted g c =
    let message = request_message (groups_view c.args.groups.now) in
    let all =
    counted-len (canon Tables.request message) _ _ _ c.new-length.ensures
    c.put_request.ensures.bytes c.len-len.ensures.value c.len-len.ensures.small in
    omega (arith, all, c.in_ok-buffer.ensures.1)

written : (g : Over) (c : goal.After-drop-lens-2 g)
    → c.into_bytes.result.items
    ≡ canon Tables.request (request_message (groups_view c.args.groups.now))
written g c =
    let message = request_message (groups_view c.args.groups.now) in
    let all =
    counted-len (canon Tables.request message) _ _ _ c.new-length.ensures
    c.put_request.ensures.bytes c.len-len.ensures.value c.len-len.ensures.small in
    let put =
    subst (λ from. PutsAll Tables.request message from c.put_request-2.new.sink)
    c.in_ok-buffer.ensures.0 c.put_request-2.ensures in
    c.into_bytes.ensures (canon Tables.request message)
    (filled-message Tables.request message c.len-len.result c.put_request-2.new.sink all
    c.in_ok-buffer.ensures.1 put)

small : (g : Over) (c : goal.After-drop-lens-2 g) → length c.into_bytes.result.items < 2 ^ 64
small g c = omega (arith, ap length (written g c), counted g c, c.in_ok-buffer.ensures.1)

pub returns-clause-meaning : goal.returns-clause-meaning
returns-clause-meaning g c =
    reads-written _ c.into_bytes.result.items (written g c) c.put_request.ensures.whole (small g c)

pub returns-clause-spans : goal.returns-clause-spans
returns-clause-spans g c =
    spans-written _ c.into_bytes.result.items (written g c) c.put_request.ensures.whole (small g c)

pub returns-clause-canonical : goal.returns-clause-canonical
unfolding body_bytes
returns-clause-canonical g c = written g c

pub returns-clause-length : goal.returns-clause-length
returns-clause-length g c = length-written _ _ (written g c)

pub returns-clause-within : goal.returns-clause-within
returns-clause-within g c =
    omega (
      arith,
      length-written _ _ (written g c),
      ap length (written g c),
      counted g c,
      c.if-len-max.false,
    )

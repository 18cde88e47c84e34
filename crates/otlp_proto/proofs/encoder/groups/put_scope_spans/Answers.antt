use Rattle.std.proofs.Common.{map, take, take_all, refl, sym, ap, ◌∙◌, arith}
use Rattle.std.proofs.lemmas.List.{length-map, get_or-map}
use Rattle.model_export.specs.Export.{span_message}
use Rattle.otlp_proto.specs.Encode.{span_bytes, IsWholeSpan}
use Rattle.otlp_proto.proofs.Writing.{no-field, and-field, put-message, put-messages, each-none}
use Rattle.otlp_proto.proofs.Writing.{each-more, through-index}
use Rattle.otlp_proto.proofs.Lens.{begin-at}
use Rattle.otlp_proto.proofs.encoder.groups.put_scope_spans.Goals as goal

pub loop-i-init : goal.loop-i-init
loop-i-init g c = each-none 2 span_bytes IsWholeSpan

pub put_sized-requires : goal.put_sized-requires
put_sized-requires g c =
    begin-at (map (λ s. s.now) c.args.group.now.spans.items) c.args.lens.now c.loop-i.i _
    c.index.result.now.now c.requires
    (rw length-map
    (omega (arith, c.loop-i-test.true, c.len-i-end.ensures, c.args.group.now.spans.ok)))
    (ap (λ s. s.now) c.index.ensures
    ∙ sym (get_or-map
    (λ s. s.now) c.args.group.now.spans.items c.loop-i.i c.index.result.now c.index.result.now.now
    (omega (arith, c.loop-i-test.true, c.len-i-end.ensures, c.args.group.now.spans.ok))))
    refl

pub loop-i-preserved : goal.loop-i-preserved
loop-i-preserved g c =
    rw (through-index (λ s. s.now) c.args.group.now.spans.items c.loop-i.i c.index.result.now
    (omega (arith, c.loop-i-test.true, c.len-i-end.ensures, c.args.group.now.spans.ok))
    c.index.ensures)
    (each-more 2 span_bytes IsWholeSpan
    (map (λ s. s.now) (take c.loop-i.i c.args.group.now.spans.items)) c.index.result.now.now
    c.loop-i.invariant c.put_sized.ensures)

pub returns : goal.returns
returns g c =
    let all =
    rw (take_all c.loop-i.i c.args.group.now.spans.items
    (omega (arith, c.loop-i-test.false, c.len-i-end.ensures, c.args.group.now.spans.ok)))
    at c.loop-i.invariant in
    let url = rw c.as_str.ensures.value at c.put_text.ensures in
    and-field (put-message refl c.put_one.ensures)
    (and-field (put-messages (λ x. span_message x.span) _ all) (and-field url no-field))

use Rattle.std.proofs.Common.{◌<◌, length, arith, ap, ◌∙◌, String, string_bytes}
use Rattle.otel_settings.proofs.Lists.{goes_on}
use Rattle.otel_settings.proofs.attributes.list_of.Goals as goal

pub loop-key-preserved : goal.loop-key-preserved
loop-key-preserved g c =
    let inside : c.loop-key.key-index < length c.args.pairs.now = omega arith in
    let item = c.loop-key-item.is in
    let key = c.as_str.ensures.value ∙ ap (λ (p : String _ × String _). string_bytes p.0) item in
    let text =
    c.as_str-in-loop-key.ensures.value ∙ ap (λ (p : String _ × String _). string_bytes p.1) item in
    goes_on c.args.pairs.now c.loop-key.key-index _ _ _ _ _ inside c.loop-key.invariant key text
    c.in_ok-set_text.ensures

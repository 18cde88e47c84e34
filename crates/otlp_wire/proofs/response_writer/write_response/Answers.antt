use Rattle.std.proofs.Common.{◌≡◌, sym, ap, ◌∙◌, rules, arith, to_z-of_z}
use Rattle.std.specs.Int.{w64, cast_unsigned}
use Rattle.std.proofs.lemmas.Str.{is_utf8-from_IsUtf8}
use mir.Val.{SFits}
use Rattle.model_message.specs.Tables
use Rattle.model_message.specs.Whole.{IsMessage, IsText}
use Rattle.otlp_wire.proofs.ResponseBytes.{empty-response, full-response, response-reads}
use Rattle.otlp_wire.proofs.response_writer.write_response.Goals as goal

pub returns-then-is_default-clause-canonical : goal.returns-then-is_default-clause-canonical
returns-then-is_default-clause-canonical g c =
    let fits : SFits w64 c.rejected_spans.result = search rules in
    let number =
    c.cast_unsigned-rejected.ensures
    ∙ ap (cast_unsigned w64)
    (to_z-of_z {w = w64} {z = c.rejected_spans.result} fits ∙ c.rejected_spans.ensures
    ∙ ap (λ p. p.0) c.partial_success-partial.ensures) in
    let text =
    c.error_message-message.ensures ∙ ap (λ p. p.1.0) c.partial_success-partial.ensures in
    empty-response c.args.response.now _ _ _ number text c.new-out.ensures.items
    (sym c.is_default.ensures ∙ c.if-is_default.true)

pub returns-then-is_default-clause-meaning : goal.returns-then-is_default-clause-meaning
returns-then-is_default-clause-meaning g c =
    let fits : SFits w64 c.rejected_spans.result = search rules in
    let same : c.rejected_spans.result ≡ c.args.response.now.0.0 =
    c.rejected_spans.ensures ∙ ap (λ p. p.0) c.partial_success-partial.ensures in
    let text : c.error_message-message.result.now ≡ c.args.response.now.0.1.0 =
    c.error_message-message.ensures ∙ ap (λ p. p.1.0) c.partial_success-partial.ensures in
    let valid : IsText c.error_message-message.result.now =
    is_utf8-from_IsUtf8 c.error_message-message.result.now c.error_message-message.utf8 in
    let whole : IsMessage Tables.response c.args.response.now =
    ((rw same at fits, (rw text at valid, tt)), tt) in
    response-reads c.args.response.now _ whole (returns-then-is_default-clause-canonical g c)
    (rw c.new-out.ensures.items (omega arith))

pub returns-clause-canonical : goal.returns-clause-canonical
returns-clause-canonical g c =
    let fits : SFits w64 c.rejected_spans.result = search rules in
    let number =
    c.cast_unsigned-rejected.ensures
    ∙ ap (cast_unsigned w64)
    (to_z-of_z {w = w64} {z = c.rejected_spans.result} fits ∙ c.rejected_spans.ensures
    ∙ ap (λ p. p.0) c.partial_success-partial.ensures) in
    let text =
    c.error_message-message.ensures ∙ ap (λ p. p.1.0) c.partial_success-partial.ensures in
    let bytes = c.deref.ensures.value ∙ c.in_ok-partial_bytes.ensures in
    full-response c.args.response.now _ _ _ _ number text bytes
    (rw c.new-out.ensures.items at c.in_ok-put_len.ensures)
    (sym c.is_default.ensures ∙ c.if-is_default.false)

pub returns-clause-meaning : goal.returns-clause-meaning
returns-clause-meaning g c =
    let fits : SFits w64 c.rejected_spans.result = search rules in
    let same : c.rejected_spans.result ≡ c.args.response.now.0.0 =
    c.rejected_spans.ensures ∙ ap (λ p. p.0) c.partial_success-partial.ensures in
    let text : c.error_message-message.result.now ≡ c.args.response.now.0.1.0 =
    c.error_message-message.ensures ∙ ap (λ p. p.1.0) c.partial_success-partial.ensures in
    let valid : IsText c.error_message-message.result.now =
    is_utf8-from_IsUtf8 c.error_message-message.result.now c.error_message-message.utf8 in
    let whole : IsMessage Tables.response c.args.response.now =
    ((rw same at fits, (rw text at valid, tt)), tt) in
    response-reads c.args.response.now _ whole (returns-clause-canonical g c) (omega arith)

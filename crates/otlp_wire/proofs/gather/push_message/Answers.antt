use Rattle.std.proofs.Common.{◌≡◌, refl, sym, ap, subst, ◌∙◌, Err, map, [], ◌∷◌, ◌++◌}
use Rattle.std.proofs.Common.{arith}
use Rattle.std.proofs.lemmas.List.{map-append}
use Rattle.model_message.specs.Wire.{len}
use Rattle.model_message.specs.Tables.{message, repeated}
use Rattle.model_message.specs.Messages.{value, max_depth, read, payloads}
use Rattle.otlp_wire.specs.Fields.{field_of}
use Rattle.otlp_wire.specs.Gathering.{IsKept, field_faults}
use Rattle.otlp_wire.proofs.Named.{names-within}
use Rattle.otlp_wire.proofs.GatherSteps.{repeated-skips, repeated-more, repeated-fails}
use Rattle.otlp_wire.proofs.gather.push_message.Goals as goal

pub returns-in_default-clause-ok : goal.returns-in_default-clause-ok
returns-in_default-clause-ok g c =
    λ fields h. repeated-skips (value max_depth) c.args.number (message g.G.GatherFields.table)
    (map g.G.GatherFields.shown c.args.messages.now.items) fields (field_of c.args.field)
    (c.in_default.ensures (repeated (message g.G.GatherFields.table)) refl) h

pub returns-in_err-read_message-clause-err : goal.returns-in_err-read_message-clause-err
returns-in_err-read_message-clause-err g c =
    let told : c.from_residual.result ≡ Err c.in_err-read_message.field-0.0 = grind arith in
    let content = c.in-Some.content.now in
    rw told
    (λ before after. names-within
    (read (value max_depth) (message g.G.GatherFields.table) (len content ∷ [])).faults
    (field_faults (repeated (message g.G.GatherFields.table)) c.args.number before
    (field_of c.args.field) after)
    (repeated-fails (value max_depth) c.args.number (message g.G.GatherFields.table) before after
    (field_of c.args.field) (len content)
    (c.in-Some.ensures (repeated (message g.G.GatherFields.table)) refl))
    c.in_err-read_message.field-0.0 c.in_err-read_message.ensures.err)

pub returns-clause-ok : goal.returns-clause-ok
returns-clause-ok g c = λ fields h.
    let pushed =
    ap (map g.G.GatherFields.shown) c.in_ok-push.ensures.items
    ∙ map-append g.G.GatherFields.shown c.args.messages.now.items
    (c.in_ok-read_message.field-0 ∷ []) in
    subst (λ l. IsKept (value max_depth) (repeated (message g.G.GatherFields.table)) l
    (payloads c.args.number (repeated (message g.G.GatherFields.table))
    (fields ++ (field_of c.args.field) ∷ [])))
    (sym pushed)
    (repeated-more (value max_depth) c.args.number (message g.G.GatherFields.table)
    (map g.G.GatherFields.shown c.args.messages.now.items)
    (g.G.GatherFields.shown c.in_ok-read_message.field-0) fields (field_of c.args.field)
    (len c.in-Some.content.now)
    (c.in-Some.ensures (repeated (message g.G.GatherFields.table)) refl)
    c.in_ok-read_message.ensures.ok h)

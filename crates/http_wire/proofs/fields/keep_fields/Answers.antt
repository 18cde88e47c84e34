use Rattle.std.proofs.Common.{◌≡◌, ◌∙◌, ◌+◌, ◌++◌, ◌∷◌, get_or, [], map, take, All, sym, ap, subst}
use Rattle.std.proofs.Common.{◌⊎◌, Err}
use Rattle.std.proofs.lemmas.List.{take_all}
use Rattle.std.proofs.lemmas.List.Elements.{All-push}
use Rattle.httparse.specs.declared.spans.HeaderSpan.{HeaderSpan}
use Rattle.http_header.specs.HeaderMap.{RefusesAppend}
use Rattle.http_header.specs.Token.{lowercase}
use Rattle.http_wire.specs.declared.fault.HttpFault.TheVariants as faults
use Rattle.httparse.specs.Spans.{header_bytes}
use Rattle.http_wire.specs.Fields.{NameAndValue, IsTaken, KeepsFields}
use Rattle.http_wire.proofs.FieldLemmas.{keeps_more, fields_more, field_refused}
use Rattle.http_wire.proofs.fields.keep_fields.Goals as goal

pub returns-clause-taken : goal.returns-clause-taken
returns-clause-taken c =
    subst (λ l. All IsTaken (map (header_bytes c.args.text.now) l))
    (take_all c.loop-span.span-index c.args.spans.now c.loop-span-test.false)
    c.loop-span.invariant.1

pub loop-span-preserved : goal.loop-span-preserved
loop-span-preserved c =
    let none : HeaderSpan =
    record { name = record { start = 0; end = 0 }; value = record { start = 0; end = 0 } } in
    let span = get_or c.args.spans.now c.loop-span.span-index none in
    let field : NameAndValue = (c.of-name.result.now, c.of-value.result.now) in
    let same : field ≡ header_bytes c.args.text.now span =
    λ i. (c.of-name.ensures i, c.of-value.ensures i) in
    let before =
    map (header_bytes c.args.text.now) (take c.loop-span.span-index c.args.spans.now) in
    let more : map (header_bytes c.args.text.now)
    (take (c.loop-span.span-index + 1) c.args.spans.now)
    ≡ before ++ field ∷ [] =
    fields_more c.args.text.now c.args.spans.now c.loop-span.span-index none c.loop-span-test.true
    ∙ ap (λ f. before ++ f ∷ []) (sym same) in (
      subst (KeepsFields c.keep_field.new.kept) (sym more)
          (keeps_more c.loop-span.kept c.keep_field.new.kept before field c.loop-span.invariant.0
          c.in-Ok.ensures.ok),
      subst (All IsTaken) (sym more)
          (All-push IsTaken before field c.loop-span.invariant.1 c.in-Ok.ensures.taken),
    )

pub returns-in-Err-clause-refused : goal.returns-in-Err-clause-refused
returns-in-Err-clause-refused c =
    let none : HeaderSpan =
    record { name = record { start = 0; end = 0 }; value = record { start = 0; end = 0 } } in
    let span = get_or c.args.spans.now c.loop-span.span-index none in
    let field : NameAndValue = (c.of-name.result.now, c.of-value.result.now) in
    let same : field ≡ header_bytes c.args.text.now span =
    λ i. (c.of-name.ensures i, c.of-value.ensures i) in
    field_refused c.args.text.now c.args.spans.now c.loop-span.span-index none c.loop-span.kept _
    c.in-Err.fault c.loop-span-test.true
    c.requires.few c.loop-span.invariant.0
    (subst (λ f. c.in-Err.fault ≡ faults.BadHead
    → (¬ (IsTaken f)) ⊎ RefusesAppend c.loop-span.kept (lowercase c.of-name.result.now))
    same
    (λ is. c.in-Err.ensures.bad (ap Err is)))
    c.in-Err.ensures.only

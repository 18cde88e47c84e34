use Rattle.std.proofs.Common.{◌≡◌, ◌∙◌, ap, List, [], ◌∷◌, ◌++◌}
use Rattle.otlp_http.specs.Fields.{Field, field_line, refusal}
use Rattle.otlp_http.proofs.HeaderLemmas.{pushed}
use Rattle.otlp_http.proofs.headers.HeaderFields.push.Goals as goal

pub invariant_of-self-2 : goal.invariant_of-self-2
invariant_of-self-2 g c =
    let fields =
    c.push_reserved.ensures.items ∙ ap (λ l. l ++ (c.in_ok-name.name, c.in_ok-value.value) ∷ [])
    c.in_ok-reserve.ensures.items in
    let line : c.deref.result.now ≡ field_line (c.args.name.now, c.args.value.now) =
    c.deref.ensures.value ∙ c.in_ok-line.ensures in
    let lines : c.extend_from_slice.new.self.items
    ≡ c.self.inside.lines.items ++ field_line (c.args.name.now, c.args.value.now) =
    c.in_ok-extend_from_slice.ensures.items ∙ ap (λ l. c.self.inside.lines.items ++ l) line in
    let free =
    ap (λ (t : List Field). refusal t (c.args.name.now, c.args.value.now)) c.self.view_is
    ∙ c.in_ok-check.ensures.ok in
    pushed c.self.inside.fields.items c.push_reserved.new.self.items c.in_ok-name.name
    c.in_ok-value.value c.self.inside.lines.items c.extend_from_slice.new.self.items
    c.args.name.now c.args.value.now fields c.in_ok-name.ensures.ok c.in_ok-value.ensures.ok lines
    free c.self.invariant.0 c.self.invariant.1

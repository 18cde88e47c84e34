use Rattle.std.proofs.Common.{◌≡◌, [], ◌∙◌, sym, ap, length, string_bytes, rules}
use Rattle.std.proofs.lemmas.Bool.{not-false}
use Rattle.model_span.specs.Spans as spans
use Rattle.trace_script.proofs.Drafts.{add_scope}
use Rattle.trace_script.proofs.draft.Draft.add_scope.Goals as goal

pub returns : goal.returns
returns g c = λ s h.
    let x : spans.Scope =
    record {
      name = string_bytes c.args.name;
      version = string_bytes c.args.version;
      attributes = [];
      schema = string_bytes c.args.schema_url;
    } in
    let next : c.args.number ≡ length c.args.self.now.scopes.items = search rules in
    add_scope c.args.self.now c.push.new.self s c.args.number x _
    (not-false _ (sym (c.has_steps.ensures s h) ∙ c.if-has_steps.false)) next
    (ap (λ l. (x, l)) c.all_attributes.ensures) c.in_ok-push.ensures.items h

use Rattle.std.proofs.Common.{◌∙◌, ap, ap₂, sym, arith}
use Rattle.std.specs.Option.{option_map}
use Rattle.std.specs.Arc.{arc_value}
use Rattle.trace_store.specs.Digests.{root_between}
use Rattle.trace_store.proofs.SpanDigests.{joined, joined_is, kept-append}
use Rattle.trace_store.proofs.trace_digest.TraceDigestViewSpanDigestArcViewSpan.append.Goals as goal

pub returns : goal.returns
returns g c = λ spans others first second.
    let roots =
    ap₂ root_between
    (ap (λ o. option_map arc_value o) c.take.ensures.value ∙ ap (λ x. x.root) c.self.view_is)
    (ap (λ x. x.root) c.more.view_is) in
    joined_is c.args.self.now c.args.more _ _ _ _ _ (c.root_between.ensures ∙ roots)
    (omega (
      arith,
      c.min-self-inside.ensures,
      ap (λ x. x.start_time_unix_nano) c.self.view_is,
      ap (λ x. x.start_time_unix_nano) c.more.view_is,
    ))
    (omega (
      arith,
      c.max-self-inside.ensures,
      ap (λ x. x.end_time_unix_nano) c.self.view_is,
      ap (λ x. x.end_time_unix_nano) c.more.view_is,
    ))
    (omega (
      arith,
      c.saturating_add-self-inside.ensures,
      ap (λ x. x.span_count) c.self.view_is,
      ap (λ x. x.span_count) c.more.view_is,
    ))
    (omega (
      arith,
      c.saturating_add-self-inside-2.ensures,
      ap (λ x. x.error_count) c.self.view_is,
      ap (λ x. x.error_count) c.more.view_is,
    ))
    ∙ ap₂ joined first second
    ∙ sym (kept-append spans others)

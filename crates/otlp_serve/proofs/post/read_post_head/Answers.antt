use Rattle.std.proofs.Common.{sym, subst, ap, ◌∙◌, IsUtf8}
use Rattle.httparse.specs.Spans.{span_bytes}
use Rattle.otlp_serve.proofs.PostLemmas.{method_text}
use Rattle.otlp_serve.proofs.post.read_post_head.Goals as goal

pub copy_text-requires : goal.copy_text-requires
copy_text-requires g c =
    subst IsUtf8
    (sym (c.of.ensures ∙ ap (λ t. span_bytes t c.in-Ok.head.method) c.deref-2.ensures.value))
    (method_text _ _ _ _ _ c.in-Ok.ensures.head.1)

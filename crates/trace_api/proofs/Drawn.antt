-- The identifiers of a span, drawn one after the other.
use Rattle.std.proofs.Common.{◌≡◌, refl, sym, ap, subst, ◌∙◌, ℕ, zero, suc, ◌+◌, add-zero, add-suc}
use Rattle.std.proofs.Common.{zero-add, arith, List, Option, Some, None, option_map, Result, Ok}
use Rattle.std.proofs.Common.{Err, IsErrAnd}
use mathlib.Core.Path.{fun_ext}
use Rattle.rand_core.specs.Stream.{Stream, next_u64}
use Rattle.model_span.specs.Spans.{Context}
use Rattle.model_span.specs.Identifiers.{Words, span_id, words_after, words_spent}
use Rattle.model_span.specs.Sampling.{Decision}
use Rattle.model_span.specs.Starts.{Ids, Tracer, StartRequest, StartedSpan, HeldSpan, trace_of}
use Rattle.model_span.specs.Starts.{trace_words, ids_of, ids_words, decision_of, started_span}
use Rattle.model_span.specs.Starts.{started_span_as}
use Rattle.otlp_ids.specs.WordStream.{Spends, after_words, words_of}
use Rattle.trace_api.specs.Starts.{StartTakesMemory, StartsAs}
use Rattle.trace_api.specs.declared.provider.StartFault.{StartFault}
use Rattle.trace_api.specs.declared.provider.StartFault.TheVariants.{NoRandomness, OutOfMemory}

after-both : (a b : ℕ) (s : Stream) → after_words b (after_words a s) ≡ after_words (a + b) s
unfolding after_words
after-both a zero s = rw add-zero refl
after-both a (suc b) s = rw add-suc (ap (λ t. (next_u64 t).1) (after-both a b s))

words-both : (a b : ℕ) (words : Words)
    → words_after b (words_after a words) ≡ words_after (a + b) words
words-both a b words =
    fun_ext (λ k. ap words (let same : a + (b + k) ≡ a + b + k = omega arith in same))

-- A random stream from which nothing was drawn has spent no words.
pub none-spent : (s : Stream) → Spends (λ words. 0) s s
unfolding after_words
none-spent s = record { stream = refl; words = fun_ext (λ k. ap (words_of s) (sym (zero-add k))) }

-- A start that drew a trace identifier but no span identifier has no identifiers.
pub no-trace : (parent : Option Context) (s t : Stream) → None ≡ trace_of parent (words_of s)
    → Spends (trace_words parent) s t →
    (None ≡ ids_of parent (words_of s)) × Spends (ids_words parent) s t
unfolding ids_of ids_words
no-trace parent s t e spent =
    let n = trace_words parent (words_of s) in
    let all : ids_words parent (words_of s) ≡ n = rw (← e) (add-zero n) in (
      rw (← e) refl,
      record {
        stream = spent.stream ∙ ap (λ k. after_words k s) (sym all);
        words = spent.words ∙ ap (λ k. words_after k (words_of s)) (sym all);
      },
    )

-- A span identifier that is drawn after a trace identifier completes the identifiers of the start.
pub after-trace : (parent : Option Context) (trace : List ℕ) (id : Option (List ℕ)) (s t u : Stream)
    → Some trace ≡ trace_of parent (words_of s) → Spends (trace_words parent) s t →
    id ≡ span_id (words_of t) → Spends (words_spent 1) t u →
    (option_map (λ i. record { trace = trace; span = i }) id ≡ ids_of parent (words_of s))
    × Spends (ids_words parent) s u
unfolding ids_of ids_words
after-trace parent trace id s t u e spent f more =
    let n = trace_words parent (words_of s) in
    let m = words_spent 1 (words_of t) in
    let all : ids_words parent (words_of s) ≡ n + m = rw (← e, spent.words) refl in (
      rw (← e, ← spent.words, f) refl,
      record {
        stream =
            more.stream ∙ ap (after_words m) spent.stream ∙ after-both n m s
            ∙ ap (λ k. after_words k s) (sym all);
        words =
            more.words ∙ ap (words_after m) spent.words ∙ words-both n m (words_of s)
            ∙ ap (λ k. words_after k (words_of s)) (sym all);
      },
    )

-- ---- the span that starts

-- A start without identifiers starts no span.
pub not-started : (tracer : Tracer) (a : StartRequest) (words : Words)
    → None ≡ ids_of a.parent words → started_span tracer a words ≡ None
unfolding started_span
not-started tracer a words e = rw (← e) refl

-- A start with identifiers starts the span that the sampler's decision on its trace makes.
pub has-started : (tracer : Tracer) (a : StartRequest) (words : Words) (ids : Ids)
    → Some ids ≡ ids_of a.parent words
    → started_span tracer a words
    ≡ Some (started_span_as tracer a ids (decision_of tracer a ids.trace))
unfolding started_span
has-started tracer a words ids e = rw (← e) refl

-- Equal starts with equal decisions take memory alike.
pub takes-memory : (tracer : Tracer) {a b : StartRequest} (ids : Ids) {d e : Decision} → a ≡ b
    → d ≡ e → StartTakesMemory (started_span_as tracer a ids d)
    → StartTakesMemory (started_span_as tracer b ids e)
takes-memory tracer {a = a} ids {e = e} p q h =
    subst (λ x. StartTakesMemory (started_span_as tracer x ids e)) p
    (subst (λ y. StartTakesMemory (started_span_as tracer a ids y)) q h)

-- A start that takes memory may answer that memory is missing.
pub refused : (there : Option StartedSpan) (s : StartedSpan) (r : Result HeldSpan StartFault)
    → IsErrAnd r (λ fault. fault ≡ OutOfMemory) → there ≡ Some s → StartTakesMemory s
    → StartsAs there r
refused there s (Ok span) h e t = absurd h
refused there s (Err NoRandomness) h e t = cc
refused there s (Err OutOfMemory) h e t = (s, e, t)

use Rattle.std.proofs.Common.{◌≡◌, ℕ, ◌*◌, ◌/◌, ◌<◌, false}
use Rattle.model_span.specs.Identifiers.{draw}
use Rattle.model_span.specs.Spans.{is_id}
use Rattle.otlp_ids.specs.WordStream.{after_words, words_of}
use Rattle.otlp_ids.proofs.draw_bytes.Given as goal

abbrev pub invariant-draws : goal.invariant-draws
invariant-draws g l = record {
  rest : g.R.Rng.stream l.rng ≡ after_words (g.row.N / 8 * l.draw) (g.R.Rng.stream l.fn.rng);
  failed : (k : ℕ) → k < l.draw
      → is_id (draw (g.row.N / 8) (words_of (g.R.Rng.stream l.fn.rng)) k) ≡ false;
}

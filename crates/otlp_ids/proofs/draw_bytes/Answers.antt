use Rattle.std.proofs.Common.{◌≡◌, ◌/◌, refl, arith, rules, mul-zero, sym, ◌∙◌}
use borrow.Author.Count.{below_more}
use Rattle.otlp_ids.specs.WordStream.{after_words}
use Rattle.otlp_ids.proofs.Drawing.{drawn, drawn-first, drawn-none, words_of-after_words}
use Rattle.otlp_ids.proofs.draw_bytes.Goals as goal

pub draws-init : goal.draws-init
unfolding after_words
draws-init g c = record { rest = rw mul-zero refl; failed = λ k below. absurd (omega arith) }

pub draws-preserved : goal.draws-preserved
draws-preserved g c =
    let now =
    drawn (g.row.N / 8) c.draws.draw _ _ _ _ _ c.draws.invariant.rest c.fill_with_words.ensures.rest
    c.fill_with_words.ensures.bytes
    (search rules) in
    let here = rw now.0 at (sym c.is_any_set.ensures ∙ c.if-is_any_set.false) in
    record { rest = now.1; failed = below_more _ _ c.draws.invariant.failed here }

pub returns-then-is_any_set : goal.returns-then-is_any_set
returns-then-is_any_set g c =
    let now =
    drawn (g.row.N / 8) c.draws.draw _ _ _ _ _ c.draws.invariant.rest c.fill_with_words.ensures.rest
    c.fill_with_words.ensures.bytes
    (search rules) in
    let valid = sym c.is_any_set.ensures ∙ c.if-is_any_set.true in
    let first =
    drawn-first
    (g.row.N / 8) c.draws.draw _ _ c.draws.invariant.failed c.draws-test.true now.0 valid in
    let spent = rw (← first.1) at now.1 in
    record {
      value = sym first.0;
      valid = valid;
      spent = record { stream = spent; words = rw spent (words_of-after_words _ _) };
    }

pub returns : goal.returns
returns g c =
    let all : c.draws.draw ≡ 8 = omega arith in
    let none = drawn-none (g.row.N / 8) _ (λ k below. c.draws.invariant.failed k (omega arith)) in
    let spent = rw (all, ← none.1) at c.draws.invariant.rest in
    record {
      value = sym none.0;
      valid = tt;
      spent = record { stream = spent; words = rw spent (words_of-after_words _ _) };
    }

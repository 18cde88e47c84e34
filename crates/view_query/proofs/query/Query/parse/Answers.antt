use Rattle.std.proofs.Common.{◌≡◌, ◌<◌, ◌∙◌, ap, Err, arith, false, take}
use Rattle.view_query.proofs.Parts.{rest_of}
use Rattle.view_query.specs.Reading.{terms_of}
use Rattle.view_query.specs.Terms.{terms_view}
use Rattle.view_query.specs.Words.{word_length}
use Rattle.view_query.proofs.Skipped.{space_goes_by, word_goes_by, word_is_wrong, wrong_text}
use Rattle.view_query.proofs.query.Query.parse.Goals as goal

pub loop-at-preserved-then-length-eq0 : goal.loop-at-preserved-then-length-eq0
loop-at-preserved-then-length-eq0 g c =
    space_goes_by c.as_bytes-bytes.result.now c.loop-at.at c.word_length-length.result
    (terms_view c.loop-at.terms.items) (terms_of c.as_bytes-bytes.result.now)
    c.loop-at-test.true (c.word_length-length.ensures.is ∙ ap (word_length false)
    (rest_of c.loop-at.at c.as_bytes-bytes.result.now)) (omega arith) c.loop-at.invariant

pub returns-in_err-push_term-clause-err : goal.returns-in_err-push_term-clause-err
returns-in_err-push_term-clause-err g c =
    let told : c.from_residual.result ≡ Err c.in_err-push_term.field-0.0 = grind arith in
    wrong_text c.as_bytes-bytes.result.now c.args.text.now c.from_residual.result
    c.in_err-push_term.field-0.0 c.as_bytes-bytes.ensures.value told
    (word_is_wrong c.as_bytes-bytes.result.now c.loop-at.at c.word_length-length.result
    c.split_at.result.0.now (terms_view c.loop-at.terms.items)
    (terms_of c.as_bytes-bytes.result.now) c.in_err-push_term.field-0.0
    c.loop-at-test.true (c.word_length-length.ensures.is ∙ ap (word_length false)
    (rest_of c.loop-at.at c.as_bytes-bytes.result.now)) (omega arith)
    (c.split_at.ensures.front ∙ ap (take c.word_length-length.result)
    (rest_of c.loop-at.at c.as_bytes-bytes.result.now))
    c.in_err-push_term.ensures.err c.loop-at.invariant)

pub loop-at-preserved : goal.loop-at-preserved
loop-at-preserved g c =
    word_goes_by c.as_bytes-bytes.result.now c.loop-at.at c.word_length-length.result
    c.split_at.result.0.now (terms_view c.loop-at.terms.items)
    (terms_view c.push_term.new.terms.items) (terms_of c.as_bytes-bytes.result.now)
    c.loop-at-test.true (c.word_length-length.ensures.is ∙ ap (word_length false)
    (rest_of c.loop-at.at c.as_bytes-bytes.result.now)) (omega arith)
    (c.split_at.ensures.front ∙ ap (take c.word_length-length.result)
    (rest_of c.loop-at.at c.as_bytes-bytes.result.now))
    c.in_ok-push_term.ensures.ok c.loop-at.invariant

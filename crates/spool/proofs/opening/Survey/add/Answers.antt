use Rattle.std.proofs.Common.{sym, ap, ◌∙◌, List, ℕ, length, ◌≡◌, ◌+◌, ◌++◌, [], ◌∷◌, arith}
use Rattle.spool.specs.Records.{contents, rest, bodies, notes, span}
use Rattle.spool.specs.Spools.{greatest}
use Rattle.spool.proofs.SurveyLaws.{survey-more, survey-overlaps}
use Rattle.spool.proofs.opening.Survey.add.Goals as goal

pub returns-clause-survey : goal.returns-clause-survey
returns-clause-survey c = λ disk file was number bytes.
    let r = c.scan-records.result in
    let e = c.scan-records.ensures in
    let len : length c.args.bytes.now ≡ length file.bytes = ap length (sym bytes) in
    survey-more disk file c.args.self.now _ c.args.number r.bodies c.torn_count.result r.rest r.done
    was number (omega (arith, c.if-number-self.false))
    (e.bodies ∙ ap (λ (l : List ℕ). span (bodies (contents l))) (sym bytes))
    (e.done ∙ ap (λ (l : List ℕ). greatest (notes (contents l))) (sym bytes))
    (e.rest ∙ ap (λ (l : List ℕ). length (rest l)) (sym bytes))
    c.torn_count.ensures
    (c.in_ok-push.ensures.items
    ∙ ap (λ (n : ℕ). c.args.self.now.segments.items
    ++ record {
      number = c.args.number;
      «end» = c.args.number + r.bodies + c.torn_count.result;
      len = n;
      rest = r.rest;
    }
    ∷ [])
    len)
    c.max-self.ensures c.max-self-2.ensures c.max-self-3.ensures
    (c.in-Some.ensures.1 ∙ ap (λ (n : ℕ). c.args.self.now.size + n) len)
    (c.in-Some-checked_add.ensures.1)

pub returns-then-number-self-clause-overlap : goal.returns-then-number-self-clause-overlap
returns-then-number-self-clause-overlap c = λ _ disk file is number rises.
    survey-overlaps disk file c.args.self.now is
    (omega (arith, number, c.if-number-self.true)) rises

use Rattle.std.proofs.Common.{◌≡◌, ℕ, ◌+◌, length, refl, sym, ◌∙◌, cond, inl}
use Rattle.std.specs.Prelude.{◌==◌}
use Rattle.spool.specs.Disks.{SpoolFile}
use Rattle.spool.specs.Records.{contents, rest, bodies, span}
use Rattle.spool.specs.Settled.{segment_of}
use Rattle.spool.proofs.SurveyLaws.{end-found}
use Rattle.spool.proofs.giving.known_bodies.Goals as goal

-- What is kept of a file with these bytes, by what is found in them.
kept : (file : SpoolFile) (count left : ℕ) → count ≡ span (bodies (contents file.bytes))
    → left ≡ length (rest file.bytes)
    → record {
      number = file.number;
      «end» = file.number + count + cond (left == 0) 0 1;
      len = length file.bytes;
      rest = left;
    }
    ≡ segment_of file
kept file count left counted are = λ i. record {
  number = file.number;
  «end» = sym (end-found file file.number count _ left refl counted are refl) i;
  len = length file.bytes;
  rest = are i;
}

pub returns-then-not-is_same-clause-failed : goal.returns-then-not-is_same-clause-failed
returns-then-not-is_same-clause-failed c = λ _. inl (λ is.
    let e = c.in_ok-found.ensures in
    let file : SpoolFile = record { number = c.args.segment.number; bytes = c.args.bytes.now } in
    let same = kept file c.in_ok-found.found.records.bodies
    c.in_ok-found.found.records.rest e.count e.rest in
    let yes_is = c.is_same.ensures.1 (is ∙ sym same) in
    cc (yes_is, c.if-not-is_same.true))

pub returns-clause-known : goal.returns-clause-known
returns-clause-known c =
    let e = c.in_ok-found.ensures in
    let file : SpoolFile = record { number = c.args.segment.number; bytes = c.args.bytes.now } in
    let same = kept file c.in_ok-found.found.records.bodies
    c.in_ok-found.found.records.rest e.count e.rest in
    c.is_same.ensures.0 c.if-not-is_same.false ∙ same

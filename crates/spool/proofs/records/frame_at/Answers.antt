use Rattle.std.proofs.Common.{refl, ap, ◌∙◌, ◌≤◌, ℕ, take, drop, length, arith, length-drop}
use Rattle.spool.specs.Reading.{IsFramed}
use Rattle.spool.proofs.ScanLaws.{parts-at}
use Rattle.spool.proofs.records.frame_at.Goals as goal
use Rattle.spool.proofs.records.frame_at.Goals.{then-length-eq0-via-then-length-eq0}
use Rattle.spool.proofs.records.frame_at.Goals.{
  then-length-eq0-via-else-length-eq0+then-after-length,
}

pub returns-in_default : goal.returns-in_default
returns-in_default c = λ f. omega (arith, f.some, f.there, c.in_default.ensures)

pub returns-then-length-eq0 : goal.returns-then-length-eq0
returns-then-length-eq0 c =
    let h = c.in-Some.ensures in
    λ b. elim c.then-length-eq0.branch [
      | then-length-eq0-via-then-length-eq0 w ↦ omega (arith, h.0, b.some, w.if-length-eq0.true)
      | then-length-eq0-via-else-length-eq0+then-after-length w ↦
          omega (
            arith,
            h.0,
            b.there,
            w.if-after-length.true,
            ap length h.2,
            length-drop 8 c.args.bytes.now,
          )
    ]

pub returns : goal.returns
returns c =
    let h = c.in-Some.ensures in
    let bytes = c.args.bytes.now in
    let front = c.split_at.ensures.front ∙ ap (λ (k : ℕ). take k c.in-Some.after.now) h.0 in
    let back = c.split_at.ensures.back ∙ ap (λ (k : ℕ). drop k c.in-Some.after.now) h.0 in
    let parts =
    parts-at bytes c.in-Some.after.now c.split_at.result.0.now c.split_at.result.1.now h.2 h.3 front
    back in
    let fits : c.in-Some.length ≤ length c.in-Some.after.now = c.if-after-length.false in (
      record {
        some = omega (arith, h.0, c.if-length-eq0.false);
        there = omega (arith, h.0, h.3, fits, ap length h.2, length-drop 8 bytes);
      },
      h.1,
      parts.0,
      parts.1,
    )

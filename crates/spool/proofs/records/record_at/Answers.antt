use Rattle.std.proofs.Common.{ap, sym, ◌∙◌}
use Rattle.model_deflate.specs.Crc.{crc32}
use Rattle.spool.proofs.RecordLaws.{begun}
use Rattle.spool.proofs.ScanLaws.{no-frame, no-check}
use Rattle.spool.proofs.records.record_at.Goals as goal

pub returns-in_default : goal.returns-in_default
returns-in_default c = no-frame c.args.bytes.now c.in_default.ensures

pub returns-then-check : goal.returns-then-check
returns-then-check c =
    let h = c.in-Some.ensures in
    no-check c.args.bytes.now
    (λ same. c.if-check.true (c.check.ensures ∙ (ap crc32 h.2 ∙ (sym same ∙ sym h.1))))

pub returns : goal.returns
returns c =
    let h = c.in-Some.ensures in (
      begun c.args.bytes.now (record {
        some = h.0.some;
        there = h.0.there;
        check = sym h.1 ∙ (sym c.if-check.false ∙ (c.check.ensures ∙ ap crc32 h.2));
      }),
      h.2,
      h.3,
    )

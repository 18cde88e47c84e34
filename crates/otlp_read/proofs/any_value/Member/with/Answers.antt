use Rattle.std.proofs.Common.{refl, subst, sym, ◌++◌}
use Rattle.otlp_read.specs.Members.{Holds}
use Rattle.otlp_wire.proofs.OnePayload.{is-varint, is-bytes, is-fixed64}
use Rattle.otlp_read.proofs.MemberSteps.{begins-with, runs-with, other-member, no-number}
use Rattle.otlp_read.proofs.any_value.Member.with.Goals as goal
use Rattle.otlp_read.proofs.any_value.Member.with.Goals.{in_default-via-in-1+in-Varint-1}
use Rattle.otlp_read.proofs.any_value.Member.with.Goals.{in_default-via-in-2+in-I64-1}
use Rattle.otlp_read.proofs.any_value.Member.with.Goals.{in_default-via-in-3+in-I64-1}
use Rattle.otlp_read.proofs.any_value.Member.with.Goals.{in_default-via-in-4+in-Varint-1}
use Rattle.otlp_read.proofs.any_value.Member.with.Goals.{in_default-via-in-5+in-Varint-1}
use Rattle.otlp_read.proofs.any_value.Member.with.Goals.{in_default-via-in-6+in-Varint-1}
use Rattle.otlp_read.proofs.any_value.Member.with.Goals.{in_default-via-in-7+in-Varint-1}
use Rattle.otlp_read.proofs.any_value.Member.with.Goals.{in_default-via-in_default}

pub returns-in-1-Len-clause-ok : goal.returns-in-1-Len-clause-ok
returns-in-1-Len-clause-ok g c =
    λ back h. begins-with c.args.field 1 _ c.in-1-Len.is-0 c.in-1-Len.is-1 refl back

pub returns-in-2-Varint-clause-ok : goal.returns-in-2-Varint-clause-ok
returns-in-2-Varint-clause-ok g c =
    λ back h. begins-with c.args.field 2 _ c.in-2-Varint.is-0 c.in-2-Varint.is-1 refl back

pub returns-in-3-Varint-clause-ok : goal.returns-in-3-Varint-clause-ok
returns-in-3-Varint-clause-ok g c =
    λ back h. begins-with c.args.field 3 _ c.in-3-Varint.is-0 c.in-3-Varint.is-1 refl back

pub returns-in-4-I64-clause-ok : goal.returns-in-4-I64-clause-ok
returns-in-4-I64-clause-ok g c =
    λ back h. begins-with c.args.field 4 _ c.in-4-I64.is-0 c.in-4-I64.is-1 refl back

pub returns-in-7-Len-clause-ok : goal.returns-in-7-Len-clause-ok
returns-in-7-Len-clause-ok g c =
    λ back h. begins-with c.args.field 7 _ c.in-7-Len.is-0 c.in-7-Len.is-1 refl back

pub returns-in-5-Len-clause-ok : goal.returns-in-5-Len-clause-ok
returns-in-5-Len-clause-ok g c =
    λ back h. runs-with c.args.field 5 c.in-5-Len.part c.in-5-Len.is-0 c.in-5-Len.is-1 refl refl
    c.array_parts-parts.result.items _ c.in_ok-push-in-5-Len.ensures.items back
    (c.array_parts-parts.ensures back h)

pub returns-in-6-Len-clause-ok : goal.returns-in-6-Len-clause-ok
returns-in-6-Len-clause-ok g c =
    λ back h. runs-with c.args.field 6 c.in-6-Len.part c.in-6-Len.is-0 c.in-6-Len.is-1 refl refl
    c.pairs_parts-parts.result.items _ c.in_ok-push-in-6-Len.ensures.items back
    (c.pairs_parts-parts.ensures back h)

pub returns-clause-ok : goal.returns-clause-ok
returns-clause-ok g c =
    λ back h. subst (λ l. Holds c.args.self (l ++ back)) (sym (elim c.in_default.branch [
      | in_default-via-in-1+in-Varint-1 w ↦
          other-member c.args.field 1 2 w.in_default.is-0
          (is-bytes c.args.field.payload w.in_default.not-Len-1) (λ p e. rw e refl)
      | in_default-via-in-2+in-I64-1 w ↦
          other-member c.args.field 2 0 w.in_default.is-0
          (is-varint c.args.field.payload w.in_default.not-Varint-1) (λ p e. rw e refl)
      | in_default-via-in-3+in-I64-1 w ↦
          other-member c.args.field 3 0 w.in_default.is-0
          (is-varint c.args.field.payload w.in_default.not-Varint-1) (λ p e. rw e refl)
      | in_default-via-in-4+in-Varint-1 w ↦
          other-member c.args.field 4 1 w.in_default.is-0
          (is-fixed64 c.args.field.payload w.in_default.not-I64-1) (λ p e. rw e refl)
      | in_default-via-in-5+in-Varint-1 w ↦
          other-member c.args.field 5 2 w.in_default.is-0
          (is-bytes c.args.field.payload w.in_default.not-Len-1) (λ p e. rw e refl)
      | in_default-via-in-6+in-Varint-1 w ↦
          other-member c.args.field 6 2 w.in_default.is-0
          (is-bytes c.args.field.payload w.in_default.not-Len-1) (λ p e. rw e refl)
      | in_default-via-in-7+in-Varint-1 w ↦
          other-member c.args.field 7 2 w.in_default.is-0
          (is-bytes c.args.field.payload w.in_default.not-Len-1) (λ p e. rw e refl)
      | in_default-via-in_default w ↦
          let h = w.in_default.is-0 in
          no-number c.args.field h.0.0.0.0.0.0.1 h.0.0.0.0.0.1 h.0.0.0.0.1 h.0.0.0.1 h.0.0.1 h.0.1
          h.1
    ])) h

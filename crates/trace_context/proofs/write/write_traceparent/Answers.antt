use Rattle.std.proofs.Common.{refl}
use Rattle.trace_context.specs.Outgoing.{traceparent_text}
use Rattle.trace_context.proofs.write.write_traceparent.Goals as goal

pub returns : goal.returns
unfolding traceparent_text
returns g c =
    rw (
      c.copy_from_slice.ensures.after,
      c.write_hex.ensures,
      c.copy_from_slice-2.ensures.after,
      c.write_hex-2.ensures,
      c.copy_from_slice-3.ensures.after,
      c.copy_from_slice-4.ensures.after,
      c.flag_digits.ensures,
    ) refl

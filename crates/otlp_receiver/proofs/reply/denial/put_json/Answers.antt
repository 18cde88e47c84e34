use Rattle.otlp_receiver.proofs.Fields.{add_three}
use Rattle.otlp_receiver.proofs.reply.denial.put_json.Goals as goal

pub returns : goal.returns
returns c =
    add_three _ _ _ _ _ _ _ c.in_ok-put_slice.ensures.ok
    (rw c.as_bytes.ensures.value at c.in_ok-put_slice-2.ensures.ok) c.in_ok-put_slice-3.ensures.ok

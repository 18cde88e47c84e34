use Rattle.otlp_proto.proofs.Writing.{no-field, and-field, carries}
use Rattle.otlp_proto.proofs.Values.{put-value}
use Rattle.otlp_proto.proofs.encoder.values.Tuple2StringValueSubmessage.put.Goals as goal

pub returns : goal.returns
returns g c =
    let key = rw c.as_str.ensures.value at c.put_text.ensures in
    carries (and-field key (and-field (put-value c.put_one.ensures) no-field))

use Rattle.std.proofs.Common.{◌∙◌, ◌++◌, ◌∷◌}
use Rattle.httparse.specs.Ascii.{crlf_bytes}
use Rattle.std.proofs.Common.{refl}
use Rattle.http_wire.proofs.DataLemmas.{data_lacks, return_came, feed_came, end_came}
use Rattle.http_wire.proofs.chunk.read_data.Goals as goal

pub returns-in-Err-clause-data : goal.returns-in-Err-clause-data
returns-in-Err-clause-data g c =
    let front = c.in-Err.ensures.bytes in
    (front.0, front.1, tt, data_lacks c.args.size front.0 _ _ c.in-Err.fault front.2)

pub returns-in-Err-read_expected-clause-data : goal.returns-in-Err-read_expected-clause-data
returns-in-Err-read_expected-clause-data g c =
    let front = c.in-Ok.ensures.bytes in
    let end = c.in-Err-read_expected.ensures.byte in
    let came =
    return_came _ _ _ c.args.size front.0 end.0 _ _ _ c.in-Err-read_expected.fault front.1 front.2
    c.in-Ok.ensures.counted end.1 end.2 in
    (front.0 ++ end.0, came.0, tt, came.1)

pub returns-in-Ok-read_expected-2-clause-data : goal.returns-in-Ok-read_expected-2-clause-data
returns-in-Ok-read_expected-2-clause-data g c =
    let front = c.in-Ok.ensures.bytes in
    let return = c.in-Ok-read_expected.ensures.byte in
    let feed = c.in-Ok-read_expected-2.ensures.byte in (
      front.0 ++ crlf_bytes,
      end_came _ _ _ _ front.0 return.0 feed.0 front.1 return.1 return.2 feed.1 feed.2,
      record { added = front.0; size_of = front.2; whole = refl; put = front.3 },
      tt,
    )

pub returns-in-Err-read_expected-2-clause-data : goal.returns-in-Err-read_expected-2-clause-data
returns-in-Err-read_expected-2-clause-data g c =
    let front = c.in-Ok.ensures.bytes in
    let return = c.in-Ok-read_expected.ensures.byte in
    let end = c.in-Err-read_expected-2.ensures.byte in
    let came =
    feed_came _ _ _ _ c.args.size front.0 return.0 end.0 _ _ _ c.in-Err-read_expected-2.fault
    front.1 front.2 return.1 return.2
    (c.in-Ok-read_expected.ensures.counted ∙ c.in-Ok.ensures.counted) end.1 end.2 in
    (front.0 ++ 13 ∷ end.0, came.0, tt, came.1)

use Rattle.std.proofs.Common.{refl}
use Rattle.model_deflate.specs.Crc.{crc32, crc_bytes, crc_byte, divided_by, divided}
use Rattle.spool.specs.Records.{record_bytes, contents, contents_by, rest, rest_by, is_record_at}
use Rattle.spool.specs.Records.{is_skipped_at, length_at, content_at, after_at}
use Rattle.spool.specs.Spools.{waiting, waiting_from, waiting_in, done_to, next_number}
use Rattle.spool.specs.Spools.{damaged_bytes, bodies_in, notes_in, bodies_end, end_of, is_whole}
use Rattle.spool.proofs.worked.spools.Goals as goal

pub returns-clause-one : goal.returns-clause-one
unfolding waiting waiting_from waiting_in done_to next_number damaged_bytes bodies_in notes_in
    bodies_end end_of is_whole record_bytes contents contents_by rest rest_by is_record_at
    is_skipped_at length_at content_at after_at crc32 crc_bytes crc_byte divided_by divided
returns-clause-one c = refl

pub returns-clause-noted : goal.returns-clause-noted
unfolding waiting waiting_from waiting_in done_to next_number damaged_bytes bodies_in notes_in
    bodies_end end_of is_whole record_bytes contents contents_by rest rest_by is_record_at
    is_skipped_at length_at content_at after_at crc32 crc_bytes crc_byte divided_by divided
returns-clause-noted c = refl

pub returns-clause-next : goal.returns-clause-next
unfolding waiting waiting_from waiting_in done_to next_number damaged_bytes bodies_in notes_in
    bodies_end end_of is_whole record_bytes contents contents_by rest rest_by is_record_at
    is_skipped_at length_at content_at after_at crc32 crc_bytes crc_byte divided_by divided
returns-clause-next c = refl

pub returns-clause-damaged : goal.returns-clause-damaged
unfolding waiting waiting_from waiting_in done_to next_number damaged_bytes bodies_in notes_in
    bodies_end end_of is_whole record_bytes contents contents_by rest rest_by is_record_at
    is_skipped_at length_at content_at after_at crc32 crc_bytes crc_byte divided_by divided
returns-clause-damaged c = refl

pub returns-clause-skipped : goal.returns-clause-skipped
unfolding waiting waiting_from waiting_in done_to next_number damaged_bytes bodies_in notes_in
    bodies_end end_of is_whole record_bytes contents contents_by rest rest_by is_record_at
    is_skipped_at length_at content_at after_at crc32 crc_bytes crc_byte divided_by divided
returns-clause-skipped c = refl

pub returns-clause-later : goal.returns-clause-later
unfolding waiting waiting_from waiting_in done_to next_number damaged_bytes bodies_in notes_in
    bodies_end end_of is_whole record_bytes contents contents_by rest rest_by is_record_at
    is_skipped_at length_at content_at after_at crc32 crc_bytes crc_byte divided_by divided
returns-clause-later c = refl

pub returns-clause-lost : goal.returns-clause-lost
unfolding waiting waiting_from waiting_in done_to next_number damaged_bytes bodies_in notes_in
    bodies_end end_of is_whole record_bytes contents contents_by rest rest_by is_record_at
    is_skipped_at length_at content_at after_at crc32 crc_bytes crc_byte divided_by divided
returns-clause-lost c = refl

pub returns-clause-after : goal.returns-clause-after
unfolding waiting waiting_from waiting_in done_to next_number damaged_bytes bodies_in notes_in
    bodies_end end_of is_whole record_bytes contents contents_by rest rest_by is_record_at
    is_skipped_at length_at content_at after_at crc32 crc_bytes crc_byte divided_by divided
returns-clause-after c = refl

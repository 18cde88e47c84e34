use Rattle.std.proofs.Common.{refl}
use Rattle.model_deflate.specs.Crc.{crc32, crc_bytes, crc_byte, divided_by, divided}
use Rattle.spool.specs.Records.{record_bytes, contents, contents_by, rest, rest_by, is_record_at}
use Rattle.spool.specs.Records.{is_skipped_at, length_at, content_at, after_at}
use Rattle.spool.proofs.worked.damaged.Goals as goal

pub returns-clause-skipped : goal.returns-clause-skipped
unfolding record_bytes contents contents_by rest rest_by is_record_at is_skipped_at
    length_at content_at after_at crc32 crc_bytes crc_byte divided_by divided
returns-clause-skipped c = refl

pub returns-clause-left : goal.returns-clause-left
unfolding record_bytes contents contents_by rest rest_by is_record_at is_skipped_at
    length_at content_at after_at crc32 crc_bytes crc_byte divided_by divided
returns-clause-left c = refl

pub returns-clause-note : goal.returns-clause-note
unfolding record_bytes contents contents_by rest rest_by is_record_at is_skipped_at
    length_at content_at after_at crc32 crc_bytes crc_byte divided_by divided
returns-clause-note c = refl

pub returns-clause-note_left : goal.returns-clause-note_left
unfolding record_bytes contents contents_by rest rest_by is_record_at is_skipped_at
    length_at content_at after_at crc32 crc_bytes crc_byte divided_by divided
returns-clause-note_left c = refl

pub returns-clause-last : goal.returns-clause-last
unfolding record_bytes contents contents_by rest rest_by is_record_at is_skipped_at
    length_at content_at after_at crc32 crc_bytes crc_byte divided_by divided
returns-clause-last c = refl

pub returns-clause-last_left : goal.returns-clause-last_left
unfolding record_bytes contents contents_by rest rest_by is_record_at is_skipped_at
    length_at content_at after_at crc32 crc_bytes crc_byte divided_by divided
returns-clause-last_left c = refl

pub returns-clause-two : goal.returns-clause-two
unfolding record_bytes contents contents_by rest rest_by is_record_at is_skipped_at
    length_at content_at after_at crc32 crc_bytes crc_byte divided_by divided
returns-clause-two c = refl

pub returns-clause-two_left : goal.returns-clause-two_left
unfolding record_bytes contents contents_by rest rest_by is_record_at is_skipped_at
    length_at content_at after_at crc32 crc_bytes crc_byte divided_by divided
returns-clause-two_left c = refl

pub returns-clause-length : goal.returns-clause-length
unfolding record_bytes contents contents_by rest rest_by is_record_at is_skipped_at
    length_at content_at after_at crc32 crc_bytes crc_byte divided_by divided
returns-clause-length c = refl

pub returns-clause-torn : goal.returns-clause-torn
unfolding record_bytes contents contents_by rest rest_by is_record_at is_skipped_at
    length_at content_at after_at crc32 crc_bytes crc_byte divided_by divided
returns-clause-torn c = refl

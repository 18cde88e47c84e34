use Rattle.std.proofs.Common.{refl}
use Rattle.model_deflate.specs.Crc.{crc32, crc_bytes, crc_byte, divided_by, divided}
use Rattle.spool.specs.Records.{record_bytes, contents, contents_by, rest, rest_by, is_record_at}
use Rattle.spool.specs.Records.{is_skipped_at, length_at, content_at, after_at}
use Rattle.spool.proofs.worked.records.Goals as goal

pub returns-clause-body : goal.returns-clause-body
unfolding record_bytes contents contents_by rest rest_by is_record_at is_skipped_at
    length_at content_at after_at crc32 crc_bytes crc_byte divided_by divided
returns-clause-body c = refl

pub returns-clause-note : goal.returns-clause-note
unfolding record_bytes contents contents_by rest rest_by is_record_at is_skipped_at
    length_at content_at after_at crc32 crc_bytes crc_byte divided_by divided
returns-clause-note c = refl

pub returns-clause-whole : goal.returns-clause-whole
unfolding record_bytes contents contents_by rest rest_by is_record_at is_skipped_at
    length_at content_at after_at crc32 crc_bytes crc_byte divided_by divided
returns-clause-whole c = refl

pub returns-clause-torn : goal.returns-clause-torn
unfolding record_bytes contents contents_by rest rest_by is_record_at is_skipped_at
    length_at content_at after_at crc32 crc_bytes crc_byte divided_by divided
returns-clause-torn c = refl

pub returns-clause-left : goal.returns-clause-left
unfolding record_bytes contents contents_by rest rest_by is_record_at is_skipped_at
    length_at content_at after_at crc32 crc_bytes crc_byte divided_by divided
returns-clause-left c = refl

pub returns-clause-zeros : goal.returns-clause-zeros
unfolding record_bytes contents contents_by rest rest_by is_record_at is_skipped_at
    length_at content_at after_at crc32 crc_bytes crc_byte divided_by divided
returns-clause-zeros c = refl

use Rattle.std.proofs.Common.{◌≡◌, refl, arith}
use Rattle.model_deflate.specs.Crc.{crc32, crc_bytes, crc_byte, divided_by, divided}
use Rattle.spool.specs.Records.{record_bytes, contents, contents_by, rest, rest_by, is_record_at}
use Rattle.spool.specs.Records.{is_skipped_at, length_at, content_at, after_at}
use Rattle.spool.specs.Spools.{bodies_in, bodies_end}
use Rattle.spool.specs.Examples.{old_file, torn_file, torn_note_file}
use Rattle.spool.proofs.worked.rising.Goals as goal

old-ends : bodies_end old_file ≡ 7
unfolding bodies_in bodies_end record_bytes contents contents_by rest rest_by is_record_at
    is_skipped_at length_at content_at after_at crc32 crc_bytes crc_byte divided_by divided
old-ends = refl

torn-ends : bodies_end torn_file ≡ 10
unfolding bodies_in bodies_end record_bytes contents contents_by rest rest_by is_record_at
    is_skipped_at length_at content_at after_at crc32 crc_bytes crc_byte divided_by divided
torn-ends = refl

torn-note-ends : bodies_end torn_note_file ≡ 6
unfolding bodies_in bodies_end record_bytes contents contents_by rest rest_by is_record_at
    is_skipped_at length_at content_at after_at crc32 crc_bytes crc_byte divided_by divided
torn-note-ends = refl

pub returns-clause-files : goal.returns-clause-files
returns-clause-files c = (
  (omega (arith, old-ends), (omega (arith, old-ends), tt)),
  ((omega (arith, torn-ends), tt), (tt, tt)),
)

pub returns-clause-torn_note : goal.returns-clause-torn_note
returns-clause-torn_note c = ((omega (arith, torn-note-ends), tt), (tt, tt))

pub returns-clause-overlap : goal.returns-clause-overlap
returns-clause-overlap c = λ rises. omega (arith, old-ends, rises.0.0)

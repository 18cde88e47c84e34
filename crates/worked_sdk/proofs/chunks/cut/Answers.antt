use Rattle.std.proofs.Common.{[], ◌∷◌, refl, arith, codes, Some}
use Rattle.httparse.specs.Grammar.{lf, ChunkLine}
use Rattle.httparse.proofs.OnLiterals.{httparse_on_literals}
use Rattle.http_wire.specs.declared.fault.HttpFault.TheVariants as faults
use Rattle.http_wire.specs.Chunks.{Trailers, no_line, no_data, no_trailers}
use Rattle.worked_sdk.specs.Replied.{usual}
use Rattle.worked_sdk.proofs.ChunkParts.{plain, line_is, line_valid, chunk_is, wiki, no_chunks}
use Rattle.worked_sdk.proofs.ChunkParts.{one_chunk, trailers_are, has_no_line, has_no_trailers}
use Rattle.worked_sdk.proofs.chunks.cut.Goals as goal

abbrev extended : ChunkLine
extended = record { digits = codes "4"; pad = []; extension = Some (codes "a") }

abbrev one : Trailers
one = record { fields = record { name = codes "A"; raw = []; end = lf } ∷ []; last = lf }

pub returns-clause-at_once : goal.returns-clause-at_once
unfolding httparse_on_literals
returns-clause-at_once c = no_chunks usual []
    (no_line faults.Ended (
      refl,
      has_no_line [] refl,
      (codes "4\r\n", plain (codes "4"), (line_valid (plain (codes "4")) refl, refl)),
      omega arith,
    )
    refl)

pub returns-clause-line : goal.returns-clause-line
unfolding httparse_on_literals
returns-clause-line c = no_chunks usual (codes "4;a\r")
    (no_line faults.Ended (
      refl,
      has_no_line (codes "4;a\r") refl,
      (codes "\n", extended, (line_valid extended refl, refl)),
      omega arith,
    )
    refl)

pub returns-clause-bytes : goal.returns-clause-bytes
unfolding httparse_on_literals
returns-clause-bytes c = no_chunks usual (codes "4\r\nwik")
    (no_data wiki.line (codes "wik") faults.Ended (line_is usual.head wiki.line refl refl)
    (omega arith) (omega arith) refl
    (refl, (codes "i\r\n", codes "wiki", refl, refl), omega arith) refl)

pub returns-clause-before_feed : goal.returns-clause-before_feed
unfolding httparse_on_literals
returns-clause-before_feed c = no_chunks usual (codes "4\r\nwiki\r")
    (no_data wiki.line (codes "wiki\r") faults.Ended (line_is usual.head wiki.line refl refl)
    (omega arith) (omega arith) refl
    (refl, (codes "\n", codes "wiki", refl, refl), omega arith) refl)

pub returns-clause-next_line : goal.returns-clause-next_line
unfolding httparse_on_literals
returns-clause-next_line c =
    one_chunk usual wiki (codes "0") (chunk_is usual.head wiki refl refl refl refl) refl refl
    (no_line faults.Ended (
      refl,
      has_no_line (codes "0") refl,
      (codes "\r\n", plain (codes "0"), (line_valid (plain (codes "0")) refl, refl)),
      omega arith,
    )
    refl)

pub returns-clause-trailers : goal.returns-clause-trailers
unfolding httparse_on_literals
returns-clause-trailers c = no_chunks usual (codes "0\r\nA")
    (no_trailers (plain (codes "0")) (codes "A") faults.Ended
    (line_is usual.head (plain (codes "0")) refl refl) refl refl (
      refl,
      has_no_trailers usual (codes "A") refl,
      (codes ":\n\n", one.fields, one.last, ((trailers_are usual one refl refl refl).valid, refl)),
      omega arith,
      omega arith,
    )
    refl)

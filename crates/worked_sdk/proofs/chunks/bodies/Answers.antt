use Rattle.std.proofs.Common.{[], ◌∷◌, refl, arith, codes, Some, None}
use Rattle.std.proofs.lemmas.List.Elements.{All-cons, All-nil}
use Rattle.httparse.specs.Grammar.{crlf, lf}
use Rattle.httparse.proofs.OnLiterals.{httparse_on_literals}
use Rattle.http_wire.specs.Chunks.{Chunk, IsChunk, Trailers, whole}
use Rattle.worked_sdk.specs.Replied.{usual}
use Rattle.worked_sdk.proofs.ChunkParts.{plain, line_is, trailers_are, chunk_is, no_chunks}
use Rattle.worked_sdk.proofs.ChunkParts.{plain_end, abc_body}
use Rattle.worked_sdk.proofs.chunks.bodies.Goals as goal

abbrev wiki : Chunk
wiki = record {
  line = record { digits = codes "4"; pad = []; extension = Some (codes "a=b") };
  bytes = codes "wiki";
}

abbrev ten : Chunk
ten = record {
  line = record { digits = codes "0A"; pad = codes " \t"; extension = None };
  bytes = codes "0123456789";
}

abbrev two : Trailers
two = record {
  fields =
      record { name = codes "A"; raw = codes " b"; end = lf }
      ∷ record { name = codes "C"; raw = []; end = crlf } ∷ [];
  last = crlf;
}

pub returns-clause-empty : goal.returns-clause-empty
returns-clause-empty c = no_chunks usual (codes "0\r\n\r\n") plain_end

pub returns-clause-one : goal.returns-clause-one
returns-clause-one c = abc_body []

pub returns-clause-dressed : goal.returns-clause-dressed
unfolding httparse_on_literals
returns-clause-dressed c = record {
  chunks = wiki ∷ ten ∷ [];
  text = codes "00\r\nA: b\nC:\r\n\r\n";
  each = All-cons (IsChunk usual.head) wiki (ten ∷ [])
      (chunk_is usual.head wiki refl refl refl refl)
      (All-cons (IsChunk usual.head) ten [] (chunk_is usual.head ten refl refl refl refl)
      (All-nil (IsChunk usual.head)));
  fit = omega arith;
  whole = refl;
  ends =
      whole (plain (codes "00")) two (line_is usual.head (plain (codes "00")) refl refl) refl
      (trailers_are usual two refl refl refl) refl refl;
}

-- What a sink that writes lines shows. (profile)
use Rattle.std.specs.Prelude.{◌≡◌, ℕ, ◌+◌, List, [], ◌∷◌, ◌++◌, Bool, Option, true, false}
use Rattle.std.specs.Prelude.{decimal}
use Rattle.std.specs.Io.KnownBytes.{Appends}
use Rattle.hex.specs.Hex.{encode_lower}
use Rattle.model_span.specs.Dropped.{Entry, reason_word}
use Rattle.drop_ledger.specs.ReasonCounts.{capped}

-- what it writes to, whether a write failed, and how many names were not written
pub record LineSink (W : Type 0) : Type 0 where
  pub writer : W
  pub failed : Bool
  pub unwritten : ℕ

-- The line of a name: the word, the ticket, the trace id and the span id in hexadecimal digits, and
-- the reason, with a space (32) between them, and the end of the line (10).
abbrev pub name_line : List ℕ → Entry → List ℕ
name_line word entry =
    word ++ 32 ∷ (decimal entry.ticket ++ 32 ∷ (encode_lower entry.trace ++ 32 ∷
    (encode_lower entry.span ++ 32 ∷ (reason_word entry.reason ++ 10 ∷ []))))

-- What becomes of such a sink that is given a name with this line. While no write has failed, the
-- line is written after the others, whole, or this write fails. After a write that failed nothing
-- is written, and names are only counted; the count stops at 2^64 - 1.
pub record TakesLine {W : Type 0} (contents : W → Option (List ℕ)) (line : List ℕ)
    (old new : LineSink W) : Type 0 where
  pub stays_failed : old.failed ≡ true
      → new ≡ record old { unwritten = capped (old.unwritten + 1) }
  pub fails : new.failed ≡ true → new.unwritten ≡ capped (old.unwritten + 1)
  pub written : new.failed ≡ false
      → (new.unwritten ≡ old.unwritten) × Appends (contents old.writer) (contents new.writer) line

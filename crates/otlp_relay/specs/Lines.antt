-- The line of a span that is lost. (profile)
use Rattle.std.specs.Prelude.{◌≡◌, ◌+◌, ◌-◌, ◌^◌, ℕ, Bool, true, false, Option, List, [], ◌∷◌, ◌++◌}
use Rattle.std.specs.Prelude.{codes, decimal, min}
use Rattle.std.specs.Io.KnownBytes.{Appends}
use Rattle.hex.specs.Hex.{encode_lower}
use Rattle.model_desk.specs.Retries.{Fate}

-- Why it is lost, in a word: the status by which its body was refused, that the reply could not be
-- read, that no attempt succeeded; else nobody sends it any more.
abbrev pub reason_word : Fate → List ℕ
reason_word (Fate.refused status) = codes "refused " ++ decimal status
reason_word Fate.bad_reply = codes "bad-reply"
reason_word Fate.given_up = codes "attempts"
reason_word _ = codes "abandoned"

-- The word `lost`, the trace id and the span id in hexadecimal digits, and the reason, with a space
-- (32) between them, and the end of the line (10).
abbrev pub lost_line : List ℕ → List ℕ → Fate → List ℕ
lost_line trace span fate = codes "lost" ++ 32 ∷ (encode_lower trace ++ 32 ∷
    (encode_lower span ++ 32 ∷ (reason_word fate ++ 10 ∷ [])))

-- what a sink writes to, whether a write failed, and how many names were not written
pub record LineSink (W : Type 0) : Type 0 where
  pub writer : W
  pub has_failed : Bool
  pub unwritten : ℕ

-- one name more that is not written; the count stops at 2^64 - 1
abbrev pub one_more : ℕ → ℕ
one_more count = min (count + 1) (2 ^ 64 - 1)

-- What becomes of such a sink that is given a name with this line. While no write has failed, the
-- line is written after the others, whole, or this write fails. After a write that failed nothing
-- is written, and names are only counted.
pub record TakesLine {W : Type 0} (contents : W → Option (List ℕ)) (line : List ℕ)
    (old new : LineSink W) : Type 0 where
  pub stays_failed : old.has_failed ≡ true
      → new ≡ record old { unwritten = one_more old.unwritten }
  pub fails : new.has_failed ≡ true → new.unwritten ≡ one_more old.unwritten
  pub written : new.has_failed ≡ false
      → (new.unwritten ≡ old.unwritten) × Appends (contents old.writer) (contents new.writer) line

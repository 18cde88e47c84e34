-- The fields of a message's bytes. (Protocol Buffers, Encoding: Message Structure)
use Rattle.std.specs.Prelude.{◌≡◌, ℕ, List}
use Rattle.model_message.specs.Wire.{Field}
use Rattle.model_message.specs.Spelling.{IsRow}

-- Some bytes spell one row of fields at most. (Protocol Buffers, Encoding: Message Structure)
abbrev pub OneRow : Type 0
OneRow = (bs : List ℕ) (a b : List Field) → IsRow bs a → IsRow bs b → a ≡ b

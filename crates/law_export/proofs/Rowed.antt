-- Some bytes spell one row.
use Rattle.std.proofs.Common.{◌≡◌, sym, ◌∙◌, ℕ, List}
use Rattle.model_message.specs.Wire.{Field}
use Rattle.model_message.specs.Spelling.{IsRow}
use Rattle.model_message.proofs.RowLaws.{row-spelled}

-- Some bytes spell one row of fields at most.
pub one-row : (bs : List ℕ) (a b : List Field) → IsRow bs a → IsRow bs b → a ≡ b
one-row bs a b s t = sym ((row-spelled bs a).0 s).1 ∙ ((row-spelled bs b).0 t).1

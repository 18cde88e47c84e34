-- The lines of the log of a service. (profile)
use Rattle.std.specs.Prelude.{ℕ, List, codes, if◌then◌else◌}
use Rattle.model_span.specs.Dropped.{Entry, Reason, is_lost}
use Rattle.drop_ledger.specs.Lines.{name_line}

-- the word of a name's line, which says what became of its span, by the reason
abbrev pub word_of : Reason → List ℕ
word_of reason = if is_lost reason then codes "lost" else codes "dropped"

-- the line of a name
abbrev pub line_of : Entry → List ℕ
line_of entry = name_line (word_of entry.reason) entry

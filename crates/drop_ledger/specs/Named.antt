-- What a sink of names was given. (profile)
use Rattle.std.specs.Prelude.{List, [], ◌∷◌, ◌++◌}
use Rattle.model_span.specs.Dropped.{Entry}

-- The names that a sink was given: those of dropped spans and those of lost ones, each in the order
-- in which they were given.
pub record Named : Type 0 where
  pub dropped : List Entry
  pub lost : List Entry

-- those of a sink that was given nothing
abbrev pub no_names : Named
no_names = record { dropped = []; lost = [] }

-- with one more name of a dropped span, after the others
abbrev pub with_dropped : Entry → Named → Named
with_dropped entry named = record named { dropped = named.dropped ++ entry ∷ [] }

-- with one more name of a lost span, after the others
abbrev pub with_lost : Entry → Named → Named
with_lost entry named = record named { lost = named.lost ++ entry ∷ [] }

-- The names that hang together, the newest first.
use Rattle.std.specs.Prelude.{ℕ, ◌+◌, List, [], ◌∷◌, length, Bool, IsTrue, true, false, Option}
use Rattle.std.specs.Prelude.{None, Some}
use Rattle.std.specs.Option.{ForSome}
use Rattle.model_span.specs.Dropped as model
use Rattle.otlp_span.specs.declared.slip.SlipNode.{SlipNode}
use Rattle.otlp_span.specs.declared.slip.SlipNode.TheVariants as nodes
use Rattle.otlp_span.specs.Dropped.{entry_view}

-- those of a slip, or none where there is no slip
abbrev pub entries_of : Option (List model.Entry) → List model.Entry
entries_of None = []
entries_of (Some entries) = entries

-- whether a slip that is seen so names something
abbrev pub is_named : List model.Entry → Bool
is_named [] = false
is_named (e ∷ es) = true

-- the names from what is on a slip on
abbrev pub node_entries : {A : Type 0} → SlipNode A → List model.Entry
node_entries nodes.Blank = []
node_entries (nodes.Named entry below) = entry_view entry ∷ entries_of below

-- what is below names something
abbrev pub IsSlipNode : {A : Type 0} → SlipNode A → Type 0
IsSlipNode nodes.Blank = Unit {0}
IsSlipNode (nodes.Named entry below) = ForSome below (λ es. IsTrue (is_named es))

-- how many slips there are, one that names nothing among them
abbrev pub slip_count : Option (List model.Entry) → ℕ
slip_count None = 0
slip_count (Some entries) = length entries + 1

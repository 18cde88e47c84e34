-- Items under keys, in the order in which the keys came first.
use Rattle.std.specs.Prelude.{List, [], ◌∷◌, ◌++◌, Bool, if◌then◌else◌, map, Vec}
use Rattle.model_export.specs.Export.{Group}

-- The groups with one item more: it comes after those of the first key that equals its own, or
-- else alone, after all groups.
abbrev pub with_item :
    {K T : Type 0} → (K → K → Bool) → List (Group K T) → K → T → List (Group K T)
with_item same [] k x = record { key = k; items = x ∷ [] } ∷ []
with_item same (g ∷ gs) k x =
    if same k g.key then record { key = g.key; items = g.items ++ x ∷ [] } ∷ gs
    else g ∷ with_item same gs k x

-- the entries of a map from keys to items
abbrev pub groups_of : {K T A : Type 0} → List (K × Vec T A) → List (Group K T)
groups_of entries = map (λ e. record { key = e.0; items = e.1.items }) entries

-- the group, its key and its items seen by two views
abbrev pub group_view : {K J T U : Type 0} → (K → J) → (T → U) → Group K T → Group J U
group_view key item g = record { key = key g.key; items = map item g.items }

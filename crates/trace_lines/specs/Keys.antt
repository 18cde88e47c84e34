-- Maps by keys of bytes that they own.
use Rattle.std.specs.Prelude.{ℕ, Option, List, Vec}
use Rattle.std.specs.BTreeMap.{BTreeMap, get_by}
use Rattle.std.specs.Cmp.Lexicographic.{slice_cmp}
use Rattle.std.specs.Ordering.{nat_cmp}

-- the value at the key with these bytes
abbrev pub value_at : {A X : Type 0} → BTreeMap (Vec ℕ A) X → List ℕ → Option X
value_at {A} entries bytes = get_by (λ (k : Vec ℕ A). slice_cmp nat_cmp bytes k.items) entries

-- When a pair that is set takes a place of its own in a list of attributes.
use Rattle.std.specs.Prelude.{◌≡◌, ◌<◌, ℕ, List, false, length}
use Rattle.std.specs.List.{list_any}
use Rattle.model_span.specs.Attributes.{AttributeList, has_key, is_empty}

-- the key is new and not empty, and there is room for one more
pub record TakesPlace (key : List ℕ) (list : AttributeList) : Type 0 where
  pub named : is_empty key ≡ false
  pub new : list_any (has_key key) list.kept.items ≡ false
  pub room : length list.kept.items < list.limits.count

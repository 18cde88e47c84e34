-- Several pairs, set one after the other.
use Rattle.std.specs.Prelude.{◌≡◌, List, ◌++◌}
use Rattle.model_span.specs.Attributes.{Attribute, AttributeList, attributes}

-- What was kept of some pairs is now what is kept of them with these after them.
pub record SetsPairs (more : List Attribute) (old new : AttributeList) : Type 0 where
  pub limits : new.limits ≡ old.limits
  pub value : (pairs : List Attribute) → old.kept ≡ attributes old.limits pairs
      → new.kept ≡ attributes old.limits (pairs ++ more)

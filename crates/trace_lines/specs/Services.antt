-- The services of a trace, and their colours.
use Rattle.std.specs.Prelude.{◌≡◌, ℕ, ◌%◌, Bool, if◌then◌else◌, Option, is_some, unwrap_or, List}
use Rattle.std.specs.Prelude.{[]}
use Rattle.std.specs.Prelude.{◌∷◌, ◌++◌, length, fold, position, Vec}
use Rattle.std.specs.BTreeMap.{BTreeMap, btree_map_len}
use Rattle.std.specs.Str.{bytes_eq}
use Rattle.trace_store.specs.Facts.{service_of}
use Rattle.trace_store.specs.declared.span.ViewSpan.{ViewSpan}
use Rattle.trace_lines.specs.Keys.{value_at}

-- whether a service has this name
abbrev pub is_named : List ℕ → List ℕ → Bool
is_named name service = bytes_eq service name

-- the place of a name among names, if it is there
abbrev pub place_of_name : List (List ℕ) → List ℕ → Option ℕ
place_of_name names name = position (is_named name) names

-- a name more, unless it is there
unfoldable pub with_name : List (List ℕ) → List ℕ → List (List ℕ)
with_name names name =
    if is_some (place_of_name names name) then names else names ++ name ∷ []

-- the services of a trace, each once, in the order of their first spans in the list
abbrev pub more_services : {A : Type 0} → List (List ℕ) → ViewSpan A → List (List ℕ)
more_services names s = with_name names (service_of s)

abbrev pub services_of : {A : Type 0} → List (ViewSpan A) → List (List ℕ)
services_of spans = fold more_services [] spans

-- the colour at a place, of eight: eight services that follow each other in the order of their
-- first spans differ (profile)
abbrev pub colour_at : Option ℕ → ℕ
colour_at place = unwrap_or place 0 % 8

-- the colour of a service among those of its trace
abbrev pub colour_of : List (List ℕ) → List ℕ → ℕ
colour_of names name = colour_at (place_of_name names name)

-- the place of each name among names
pub record AreServices {A : Type 0} (names : List (List ℕ)) (places : BTreeMap (Vec ℕ A) ℕ)
    : Type 0 where
  pub each : (name : List ℕ) → value_at places name ≡ place_of_name names name
  pub count : btree_map_len places ≡ length names

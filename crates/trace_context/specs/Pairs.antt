-- The fields of a list of names and values. (profile)
use Rattle.std.specs.Prelude.{ℕ, List, map, String, Vec, string_bytes}
use Rattle.trace_context.specs.Carriers.{Field}

-- each pair is a field
abbrev pub fields_view : {A : Type 0} → List (String A × Vec ℕ A) → List Field
fields_view pairs = map (λ p. (string_bytes p.0, p.1.items)) pairs

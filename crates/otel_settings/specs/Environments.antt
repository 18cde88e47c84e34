-- What is read of an environment. (OpenTelemetry Specification, Environment Variable Specification)
use Rattle.std.specs.Prelude.{ℕ, List, map, Option, String, string_bytes}
use Rattle.std.specs.Borrow.{Bor}
use Rattle.otel_settings.specs.declared.variable.Variable.{Variable}
use Rattle.otel_settings.specs.Variables.{name_of}
use Rattle.otel_settings.specs.Pairs.{Pairs, last_of}

-- Each variable has in these pairs a value that its name may have, and none where its name may have
-- none.
abbrev pub AreRead : (List ℕ → Option (List ℕ) → Type 0) → Pairs → Type 0
AreRead gives pairs =
    (variable : Variable) → gives (name_of variable) (last_of (name_of variable) pairs)

-- names, which are borrowed, and values, each as its bytes
abbrev pub texts_view : {A : Type 0} → List (Bor (List ℕ) × String A) → Pairs
texts_view pairs = map (λ p. (p.0.now, string_bytes p.1)) pairs

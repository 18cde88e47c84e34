-- When further peers are accepted. (profile)
use Rattle.std.specs.Prelude.{◌≤◌, ⊤, ℕ}
use Rattle.http_listener.specs.declared.accepting.Accepting.{Accepting}
use Rattle.http_listener.specs.declared.accepting.Accepting.TheVariants.{WhenReported}
use Rattle.http_listener.specs.declared.accepting.Accepting.TheVariants.{AtOnce, At}

-- peers are accepted at a moment
abbrev pub IsDue : Accepting → ℕ → Type 0
IsDue WhenReported now = ⊥
IsDue AtOnce now = ⊤
IsDue (At at) now = at ≤ now

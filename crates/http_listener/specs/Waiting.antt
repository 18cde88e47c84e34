-- Which peer has waited longest. (profile)
use Rattle.std.specs.Prelude.{◌≡◌, ◌≤◌, List, [], Option, Some, None}
use Rattle.std.specs.List.{All, Contains}
use Rattle.http_listener.specs.declared.longest.Waiter.{Waiter}

-- it is one of these peers, and none of them has waited since an earlier moment; or there is none
abbrev pub IsLongest : List Waiter → Option Waiter → Type 0
IsLongest seen None = seen ≡ []
IsLongest seen (Some waiter) =
    Contains seen waiter × All (λ other. waiter.since_ms ≤ other.since_ms) seen

-- One of two parts.
use Rattle.std.proofs.Common.{◌≡◌, sym, subst, ℕ, Bool, true, List, ◌++◌, Result, OnOk}
use Rattle.std.specs.Prelude.{if◌then◌else◌}
use Rattle.view_pages.specs.Html.{Html, html_bytes}

-- the first one is written, where the test holds
pub chosen : {T E : Type 0} (r : Result T E) (test : Bool) (old new : List ℕ) (first second : Html)
    → test ≡ true
    → OnOk r (new ≡ old ++ html_bytes first)
    → OnOk r (new ≡ old ++ html_bytes (if test then first else second))
chosen r test old new first second holds written =
    subst (λ t. OnOk r (new ≡ old ++ html_bytes (if t then first else second))) (sym holds) written

-- What a service begins with, of the passes that its processor was made with.
use Rattle.std.proofs.Common.{◌≡◌, refl, sym, subst, ap, ◌∙◌, ◌++◌, ◌∷◌, [], List, Option, Some}
use Rattle.std.specs.List.{AllByRecursion}
use Rattle.std.specs.Option.{option_to_list}
use Rattle.model_processor.specs.Passes.{PassAccount, new_account}
use Rattle.model_processor.specs.WorkerClauses.{Origin}
use Rattle.span_exporter.specs.Handed.{Handed}
use Rattle.drop_ledger.specs.Named.{Named}
use Rattle.batch_service.specs.Service.{EndsNone, ServiceView, new_service}

-- All of these passes have done nothing.
abbrev pub AreNew : List PassAccount → Type 0
AreNew passes = AllByRecursion (λ a. a ≡ new_account) passes

-- The last of them is a new one, and so are those before it.
last-is-new : (passes : List PassAccount) (a : PassAccount) → AreNew (passes ++ a ∷ [])
    → (a ≡ new_account) × AreNew passes
last-is-new [] a h = (h.0, tt)
last-is-new (pass ∷ passes) a h =
    let rest = last-is-new passes a h.1 in (rest.0, (h.0, rest.1))

-- A pass that was popped from new ones is a new one, and so are those that are left.
pub popped-is-new : (passes left : List PassAccount) (a : PassAccount) → AreNew passes
    → passes ≡ left ++ option_to_list (Some a) → (a ≡ new_account) × AreNew left
popped-is-new passes left a new is = last-is-new left a (subst AreNew is new)

-- A new pass has ended no span, and popped no name.
pub ends-none : (a : PassAccount) → a ≡ new_account → EndsNone a
ends-none a is = subst EndsNone (sym is)
    (record { ends = refl; popped = refl; popped_lost = refl; late = refl })

-- a service with these parts
abbrev pub service_of : Origin → PassAccount → Option (List Handed) → Option Named → ServiceView
service_of origin control handed named =
    record { origin = origin; control = control; handed = handed; named = named }

-- A service whose own pass is new is one that has started.
pub begins-as : (origin : Origin) (control : PassAccount) (handed handed' : Option (List Handed))
    (named named' : Option Named) → control ≡ new_account → handed ≡ handed' → named ≡ named'
    → service_of origin control handed named ≡ new_service origin handed' named'
begins-as origin control handed handed' named named' is-new same-handed same-named =
    ap (λ x. service_of origin x handed named) is-new
    ∙ ap (λ x. service_of origin new_account x named) same-handed
    ∙ ap (λ x. service_of origin new_account handed' x) same-named

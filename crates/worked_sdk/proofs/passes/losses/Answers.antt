use Rattle.std.proofs.Common.{[], ◌∷◌, refl}
use Rattle.std.proofs.lemmas.List.Sorted.{IsPermutation-refl}
use Rattle.model_span.specs.Dropped.{left_handed}
use Rattle.worked_sdk.specs.Histories.{named}
use Rattle.model_processor.specs.PassClauses.{NamesLosses}
use Rattle.worked_sdk.proofs.passes.losses.Goals as goal

left : NamesLosses (named left_handed 3 ∷ []) 1 (named left_handed 3 ∷ []) []
left = record { named = IsPermutation-refl (named left_handed 3 ∷ []); counted = refl }

gone : NamesLosses [] 1 (named left_handed 3 ∷ []) (named left_handed 3 ∷ [])
gone = record { named = IsPermutation-refl (named left_handed 3 ∷ []); counted = refl }

pub returns-clause-names : goal.returns-clause-names
returns-clause-names g = left

pub returns-clause-popped : goal.returns-clause-popped
returns-clause-popped g = gone

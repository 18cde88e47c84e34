use Rattle.std.proofs.Common.{[], ◌∷◌, refl}
use Rattle.std.proofs.lemmas.List.Sorted.{IsPermutation-append_comm}
use Rattle.model_span.specs.Dropped.{abandoned, queue_full}
use Rattle.worked_sdk.specs.Histories.{named}
use Rattle.model_processor.specs.PassClauses.{NamesDrops}
use Rattle.worked_sdk.proofs.passes.accounts.Goals as goal

-- the ledger has the entry that was not popped
swapped : NamesDrops (named abandoned 3 ∷ [])
    (record { queue_full = 1; encode_memory = 0; too_large = 0; abandoned = 1 })
    (named queue_full 2 ∷ named abandoned 3 ∷ []) (named queue_full 2 ∷ [])
swapped = record {
  named = IsPermutation-append_comm (named queue_full 2 ∷ []) (named abandoned 3 ∷ []);
  counted = refl;
}

pub returns-clause-names : goal.returns-clause-names
returns-clause-names g = swapped

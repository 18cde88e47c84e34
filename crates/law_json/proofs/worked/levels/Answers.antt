use Rattle.std.proofs.Common.{refl, codes}
use Rattle.std.proofs.lemmas.Str.{is_utf8-from_IsUtf8}
use Rattle.json.proofs.Printed.Utf8.{IsUtf8-are_ascii}
use Rattle.law_json.specs.Sound.{IsSoundValue}
use Rattle.law_json.proofs.worked.levels.Goals as goal

pub returns-clause-bare_pair : goal.returns-clause-bare_pair
unfolding IsSoundValue
returns-clause-bare_pair c =
    (is_utf8-from_IsUtf8 (codes "a") (IsUtf8-are_ascii (codes "a") refl), tt, tt)

pub returns-clause-full_pair : goal.returns-clause-full_pair
unfolding IsSoundValue
returns-clause-full_pair c h = h.1

pub returns-clause-item : goal.returns-clause-item
unfolding IsSoundValue
returns-clause-item c h = h.0

pub returns-clause-item_below : goal.returns-clause-item_below
unfolding IsSoundValue
returns-clause-item_below c = (tt, tt)

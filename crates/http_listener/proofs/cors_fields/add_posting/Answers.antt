use Rattle.std.proofs.Common.{◌∷◌, [], codes}
use Rattle.http_listener.proofs.Added.{add_both}
use Rattle.http_listener.proofs.cors_fields.add_posting.Goals as goal

pub returns : goal.returns
returns c =
    let names =
    add_both _ _ _ ((codes "access-control-max-age", codes "600") ∷ []) _ c.in_ok-add-2.ensures
    (rw c.value_in.ensures at c.in_ok-add_asked.ensures) in
    add_both _ _ _ ((codes "access-control-allow-methods", codes "POST") ∷ []) _
    c.in_ok-add.ensures names

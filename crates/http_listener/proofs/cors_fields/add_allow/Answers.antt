use Rattle.std.proofs.Common.{◌∷◌, [], codes}
use Rattle.http_listener.proofs.Added.{add_both}
use Rattle.http_listener.proofs.cors_fields.add_allow.Goals as goal

pub returns : goal.returns
returns c =
    let vary =
    add_both _ _ _ ((codes "vary", codes "origin") ∷ []) _ c.in_ok-add-2.ensures
    c.in_ok-add_preflight.ensures in
    let credentials =
    add_both _ _ _ ((codes "access-control-allow-credentials", codes "true") ∷ []) _
    c.in_ok-add.ensures vary in
    add_both _ _ _ ((codes "access-control-allow-origin", c.args.origin.now.bytes) ∷ []) _
    c.in_ok-add_copy.ensures credentials

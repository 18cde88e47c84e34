use Rattle.std.proofs.Common.{◌∙◌, sym, rules}
use Rattle.http_wire.proofs.PlaceLemmas.{due_ended, ended_due, place_ended, differ, is_other}
use Rattle.http_wire.proofs.place.HeadPlace.end_line.Goals.{then-self, else-self}
use Rattle.http_wire.proofs.place.HeadPlace.end_line.Goals as goal

pub returns-clause-due : goal.returns-clause-due
returns-clause-due c text at =
    let filled = c.is_text-filled.ensures in (
      λ due. due_ended text c.args.self.now at (sym filled ∙ is_other _ _ due),
      λ due. differ _ _ (filled ∙ ended_due text c.args.self.now at due),
    )

pub returns-clause-place : goal.returns-clause-place
returns-clause-place c text at =
    place_ended text c.args.self.now c.if-self.self at (elim c.if-self.branch [
      | then-self w ↦ search rules
      | else-self w ↦ search rules
    ])

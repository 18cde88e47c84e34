use Rattle.std.proofs.Common.{◌≡◌, ◌∙◌, sym}
use Rattle.view_query.proofs.Parts.{all_of_map}
use Rattle.view_query.proofs.test.fits.Goals as goal

pub returns : goal.returns
returns g c = c.holds_all.ensures ∙ sym (all_of_map c.args.terms.now c.args.span.now)

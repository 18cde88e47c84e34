use Rattle.page_text.proofs.Bounds.{ten_some}
use Rattle.page_text.proofs.double.push_decimal.Goals as goal

pub nonzero_div-value : goal.nonzero_div-value
nonzero_div-value g c = ten_some c.args.value.ten c.args.value.places c.requires

pub nonzero_rem-value : goal.nonzero_rem-value
nonzero_rem-value g c = ten_some c.args.value.ten c.args.value.places c.requires

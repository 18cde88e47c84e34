use Rattle.std.proofs.Common.{◌++◌, string_bytes}
use Rattle.page_text.specs.Doubles.{digits_of}
use Rattle.page_text.proofs.Bounds.{ten_less, tenth_some}
use Rattle.page_text.proofs.Steps.{digits_all, digits_more}
use Rattle.page_text.proofs.double.push_digits.Goals as goal

pub nonzero_div-rest : goal.nonzero_div-rest
nonzero_div-rest g c =
    tenth_some c.loop.power c.args.places c.loop.counter c.loop.invariant.is_power c.loop-test.true

pub nonzero_rem-rest : goal.nonzero_rem-rest
nonzero_rem-rest g c =
    tenth_some c.loop.power c.args.places c.loop.counter c.loop.invariant.is_power c.loop-test.true

pub loop-preserved : goal.loop-preserved
loop-preserved g c = record {
  all =
      digits_more c.args.places c.loop.counter c.loop.power c.loop.rest
      (string_bytes c.args.out.now ++ digits_of c.args.places c.args.ten c.args.number)
      (string_bytes c.loop.out) (string_bytes c.push_whole.new.out)
      c.loop-test.true c.loop.invariant.all c.in_ok-push_whole.ensures;
  is_power =
      ten_less c.loop.power c.args.places c.loop.counter c.loop.invariant.is_power c.loop-test.true;
}

pub returns : goal.returns
returns g c =
    digits_all c.args.places c.loop.counter c.loop.power c.loop.rest
    (string_bytes c.args.out.now ++ digits_of c.args.places c.args.ten c.args.number)
    (string_bytes c.loop.out) c.loop-test.false c.loop.invariant.all

use Rattle.std.proofs.Common.{sym, ap, ◌∙◌, ◌≡◌, ◌+◌, []}
use Rattle.std.proofs.Common.{take, get_or, subst, rules}
use Rattle.std.specs.Prelude.{slice_get, Some}
use Rattle.std.proofs.lemmas.List.{take_more}
use Rattle.spool.specs.Disks.{SpoolFile, Disk}
use Rattle.spool.specs.Spools.{Rises}
use Rattle.spool.specs.Surveys.{IsSurvey}
use Rattle.spool.proofs.Moments.{then-same}
use Rattle.spool.proofs.RiseLaws.{rises-take}
use Rattle.spool.proofs.SurveyLaws.{file-at, number-at}
use Rattle.spool.proofs.opening.survey_all.Goals as goal

pub loop-index-preserved : goal.loop-index-preserved
loop-index-preserved g c =
    let i = c.loop-index.invariant in
    record {
      same = λ known. c.read.ensures.same known ∙ i.same known;
      crash = λ known.
          then-same g.D.Device.moment g.D.Device.left_at c.args.device.now c.loop-index.device
          c.read.new.self _
          (i.crash known) (c.read.ensures.crash known);
      survey = λ known.
          let disk = g.D.Device.files c.args.device.now in
          let at = c.loop-index.index in
          let none : SpoolFile = record { number = 0; bytes = [] } in
          let file = get_or disk at none in
          let it = number-at disk at none _ (i.numbers known) c.loop-index-test.true in
          let found : slice_get (g.D.Device.files c.loop-index.device) at ≡ Some file =
          ap (λ (d : Disk). slice_get d at) (i.same known) ∙ file-at disk at none it.0 in
          let bytes : file.bytes ≡ c.deref.result.now =
          sym (c.in_ok-bytes.ensures.bytes known file found) ∙ sym c.deref.ensures.value in
          subst (λ (d : Disk). IsSurvey d c.add.new.self) (sym (take_more disk at none it.0))
          (c.in_ok-add.ensures.survey (take at disk) file (i.survey known) it.1 bytes);
      numbers = i.numbers;
      small = i.small;
    }

pub returns-in_err-add-clause-overlap : goal.returns-in_err-add-clause-overlap
returns-in_err-add-clause-overlap g c = λ err known rises.
    let i = c.loop-index.invariant in
    let disk = g.D.Device.files c.args.device.now in
    let at = c.loop-index.index in
    let none : SpoolFile = record { number = 0; bytes = [] } in
    let it = number-at disk at none _ (i.numbers known) c.loop-index-test.true in
    c.in_err-add.ensures.overlap (search (rules, err, c.from_residual-in_err-add.ensures))
    (take at disk) (get_or disk at none) (i.survey known) it.1
    (subst Rises (take_more disk at none it.0) (rises-take (at + 1) disk rises))

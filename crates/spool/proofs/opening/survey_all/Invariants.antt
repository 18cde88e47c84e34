use Rattle.std.proofs.Common.{◌≡◌, ◌<◌, ◌^◌, take}
use Rattle.std.specs.Prelude.{All}
use Rattle.spool.specs.Disks.{file_numbers}
use Rattle.spool.specs.Crashes.{LeavesOnly}
use Rattle.spool.specs.Surveys.{IsSurvey}
use Rattle.spool.proofs.opening.survey_all.Given as goal

abbrev pub invariant-loop-index : goal.invariant-loop-index
invariant-loop-index g l = record {
  same : g.D.Device.is_known → g.D.Device.files l.device ≡ g.D.Device.files l.fn.device;
  crash : g.D.Device.is_known
      → LeavesOnly g.D.Device.moment g.D.Device.left_at l.fn.device l.device
      (g.D.Device.left_at l.fn.device (g.D.Device.moment l.fn.device));
  survey : g.D.Device.is_known → IsSurvey (take l.index (g.D.Device.files l.fn.device)) l.survey;
  numbers : g.D.Device.is_known → l.number-items ≡ file_numbers (g.D.Device.files l.fn.device);
  small : All (λ number. number < 2 ^ 63) l.number-items;
}

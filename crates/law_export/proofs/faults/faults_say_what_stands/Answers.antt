use Rattle.law_export.proofs.Standing.{faults-stand}
use Rattle.law_export.proofs.Stopping.{row-stops-at}
use Rattle.law_export.proofs.faults.faults_say_what_stands.Goals as goal

pub returns : goal.returns
returns c = record { field = faults-stand; row = row-stops-at }

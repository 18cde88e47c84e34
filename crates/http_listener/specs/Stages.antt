-- What a connection is at, as its phase says. (profile)
use Rattle.std.specs.Prelude.{Bool, true, false, Option, Some, None}
use Rattle.http_connection.specs.declared.limits.Phase.{Phase}
use Rattle.http_connection.specs.declared.limits.Phase.TheVariants as phases
use Rattle.http_listener.specs.declared.clock.Stage.{Stage}
use Rattle.http_listener.specs.declared.clock.Stage.TheVariants as stages

-- a connection that isn't done, and whose writing wasn't shut down
abbrev pub stage_of : Phase → Option Stage
stage_of phases.Done = None
stage_of phases.Idle = Some stages.Idle
stage_of phases.Receiving = Some stages.Receiving
stage_of phases.Answering = Some stages.Answering
stage_of phases.Discarding = Some stages.Discarding
stage_of phases.Closing = Some stages.Closing

-- where writing was shut down its end is waited for, whatever its phase
abbrev pub stage_at : Phase → Bool → Option Stage
stage_at phase false = stage_of phase
stage_at phases.Done true = None
stage_at _ true = Some stages.Closing

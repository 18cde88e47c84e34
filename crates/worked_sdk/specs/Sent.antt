-- A batch on its way.
use Rattle.std.specs.Prelude.{[], ◌∷◌}
use Rattle.batch_sending.specs.Sendings.{Sending, Stage}
use Rattle.worked_sdk.specs.Settings.{usual}

-- the seventh batch, with a body of three bytes, so far on its way
abbrev pub seventh : Stage → Sending
seventh stage = record { number = 7; body = 1 ∷ 2 ∷ 3 ∷ []; retry = usual; stage = stage }

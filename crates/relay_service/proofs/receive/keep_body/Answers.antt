use Rattle.std.proofs.Common.{refl}
use Rattle.relay_service.specs.Receives.{Keeps}
use Rattle.relay_service.proofs.receive.keep_body.Goals as goal

pub returns-in-Ok : goal.returns-in-Ok
returns-in-Ok g c = Keeps.kept c.in-Ok.ensures.kept refl

pub returns-in-Err-Full : goal.returns-in-Err-Full
returns-in-Err-Full g c =
    Keeps.full (c.keep.ensures.full (rw (c.in-Err-Full.is, c.in-Err-Full.field-0-is) refl)) refl
    (c.keep.ensures.full_same (rw (c.in-Err-Full.is, c.in-Err-Full.field-0-is) refl))

pub returns-in-Err-OutOfMemory : goal.returns-in-Err-OutOfMemory
returns-in-Err-OutOfMemory g c =
    Keeps.no_memory refl
    (c.keep.ensures.memory_same
    (rw (c.in-Err-OutOfMemory.is, c.in-Err-OutOfMemory.field-0-is) refl))

pub returns-in-Err-Failed : goal.returns-in-Err-Failed
returns-in-Err-Failed g c =
    Keeps.failed
    (c.keep.ensures.failed (rw (c.in-Err-Failed.is, c.in-Err-Failed.field-0-is) refl)) refl

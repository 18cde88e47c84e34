use Rattle.std.proofs.Common.{refl}
use Rattle.otlp_span.proofs.slip.EntriesIterator.next.Goals as goal

pub same-self-in_default : goal.same-self-in_default
same-self-in_default g c = refl

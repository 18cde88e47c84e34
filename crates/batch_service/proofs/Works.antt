-- Turns, one after the other, and names between them.
use Rattle.std.proofs.Common.{◌≡◌, List, refl}
use Rattle.std.specs.Prelude.{Option}
use Rattle.model_span.specs.Dropped.{Entry}
use Rattle.model_processor.specs.Passes.{PassAccount, after_drain}
use Rattle.span_exporter.specs.Handed.{Handed}
use Rattle.drop_ledger.specs.Named.{Named}
use Rattle.batch_processor.specs.Working.{GoesOn, Work}
use Rattle.batch_processor.proofs.Turns.{goes_on, goes_quiet}
use Rattle.batch_service.specs.Working.{GainsNames, ThreadState, WorksOn, both_names, state_of}
use Rattle.batch_service.proofs.Names.{gives_both, gives_more, gives_none}

-- A worker's thread that does nothing works as its contract says.
pub works_none : (s : ThreadState) → WorksOn s s
works_none s = record {
  goes_on = goes_quiet s.handed s.handed s.work s.work refl refl refl refl refl (λ _. refl);
  names = gives_none s.named s.names;
}

-- Two stretches of a thread's work, one after the other, are one.
pub works_more : (a b d : ThreadState) → WorksOn a b → WorksOn b d → WorksOn a d
works_more a b d first second = record {
  goes_on = goes_on a.handed b.handed d.handed a.work b.work d.work first.goes_on second.goes_on;
  names = gives_more a.named b.named d.named a.names b.names d.names first.names second.names;
}

-- A thread that only gives names, of both kinds, works as its contract says.
pub gives_only : (handed : Option (List Handed)) (work : Work) (ds ls : List Entry)
    (s u : Option Named) (x y : PassAccount)
    → y ≡ after_drain ds ls x → GainsNames (both_names ds ls) s u
    → WorksOn (state_of handed s work x) (state_of handed u work y)
gives_only handed work ds ls s u x y popped gains = record {
  goes_on = goes_quiet handed handed work work refl refl refl refl refl (λ _. refl);
  names = gives_both ds ls s u x y popped gains;
}

-- A turn with more work after it is one stretch of work.
pub turns_then : (handed handed' : Option (List Handed)) (work work' : Work) (s : Option Named)
    (x : PassAccount) (d : ThreadState)
    → GoesOn handed handed' work work' → WorksOn (state_of handed' s work' x) d
    → WorksOn (state_of handed s work x) d
turns_then handed handed' work work' s x d turn then =
    works_more (state_of handed s work x) (state_of handed' s work' x) d
    (record { goes_on = turn; names = gives_none s x }) then

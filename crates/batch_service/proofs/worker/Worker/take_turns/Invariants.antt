use Rattle.batch_processor.specs.Working.{IsPrepared}
use Rattle.batch_service.specs.Working.{WorksOn, state_of}
use Rattle.batch_service.proofs.worker.Worker.take_turns.Given as goal

-- another turn may be taken, and work went on so far
abbrev pub invariant-loop-turn : goal.invariant-loop-turn
invariant-loop-turn g l =
    IsPrepared (g.E.Exporter.room l.self.exporter) l.self.worker
    × WorksOn (state_of (g.E.Exporter.handed l.initial.self.exporter)
    (g.S.NameSink.named l.initial.self.sink) l.initial.self.worker l.initial.self.names)
    (state_of (g.E.Exporter.handed l.self.exporter)
    (g.S.NameSink.named l.self.sink) l.self.worker l.self.names)

use Rattle.trace_demo.proofs.soak.soak.Given as goal

-- the type that stands for the processor's name has the blank's
abbrev pub ghosts-run : goal.ghosts-run
ghosts-run g a = record { name = a.blank }

use Rattle.otlp_relay.proofs.main.Given as goal

-- the type that stands for the relay's name has the blank's
abbrev pub ghosts-run_relay : goal.ghosts-run_relay
ghosts-run_relay g a = record { name = a.blank }

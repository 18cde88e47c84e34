use Rattle.batch_service.proofs.serving.serve_within.Given as goal

-- the type that names a processor has the blank's name
abbrev pub ghosts-serve_within_as : goal.ghosts-serve_within_as
ghosts-serve_within_as g a = record { name = a.blank }

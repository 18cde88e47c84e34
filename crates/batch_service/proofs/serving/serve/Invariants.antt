use Rattle.batch_service.proofs.serving.serve.Given as goal

-- the type that names a processor has the blank's name
abbrev pub ghosts-serve_as : goal.ghosts-serve_as
ghosts-serve_as g a = record { name = a.blank }

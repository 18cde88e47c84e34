use Rattle.test_processor.proofs.batch.threads.carry_out.Given as goal

abbrev pub ghosts-carry : goal.ghosts-carry
ghosts-carry g a = record { name = a.blank }

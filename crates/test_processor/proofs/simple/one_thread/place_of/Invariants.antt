use Rattle.test_processor.proofs.simple.one_thread.place_of.Given as goal

abbrev pub ghosts-play : goal.ghosts-play
ghosts-play g a = record { name = a.blank }

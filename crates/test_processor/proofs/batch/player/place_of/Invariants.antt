use Rattle.test_processor.proofs.batch.player.place_of.Given as goal

abbrev pub ghosts-play : goal.ghosts-play
ghosts-play g a = record { name = a.blank }

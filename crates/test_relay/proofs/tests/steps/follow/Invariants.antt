use Rattle.test_relay.proofs.tests.steps.follow.Given as goal

abbrev pub ghosts-play : goal.ghosts-play
ghosts-play g a = record { name = a.blank }

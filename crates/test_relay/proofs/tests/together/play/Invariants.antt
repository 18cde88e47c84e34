use Rattle.test_relay.proofs.tests.together.play.Given as goal

abbrev pub ghosts-round : goal.ghosts-round
ghosts-round g a = record { name = a.blank }

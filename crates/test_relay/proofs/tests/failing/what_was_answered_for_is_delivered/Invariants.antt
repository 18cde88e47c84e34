use Rattle.test_relay.proofs.tests.failing.what_was_answered_for_is_delivered.Given as goal

abbrev pub ghosts-run : goal.ghosts-run
ghosts-run g a = record { name = a.blank }

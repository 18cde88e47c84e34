use Rattle.test_relay.proofs.tests.threads.thousands_of_bodies_are_kept_while_others_are_sent.Given
    as goal

abbrev pub ghosts-post_and_send : goal.ghosts-post_and_send
ghosts-post_and_send g a = record { name = a.blank }

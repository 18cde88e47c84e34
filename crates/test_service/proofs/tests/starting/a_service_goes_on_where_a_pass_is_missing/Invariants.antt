use Rattle.test_service.proofs.tests.starting.a_service_goes_on_where_a_pass_is_missing.Given
    as goal

abbrev pub ghosts-lead : goal.ghosts-lead
ghosts-lead g a = record { name = a.blank }

use Rattle.test_service.proofs.tests.thread_paths.+nest.Given as goal

abbrev pub decreases-nest : goal.decreases-nest
decreases-nest g l = l.more

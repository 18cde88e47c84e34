use Rattle.test_service.proofs.tests.thread_paths.end_all.Given as goal

abbrev pub decreases-loop-span : goal.decreases-loop-span
decreases-loop-span g l = goal.left-loop-span g l

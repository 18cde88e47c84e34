use Rattle.test_processor.proofs.simple.threads.each_span_of_four_threads_is_handed_and_a_flush_waits_for_an_export.Given
    as goal

abbrev pub ghosts-run : goal.ghosts-run
ghosts-run g a = record { name = a.blank }

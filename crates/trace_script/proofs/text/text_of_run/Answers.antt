use Rattle.trace_script.proofs.text.text_of_run.Goals as goal

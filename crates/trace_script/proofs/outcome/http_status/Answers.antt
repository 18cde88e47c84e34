use Rattle.std.proofs.Common.{rules}
use Rattle.text_words.specs.Words.{number_below}
use Rattle.trace_script.proofs.outcome.http_status.Goals as goal

pub returns-in_err-number : goal.returns-in_err-number
unfolding number_below
returns-in_err-number c = search rules

pub returns : goal.returns
unfolding number_below
returns c = search rules

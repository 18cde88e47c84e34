use Rattle.std.proofs.Common.{rules, sym}
use Rattle.otlp_serve.proofs.AnswerLemmas.{before_none, before_first}
use Rattle.otlp_serve.proofs.answer.before.Goals as goal

pub returns-in-Some : goal.returns-in-Some
returns-in-Some c =
    sym (before_first c.args.stop c.args.text.now c.in-Some.at (search rules) (search rules)
    (search rules))

pub returns-in-None : goal.returns-in-None
returns-in-None c = sym (before_none c.args.stop c.args.text.now (search rules))

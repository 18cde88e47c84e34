use Rattle.std.proofs.Common.{arith, rules, codes, refl}
use Rattle.std.proofs.lemmas.Slice.Eq.{text_from_reads}
use Rattle.trace_script.specs.Contexts.{is_remote_of}
use Rattle.trace_script.proofs.context.parse_side.Goals as goal

pub returns-in-remote : goal.returns-in-remote
unfolding is_remote_of
returns-in-remote c =
    rw (text_from_reads c.args.side.now (codes "remote") (omega arith) (search rules)) refl

pub returns-in-local : goal.returns-in-local
unfolding is_remote_of
returns-in-local c =
    rw (text_from_reads c.args.side.now (codes "local") (omega arith) (search rules)) refl

use Rattle.std.proofs.Common.{arith, rules, codes, refl}
use Rattle.std.proofs.lemmas.Slice.Eq.{text_from_reads}
use Rattle.trace_script.specs.Lines.{sampler_of}
use Rattle.trace_script.proofs.line.parse_sampler_name.Goals as goal

pub returns-in-parent : goal.returns-in-parent
unfolding sampler_of
returns-in-parent c =
    rw (text_from_reads c.args.word.now (codes "parent") (omega arith) (search rules)) refl

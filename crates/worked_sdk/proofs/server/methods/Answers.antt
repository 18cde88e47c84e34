use Rattle.std.proofs.Common.{refl}
use Rattle.httparse.specs.Grammar.{trim_ows}
use Rattle.trace_context.specs.Tracestate.{entries_in}
use Rattle.worked_sdk.proofs.server.methods.Goals as goal

pub returns-clause-two : goal.returns-clause-two
unfolding entries_in trim_ows
returns-clause-two c = refl

pub returns-clause-blanks : goal.returns-clause-blanks
unfolding entries_in trim_ows
returns-clause-blanks c = refl

pub returns-clause-empty : goal.returns-clause-empty
unfolding entries_in trim_ows
returns-clause-empty c = refl

pub returns-clause-commas : goal.returns-clause-commas
unfolding entries_in trim_ows
returns-clause-commas c = refl

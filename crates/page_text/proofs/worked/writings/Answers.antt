use Rattle.std.proofs.Common.{refl}
use Rattle.page_text.specs.Written.{char_markup}
use Rattle.page_text.proofs.worked.writings.Goals as goal

pub returns-clause-script : goal.returns-clause-script
unfolding char_markup
returns-clause-script c = refl

pub returns-clause-twice : goal.returns-clause-twice
unfolding char_markup
returns-clause-twice c = refl

pub returns-clause-quotes : goal.returns-clause-quotes
unfolding char_markup
returns-clause-quotes c = refl

pub returns-clause-nul : goal.returns-clause-nul
unfolding char_markup
returns-clause-nul c = refl

pub returns-clause-turned : goal.returns-clause-turned
unfolding char_markup
returns-clause-turned c = refl

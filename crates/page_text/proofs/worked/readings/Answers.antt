use Rattle.std.proofs.Common.{refl}
use Rattle.page_text.specs.Pages.{read_text}
use Rattle.page_text.proofs.worked.readings.Goals as goal

pub returns-clause-plain : goal.returns-clause-plain
unfolding read_text
returns-clause-plain c = refl

pub returns-clause-reference : goal.returns-clause-reference
unfolding read_text
returns-clause-reference c = refl

pub returns-clause-once : goal.returns-clause-once
unfolding read_text
returns-clause-once c = refl

pub returns-clause-quotes : goal.returns-clause-quotes
unfolding read_text
returns-clause-quotes c = refl

pub returns-clause-less_in_a_value : goal.returns-clause-less_in_a_value
unfolding read_text
returns-clause-less_in_a_value c = refl

pub returns-clause-quote_in_content : goal.returns-clause-quote_in_content
unfolding read_text
returns-clause-quote_in_content c = refl

pub returns-clause-other_quote : goal.returns-clause-other_quote
unfolding read_text
returns-clause-other_quote c = refl

pub returns-clause-tag : goal.returns-clause-tag
unfolding read_text
returns-clause-tag c = refl

pub returns-clause-end_of_value : goal.returns-clause-end_of_value
unfolding read_text
returns-clause-end_of_value c = refl

pub returns-clause-end_of_quoted : goal.returns-clause-end_of_quoted
unfolding read_text
returns-clause-end_of_quoted c = refl

pub returns-clause-unfinished : goal.returns-clause-unfinished
unfolding read_text
returns-clause-unfinished c = refl

pub returns-clause-carriage_return : goal.returns-clause-carriage_return
unfolding read_text
returns-clause-carriage_return c = refl

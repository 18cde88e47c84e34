use Rattle.std.proofs.Common.{ap, ◌∙◌, Vec}
use Rattle.text_words.specs.Words.{utf8_of}
use Rattle.text_words.proofs.Texts.{of_text, of_no_text}
use Rattle.text_words.proofs.utf8.Goals as goal

pub returns-in-Ok : goal.returns-in-Ok
returns-in-Ok g c = of_text c.in-Ok.text ∙ ap (λ (v : Vec _ _). utf8_of v.items) c.in-Ok.ensures.ok

pub returns : goal.returns
returns g c = of_no_text c.args.bytes.items (λ text. cc (c.in-Err.ensures.succeeds text))

use Rattle.std.proofs.Common.{◌∙◌, sym, ap}
use Rattle.std.specs.Option.{ok_or}
use Rattle.text_words.specs.declared.WordFault.TheVariants.{Bad}
use Rattle.text_words.proofs.Numbers.{digits_are_text, number_parsed}
use Rattle.text_words.proofs.number.Goals as goal

pub returns-in_default : goal.returns-in_default
returns-in_default c =
    absurd (c.in_default.ensures.cases.0
    (digits_are_text c.args.word.now (sym c.is_digits.ensures ∙ c.if-not-is_digits.false)))

pub returns : goal.returns
returns c =
    let digits = sym c.is_digits.ensures ∙ c.if-not-is_digits.false in
    let parsed =
    number_parsed c.args.word.now _
    (rw c.in-Ok.ensures.cases.0 at c.parse.ensures.value.0) digits in
    c.ok_or.ensures.value ∙ ap (λ n. ok_or n Bad) (c.ok.ensures.value ∙ parsed)

use Rattle.std.proofs.Common.{◌≡◌, ◌==◌, ◌+◌, ◌-◌, length, take, drop, refl, sym, ◌∙◌, rules, tests}
use Rattle.std.proofs.Common.{arith, length-drop}
use Rattle.std.proofs.lemmas.List.{take_all}
use Rattle.std.proofs.lemmas.Iterator.{YieldsList-from_slice}
use Rattle.std.proofs.lemmas.Iterator.Search.{position_from_yields_List}
use Rattle.text_words.proofs.parts.around_first.Goals as goal

pub returns-in_err-place : goal.returns-in_err-place
returns-in_err-place c =
    let found =
    position_from_yields_List (λ b. b == c.args.separator) _ _ _ c.position.ensures.ran
    (YieldsList-from_slice c.args.text.now c.iter.ensures.rest)
    (λ x b q k. search (rules, tests)) in
    rw (c.from_residual.ensures, sym found ∙ c.in_err-place.was) refl

pub returns : goal.returns
returns c =
    let found =
    position_from_yields_List (λ b. b == c.args.separator) _ _ _ c.position.ensures.ran
    (YieldsList-from_slice c.args.text.now c.iter.ensures.rest)
    (λ x b q k. search (rules, tests)) in
    let appended = c.in_ok-place.place + 1 in
    let rest : take (length c.args.text.now - appended) (drop appended c.args.text.now)
    ≡ drop appended c.args.text.now =
    take_all _ _ (omega (arith, length-drop appended c.args.text.now)) in
    rw (rest, sym found ∙ c.in_ok-place.was) refl

use Rattle.std.proofs.Common.{refl}
use Rattle.std.specs.Fmt.{digits}
use Rattle.page_text.specs.Doubles.{decimal_text, divided_text, page_text, sign_text, size_text}
use Rattle.page_text.specs.Doubles.{times_text, decimal_from, digits_of, large_text, small_text}
use Rattle.page_text.proofs.worked_double.doubles.Goals as goal

pub returns-clause-zero : goal.returns-clause-zero
unfolding page_text size_text sign_text decimal_text times_text divided_text decimal_from
    digits_of large_text small_text digits
returns-clause-zero c = refl

pub returns-clause-minus_zero : goal.returns-clause-minus_zero
unfolding page_text size_text sign_text decimal_text times_text divided_text decimal_from
    digits_of large_text small_text digits
returns-clause-minus_zero c = refl

pub returns-clause-one : goal.returns-clause-one
unfolding page_text size_text sign_text decimal_text times_text divided_text decimal_from
    digits_of large_text small_text digits
returns-clause-one c = refl

pub returns-clause-two_and_a_half : goal.returns-clause-two_and_a_half
unfolding page_text size_text sign_text decimal_text times_text divided_text decimal_from
    digits_of large_text small_text digits
returns-clause-two_and_a_half c = refl

pub returns-clause-tenth : goal.returns-clause-tenth
unfolding page_text size_text sign_text decimal_text times_text divided_text decimal_from
    digits_of large_text small_text digits
returns-clause-tenth c = refl

pub returns-clause-third : goal.returns-clause-third
unfolding page_text size_text sign_text decimal_text times_text divided_text decimal_from
    digits_of large_text small_text digits
returns-clause-third c = refl

pub returns-clause-pi : goal.returns-clause-pi
unfolding page_text size_text sign_text decimal_text times_text divided_text decimal_from
    digits_of large_text small_text digits
returns-clause-pi c = refl

pub returns-clause-minus : goal.returns-clause-minus
unfolding page_text size_text sign_text decimal_text times_text divided_text decimal_from
    digits_of large_text small_text digits
returns-clause-minus c = refl

pub returns-clause-micro : goal.returns-clause-micro
unfolding page_text size_text sign_text decimal_text times_text divided_text decimal_from
    digits_of large_text small_text digits
returns-clause-micro c = refl

pub returns-clause-large : goal.returns-clause-large
unfolding page_text size_text sign_text decimal_text times_text divided_text decimal_from
    digits_of large_text small_text digits
returns-clause-large c = refl

pub returns-clause-least : goal.returns-clause-least
unfolding page_text size_text sign_text decimal_text times_text divided_text decimal_from
    digits_of large_text small_text digits
returns-clause-least c = refl

pub returns-clause-greatest : goal.returns-clause-greatest
unfolding page_text size_text sign_text decimal_text times_text divided_text decimal_from
    digits_of large_text small_text digits
returns-clause-greatest c = refl

pub returns-clause-infinite : goal.returns-clause-infinite
unfolding page_text size_text sign_text decimal_text times_text divided_text decimal_from
    digits_of large_text small_text digits
returns-clause-infinite c = refl

pub returns-clause-minus_infinite : goal.returns-clause-minus_infinite
unfolding page_text size_text sign_text decimal_text times_text divided_text decimal_from
    digits_of large_text small_text digits
returns-clause-minus_infinite c = refl

pub returns-clause-no_number : goal.returns-clause-no_number
unfolding page_text size_text sign_text decimal_text times_text divided_text decimal_from
    digits_of large_text small_text digits
returns-clause-no_number c = refl

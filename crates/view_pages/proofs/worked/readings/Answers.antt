use Rattle.std.proofs.Common.{refl}
use Rattle.view_pages.specs.Reading.{places_in}
use Rattle.view_pages.proofs.worked.readings.Goals as goal

pub returns-clause-empty : goal.returns-clause-empty
unfolding places_in
returns-clause-empty c = refl

pub returns-clause-none : goal.returns-clause-none
unfolding places_in
returns-clause-none c = refl

pub returns-clause-two : goal.returns-clause-two
unfolding places_in
returns-clause-two c = refl

pub returns-clause-twice : goal.returns-clause-twice
unfolding places_in
returns-clause-twice c = refl

pub returns-clause-text : goal.returns-clause-text
unfolding places_in
returns-clause-text c = refl

pub returns-clause-no_tag : goal.returns-clause-no_tag
unfolding places_in
returns-clause-no_tag c = refl

pub returns-clause-other : goal.returns-clause-other
unfolding places_in
returns-clause-other c = refl

pub returns-clause-number : goal.returns-clause-number
returns-clause-number c = refl

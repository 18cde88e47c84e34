use Rattle.std.proofs.Common.{◌≡◌, ℕ, ◌-◌, drop, length, zero}
use Rattle.view_query.specs.Reading.{put_before, terms_in, terms_of}
use Rattle.view_query.specs.Terms.{terms_view}
use Rattle.view_query.specs.Words.{words_after}
use Rattle.view_query.proofs.query.Query.parse.Given as goal

-- the terms, and then those of the words that are left, are those of the text
abbrev pub invariant-loop-at : goal.invariant-loop-at
invariant-loop-at g l =
    put_before (terms_view l.terms.items) (terms_in (words_after l.at zero (drop l.at l.bytes)))
    ≡ terms_of l.bytes

abbrev pub decreases-loop-at : goal.decreases-loop-at
decreases-loop-at g l = length l.bytes - l.at

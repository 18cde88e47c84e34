use Rattle.std.proofs.Common.{sym, rules}
use Rattle.text_words.proofs.Texts.{goes_on, stops, is_done}
use Rattle.text_words.proofs.unescaped.Goals as goal

pub returns-in_default : goal.returns-in_default
returns-in_default g c =
    stops c.loop-rest.bytes.items c.loop-rest.rest.now _ (search rules)
    (sym c.in_default.ensures) c.loop-rest.invariant

pub loop-rest-preserved : goal.loop-rest-preserved
loop-rest-preserved g c =
    rw c.in_ok-push.ensures.items
    (goes_on c.loop-rest.bytes.items c.loop-rest.rest.now c.in-Some.after.now c.in-Some.byte _
    (sym c.in-Some.ensures) c.loop-rest.invariant)

pub returns : goal.returns
returns g c =
    is_done c.loop-rest.bytes.items c.loop-rest.rest.now _ (search rules) c.loop-rest.invariant

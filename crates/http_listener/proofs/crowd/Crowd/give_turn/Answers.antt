use Rattle.std.proofs.Common.{arith, rules}
use Rattle.std.proofs.lemmas.Grind.{common_steps}
use Rattle.http_listener.proofs.Living.{lives-or-gone, lives-shut, lives-with}
use Rattle.http_listener.proofs.crowd.Crowd.give_turn.Goals as goal

pub returns-in-Waits-clause-lives : goal.returns-in-Waits-clause-lives
returns-in-Waits-clause-lives g c =
    lives-with c.args.self.now.peers c.args.key c.in-Some.peer.now c.turn-turn.new.self
    (first_of (search rules, grind (arith, common_steps)))
    (λ live. c.in-Waits.ensures.lives live
    (first_of (search rules, grind (arith, common_steps))))

pub returns-in-Again-clause-lives : goal.returns-in-Again-clause-lives
returns-in-Again-clause-lives g c lives =
    lives-or-gone _ _ c.watch.ensures.peer
    (lives-with c.args.self.now.peers c.args.key c.in-Some.peer.now c.turn-turn.new.self
    (first_of (search rules, grind (arith, common_steps)))
    (λ live. c.in-Again.ensures.lives live
    (first_of (search rules, grind (arith, common_steps)))) lives)

pub returns-in-ShutsDown-clause-lives : goal.returns-in-ShutsDown-clause-lives
returns-in-ShutsDown-clause-lives g c lives =
    lives-or-gone _ _ c.watch-in-ShutsDown.ensures.peer
    (lives-shut _ _ _ c.shut_down.ensures.shut
    (lives-with c.args.self.now.peers c.args.key c.in-Some.peer.now c.turn-turn.new.self
    (first_of (search rules, grind (arith, common_steps)))
    (λ live. c.in-ShutsDown.ensures.lives live
    (first_of (search rules, grind (arith, common_steps)))) lives))

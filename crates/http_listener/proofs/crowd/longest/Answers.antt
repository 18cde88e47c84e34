use Rattle.std.proofs.Common.{◌≡◌, ◌∙◌, ◌∷◌, [], ℕ, Bool, List, ap, arith, rules, subst, sym}
use Rattle.std.proofs.Common.{true, false}
use Rattle.std.proofs.lemmas.Grind.{common_steps}
use Rattle.std.specs.Prelude.{if◌then◌else◌}
use Rattle.slab.specs.Slab.{entries}
use Rattle.http_listener.specs.Crowds.{is_looked_at, waiter_of}
use Rattle.http_listener.specs.declared.clock.PeerClock.{PeerClock}
use Rattle.http_listener.specs.declared.longest.Waiter.{Waiter}
use Rattle.http_listener.proofs.Looking.{Looked, looked-next, looked-none, looked-other}
use Rattle.http_listener.proofs.crowd.longest.Goals as goal

-- one that waits, as a list
abbrev one : ℕ → PeerClock → List Waiter
one key clock = record { key = key; since_ms = clock.since_ms } ∷ []

pub loop-key-init : goal.loop-key-init
loop-key-init g c =
    let same : c.into_iter-key-iterator.result ≡ entries c.args.peers.now =
    first_of (search rules, grind (arith, common_steps)) in
    subst (λ rest. Looked c.args.only_idle (entries c.args.peers.now) rest
    c.new-longest.result.found)
    (sym same)
    (looked-none c.args.only_idle (entries c.args.peers.now) _ c.new-longest.ensures)

pub loop-key-preserved-then-is_looked_at : goal.loop-key-preserved-then-is_looked_at
loop-key-preserved-then-is_looked_at g c =
    let here : c.loop-key.key-iterator ≡ (c.in-Some.key, c.in-Some.peer.now) ∷ c.next.new.self =
    first_of (search rules, grind (arith, common_steps)) in
    let looked : is_looked_at c.args.only_idle c.in-Some.peer.now.clock.stage ≡ true =
    first_of (search rules, grind (arith, common_steps)) in
    looked-next c.args.only_idle (entries c.args.peers.now)
    (c.in-Some.key, c.in-Some.peer.now) c.next.new.self _ _ _
    (ap (λ (b : Bool).
    if b then waiter_of (c.in-Some.key, c.in-Some.peer.now) ∷ [] else []) looked
    ∙ ap (λ (clock : PeerClock). one c.in-Some.key clock) (sym c.clock-clock.ensures))
    c.look.ensures
    (subst (λ rest. Looked c.args.only_idle (entries c.args.peers.now) rest
    c.loop-key.longest.found) here c.loop-key.invariant)

pub loop-key-preserved : goal.loop-key-preserved
loop-key-preserved g c =
    let here : c.loop-key.key-iterator ≡ (c.in-Some.key, c.in-Some.peer.now) ∷ c.next.new.self =
    first_of (search rules, grind (arith, common_steps)) in
    let looked : is_looked_at c.args.only_idle c.in-Some.peer.now.clock.stage ≡ false =
    first_of (search rules, grind (arith, common_steps)) in
    looked-other c.args.only_idle (entries c.args.peers.now)
    (c.in-Some.key, c.in-Some.peer.now) c.next.new.self _
    (ap (λ (b : Bool).
    if b then waiter_of (c.in-Some.key, c.in-Some.peer.now) ∷ [] else []) looked)
    (subst (λ rest. Looked c.args.only_idle (entries c.args.peers.now) rest
    c.loop-key.longest.found) here c.loop-key.invariant)

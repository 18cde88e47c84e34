-- A batch that is taken, by what the desk says of it.
use Rattle.std.proofs.Common.{◌≡◌, refl, sym, ap, ◌∙◌, ℕ, ◌+◌, List, [], ◌++◌, Bool, true, false}
use Rattle.std.proofs.Common.{◌↔◌, take}
use Rattle.std.specs.Prelude.{IsTrue, IfSome, Option, Some, None, if◌then◌else◌}
use Rattle.model_body.specs.Histories.{Turn, idle, is_out, again, taken, joined}
use Rattle.model_body.specs.Desks.{BodyDesk, Does, IsNext}
use Rattle.relay_queue.specs.Bodies.{MayTake}
use Rattle.relay_queue.specs.Senders.{Sender, to_send, capped_64}
use Rattle.relay_queue.specs.Steps.{Takes, is_again}
use Rattle.relay_queue.proofs.Stages.{again_turn, other_turn}

again-is : (b : Bool) (t : Turn) → IsTrue b ↔ (t ≡ again) → b ≡ is_again t
again-is true t h = sym (again_turn t (h.0 refl))
again-is false t h = sym (other_turn t (λ e. absurd-false (h.1 e)))
  where
    absurd-false : false ≡ true → ⊥
    absurd-false e = cc

again-size : (t : Turn) (desk : BodyDesk) (n : ℕ) → t ≡ again → IsNext t desk n → n ≡ desk.size
again-size idle desk n e h = absurd cc
again-size is_out desk n e h = absurd cc
again-size again desk n e h = h

-- A sender that has these bytes, and these counts, took a batch.
pub takes_next : (s s' : Sender) (desk desk' : BodyDesk) (b : Bool) (n : ℕ)
    → IsTrue b ↔ (desk.turn ≡ again) → MayTake desk n
    → s' ≡ record s {
      body = s'.body;
      number = if b then s.number else capped_64 (s.number + 1);
      attempts = if b then s.attempts else 0;
      stage = to_send;
    }
    → s'.body ≡ joined (take n desk.kept)
    → desk' ≡ record desk { turn = is_out; size = n } → Does (taken n) desk desk'
    → Takes s desk s' desk'
takes_next s s' desk desk' b n is may e bytes desk-is does =
    let same : b ≡ is_again desk.turn = again-is b desk.turn is in
    record {
      count = n;
      may = may;
      body = bytes;
      repeats = λ a.
          bytes
          ∙ ap (λ k. joined (take k desk.kept)) (again-size desk.turn desk n a may.1);
      sender =
          e
          ∙ ap (λ v. record s {
            body = s'.body;
            number = if v then s.number else capped_64 (s.number + 1);
            attempts = if v then s.attempts else 0;
            stage = to_send;
          })
          same;
      desk_is = desk-is;
      history = does;
    }

-- The same, where the desk's answer is an option.
pub takes_some : (s s' : Sender) (desk desk' : BodyDesk) (b : Bool) (o : Option ℕ) (n : ℕ)
    (had : List ℕ) → o ≡ Some n → had ≡ [] → IsTrue b ↔ (desk.turn ≡ again)
    → IfSome o (MayTake desk)
    → s' ≡ record s {
      body = s'.body;
      number = if b then s.number else capped_64 (s.number + 1);
      attempts = if b then s.attempts else 0;
      stage = to_send;
    }
    → IfSome o (λ k. s'.body ≡ had ++ joined (take k desk.kept))
    → IfSome o (λ k. desk' ≡ record desk { turn = is_out; size = k })
    → IfSome o (λ k. Does (taken k) desk desk')
    → Takes s desk s' desk'
takes_some s s' desk desk' b None n had some empty is may e bytes desk-is does = absurd cc
takes_some s s' desk desk' b (Some k) n had some empty is may e bytes desk-is does =
    takes_next s s' desk desk' b k is may e
    (bytes ∙ ap (λ l. l ++ joined (take k desk.kept)) empty) desk-is does

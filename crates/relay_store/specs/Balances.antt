-- What became of all bodies, for every interleaving of the calls of those who share what is kept.
-- (profile)
use Rattle.std.specs.Prelude.{◌≡◌, ℕ, ◌+◌, ◌≤◌, Bool, not, List, map, filter, Option, true, false}
use Rattle.std.specs.Prelude.{length}
use Rattle.model_message.specs.Messages.{Triple}
use Rattle.model_desk.specs.Desks.{is_loss}
use Rattle.model_body.specs.Laws.{span_count}
use Rattle.model_body.specs.Desks.{BodyDesk}
use Rattle.relay_store.specs.declared.holdings.Holdings.{Holdings}
use Rattle.relay_store.specs.Accounts.{Sent, given_up}
use Rattle.relay_store.specs.Agreement.{Agrees, AreInOrder, came_of}

-- the bodies of which it was noted that a collector took them, in whole or in part (OTLP
-- Specification, OTLP/HTTP Response)
abbrev pub delivered_in : Sent → List (List ℕ)
delivered_in sent = map (λ e. e.0) (filter (λ e. not (is_loss e.1)) sent.ended)

-- The bodies that are lost by an outcome. The call that noted it gave the names of their spans.
abbrev pub lost_in : Sent → List (List ℕ)
lost_in sent = map (λ e. e.0) (filter (λ e. is_loss e.1) sent.ended)

-- What became of the bodies of a spool, of which at most so many wait: those that waited at the
-- start, followed by those that were kept, are those that ended, followed by those that wait. So
-- their spans are those of bodies that a collector took, that are lost, or that wait, each as
-- often.
pub record SpoolBalances (kept : ℕ) (posted : List (List ℕ)) (sent : Sent) : Type 0 where
  pub waits : List (List ℕ)
  pub few : length waits ≤ kept
  pub in_order : AreInOrder posted sent waits
  pub spans : (is_it : Triple → Bool)
      → span_count is_it sent.at_start + span_count is_it posted
      ≡ span_count is_it (delivered_in sent) + span_count is_it (lost_in sent)
      + span_count is_it waits

-- What three accounts imply of what was kept in one hold, in a spool or not: the spans of the
-- bodies that came to the desk are those of bodies that a collector took, that are lost, that went
-- back to the spool, that were given up, or that are kept there, each as often. (The calls that
-- noted the lost and the given-up ones gave the names of their spans.) Of a spool that never
-- failed, over a device that is known, all bodies are known.
pub record Balances (known : Type 0) (holdings : Holdings) (posted : List (List ℕ)) (sent : Sent)
    (gave : Option (List (List ℕ))) : Type 0 where
  pub desk : BodyDesk
  pub is_closed : Bool
  pub agrees : Agrees desk holdings.is_spooled is_closed posted sent gave
  pub spans : (is_it : Triple → Bool)
      → span_count is_it (came_of holdings.is_spooled posted sent)
      ≡ span_count is_it (delivered_in sent) + span_count is_it (lost_in sent)
      + span_count is_it sent.returned + span_count is_it (given_up gave)
      + span_count is_it desk.kept
  pub in_memory : holdings.is_spooled ≡ false → holdings.kept ≡ length desk.kept
  pub in_spool : known → holdings.is_spooled ≡ true → holdings.has_ever_failed ≡ false
      → SpoolBalances holdings.kept posted sent

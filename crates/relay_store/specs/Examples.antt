-- What the worked values are about, written by hand.
use Rattle.std.specs.Prelude.{ℕ, List, [], ◌∷◌}
use Rattle.model_desk.specs.Retries.{Cause, Fate, Next}
use Rattle.model_body.specs.Histories.{is_out}
use Rattle.relay_store.specs.Accounts.{Sent}

-- a body of one byte
abbrev pub one : List ℕ
one = 1 ∷ []

-- another one
abbrev pub two : List ℕ
two = 2 ∷ []

-- the batch of both is out
abbrev pub both_out : Sent
both_out =
    record {
      at_start = one ∷ [];
      turn = is_out;
      batch = one ∷ two ∷ [];
      read = [];
      ended = [];
      returned = [];
    }

-- The first one was delivered, and the second one is out, alone.
abbrev pub second_out : Sent
second_out = record {
  at_start = one ∷ [];
  turn = is_out;
  batch = two ∷ [];
  read = [];
  ended = (one, Fate.delivered) ∷ [];
  returned = [];
}

-- a collector refused the batch
abbrev pub refused : Next
refused = Next.give_up (Cause.refused 400)

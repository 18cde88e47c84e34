-- What a desk of bodies shows, and what may be done at it. (profile)
use Rattle.std.specs.Prelude.{◌≡◌, ℕ, ◌+◌, ◌-◌, ◌^◌, ◌<◌, ◌≤◌, ◌≢◌, not, List, [], ◌∷◌, ◌++◌}
use Rattle.std.specs.Prelude.{length, take, drop, sum_by, count_by, if◌then◌else◌}
use Rattle.model_desk.specs.Retries.{Fate}
use Rattle.model_desk.specs.Desks.{is_loss}
use Rattle.model_body.specs.Histories.{BodyEvent, admitted, taken, later, settled, drained}
use Rattle.model_body.specs.Histories.{Turn, idle, is_out, again, turn, last_size, ends, joined}
use Rattle.model_body.specs.Histories.{admitted_bodies, kept_bodies, alone_count, is_split}
use Rattle.model_body.specs.Histories.{ended_count}

-- How many bytes a batch has at most, unless it is a single body, and how many all bodies that are
-- kept may take.
pub record BodyConfig : Type 0 where
  pub batch_bytes : ℕ
  pub memory_bytes : ℕ

-- what a body takes beside its bytes: its place in a line that may be half empty and be copied to a
-- longer one, and what an allocator adds
abbrev pub overhead : ℕ
overhead = 96

-- how much memory a body takes
abbrev pub body_size : List ℕ → ℕ
body_size body = length body + overhead

-- how much bodies take together
abbrev pub memory_of : List (List ℕ) → ℕ
memory_of bodies = sum_by body_size bodies

-- what is kept of bodies and of what was done with them
pub record BodyDesk : Type 0 where
  pub config : BodyConfig
  -- the bodies that are kept, in the order in which they were admitted
  pub kept : List (List ℕ)
  -- where the last batch is, and how many bodies it has, or 0
  pub turn : Turn
  pub size : ℕ
  -- how many of the kept bodies, the first ones, are to be sent alone
  pub alone : ℕ
  -- how many bodies were admitted, were delivered, and are lost
  pub admitted : ℕ
  pub delivered : ℕ
  pub lost : ℕ

-- What a desk of this configuration shows after some events.
unfoldable pub desk_of : BodyConfig → List BodyEvent → BodyDesk
desk_of config events = record {
  config = config;
  kept = kept_bodies events;
  turn = turn events;
  size = last_size events;
  alone = alone_count events;
  admitted = length (admitted_bodies events);
  delivered = count_by (λ fate. not (is_loss fate)) (ends events);
  lost = count_by is_loss (ends events);
}

-- a desk at which nothing was done yet
abbrev pub new_desk : BodyConfig → BodyDesk
new_desk config = record {
  config = config;
  kept = [];
  turn = idle;
  size = 0;
  alone = 0;
  admitted = 0;
  delivered = 0;
  lost = 0;
}

-- ---- the next batch

-- The first so many of these bodies are as many as fit into a batch, and at least one.
pub record Fit (limit : ℕ) (bodies : List (List ℕ)) (n : ℕ) : Type 0 where
  pub some : 1 ≤ n
  pub there : n ≤ length bodies
  pub within : 1 < n → length (joined (take n bodies)) ≤ limit
  pub greatest : n < length bodies → limit < length (joined (take (n + 1) bodies))

-- So many bodies are the next batch, where the last one ended: one, while there are bodies that are
-- to be sent alone, and else as many as fit.
pub record IsNew (desk : BodyDesk) (n : ℕ) : Type 0 where
  pub alone : 0 < desk.alone → n ≡ 1
  pub fits : desk.alone ≡ 0 → Fit desk.config.batch_bytes desk.kept n

-- So many bodies are the next batch, by where the last one is: none is taken while one is out, and
-- one that is to be sent again is the next one, of the same bodies.
abbrev pub IsNext : Turn → BodyDesk → ℕ → Type 0
IsNext idle desk n = IsNew desk n
IsNext is_out desk n = ⊥
IsNext again desk n = n ≡ desk.size

-- ---- what may be done

-- The body has room: the memory for all is not passed, and the count of admitted bodies keeps below
-- 2^64 - 1.
pub record HasRoom (desk : BodyDesk) (body : List ℕ) : Type 0 where
  pub memory : memory_of desk.kept + body_size body ≤ desk.config.memory_bytes
  pub count : desk.admitted < 2 ^ 64 - 1

-- What may be done at a desk.
abbrev pub Allowed : BodyDesk → BodyEvent → Type 0
Allowed desk (admitted body) = HasRoom desk body
Allowed desk (taken n) = (desk.kept ≢ []) × IsNext desk.turn desk n
Allowed desk later = desk.turn ≡ is_out
Allowed desk (settled fate) = desk.turn ≡ is_out
Allowed desk (drained n) = n ≡ length desk.kept

abbrev pub AreAllowedAfter : BodyConfig → List BodyEvent → List BodyEvent → Type 0
AreAllowedAfter config before [] = Unit {0}
AreAllowedAfter config before (x ∷ events) =
    Allowed (desk_of config before) x × AreAllowedAfter config (before ++ x ∷ []) events

-- each event is allowed after those before it
unfoldable pub AreAllowed : BodyConfig → List BodyEvent → Type 0
AreAllowed config events = AreAllowedAfter config [] events

-- ---- one more event

-- the desk after a batch ended: its bodies are kept no longer, or are to be sent alone
abbrev pub after_settled : Fate → BodyDesk → BodyDesk
after_settled fate desk =
    let n = ended_count fate desk.size in
    record desk {
      kept = drop n desk.kept;
      turn = idle;
      alone = if is_split fate desk.size then desk.size else desk.alone - desk.size;
      delivered = if is_loss fate then desk.delivered else desk.delivered + n;
      lost = if is_loss fate then desk.lost + n else desk.lost;
    }

-- what an event makes of a desk
abbrev pub after : BodyEvent → BodyDesk → BodyDesk
after (admitted body) desk = record desk {
  kept = desk.kept ++ body ∷ [];
  admitted = desk.admitted + 1;
}
after (taken n) desk = record desk { turn = is_out; size = n }
after later desk = record desk { turn = again }
after (settled fate) desk = after_settled fate desk
after (drained n) desk = record desk {
  kept = drop n desk.kept;
  turn = idle;
  alone = desk.alone - n;
  lost = desk.lost + n;
}

-- The desk shows what these events made of it, and each was allowed.
pub record IsDesk (events : List BodyEvent) (desk : BodyDesk) : Type 0 where
  pub allowed : AreAllowed desk.config events
  pub is : desk ≡ desk_of desk.config events

-- Whatever events the desk was the result of, it is now that of these with this one after them.
abbrev pub Does : BodyEvent → BodyDesk → BodyDesk → Type 0
Does event old new =
    (events : List BodyEvent) → IsDesk events old → IsDesk (events ++ event ∷ []) new

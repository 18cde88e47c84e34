-- What becomes of the bodies of requests that a relay keeps to hand them on, by what was done with
-- them and what was answered: which of them are kept, and how each of the others ended. (profile)
use Rattle.std.specs.Prelude.{ℕ, ◌+◌, ◌-◌, nat_lt, Bool, false, not, if◌then◌else◌, List, []}
use Rattle.std.specs.Prelude.{◌∷◌, ◌++◌, length, map, take, drop, filter, filter_map, flat_map, zip}
use Rattle.std.specs.Prelude.{replicate, Option, Some, None}
use Rattle.model_span.specs.Attributes.{last_or}
use Rattle.model_desk.specs.Retries.{Fate}
use Rattle.model_desk.specs.Desks.{is_loss}
use Rattle.model_body.specs.Names.{LostSpan, lost_names}

-- What was done. A list of these is a history, the first one first.
pub data BodyEvent : Type 0 where
  -- a body was admitted: these are its bytes
  admitted : List ℕ → BodyEvent
  -- a batch was taken to be sent: so many bodies of those that are kept, the first ones
  taken : ℕ → BodyEvent
  -- the batch that is out is to be sent again
  later : BodyEvent
  -- the batch that is out ended so
  settled : Fate → BodyEvent
  -- all bodies that are kept, so many, are given up: nobody sends them any more
  drained : ℕ → BodyEvent

-- what each event adds, after those before it
abbrev pub gather : {A : Type 0} → (List BodyEvent → BodyEvent → List A) → List BodyEvent
    → List BodyEvent → List A
gather f before [] = []
gather f before (x ∷ events) = f before x ++ gather f (before ++ x ∷ []) events

-- ---- batches

abbrev pub size_of_take : BodyEvent → Option ℕ
size_of_take (taken n) = Some n
size_of_take _ = None

-- how many bodies the last batch has, or 0
abbrev pub last_size : List BodyEvent → ℕ
last_size events = last_or 0 (filter_map size_of_take events)

-- Where the last batch is: it ended, or it is out, or it is to be sent again.
pub data Turn : Type 0 where
  idle is_out again : Turn

abbrev pub turn_by : BodyEvent → Option Turn
turn_by (admitted body) = None
turn_by (taken n) = Some is_out
turn_by later = Some again
turn_by (settled fate) = Some idle
turn_by (drained n) = Some idle

-- what was last said of a batch
abbrev pub turn : List BodyEvent → Turn
turn events = last_or idle (filter_map turn_by events)

-- ---- what was admitted, and how it ended

abbrev pub admitted_body : BodyEvent → Option (List ℕ)
admitted_body (admitted body) = Some body
admitted_body _ = None

-- the bodies that were admitted, in order
abbrev pub admitted_bodies : List BodyEvent → List (List ℕ)
admitted_bodies events = filter_map admitted_body events

-- Whether a batch of so many bodies, which ends by this fate, is split: where it was refused, or
-- its reply can't be read, and it has several bodies, none of them ends, and each is sent once more
-- alone.
abbrev pub is_split : Fate → ℕ → Bool
is_split (Fate.refused status) n = nat_lt 1 n
is_split Fate.bad_reply n = nat_lt 1 n
is_split _ n = false

-- how many of its bodies end
abbrev pub ended_count : Fate → ℕ → ℕ
ended_count fate n = if is_split fate n then 0 else n

abbrev pub ends_by : List BodyEvent → BodyEvent → List Fate
ends_by before (settled fate) = replicate (ended_count fate (last_size before)) fate
ends_by before (drained n) = replicate n Fate.abandoned
ends_by before _ = []

-- how each body that is kept no longer ended, in order: those that were admitted first end first
abbrev pub ends : List BodyEvent → List Fate
ends events = gather ends_by [] events

-- the bodies that ended, each with how
abbrev pub ended_bodies : List BodyEvent → List (List ℕ × Fate)
ended_bodies events = zip (admitted_bodies events) (ends events)

-- the bodies that are kept: they wait, or are in the batch that is out
abbrev pub kept_bodies : List BodyEvent → List (List ℕ)
kept_bodies events = drop (length (ends events)) (admitted_bodies events)

-- The bodies that a collector took: it answered with a success, or with a partial one. (OTLP
-- Specification, OTLP/HTTP Response)
abbrev pub delivered_bodies : List BodyEvent → List (List ℕ)
delivered_bodies events = map (λ e. e.0) (filter (λ e. not (is_loss e.1)) (ended_bodies events))

-- the bodies that are lost, each with why
abbrev pub lost_bodies : List BodyEvent → List (List ℕ × Fate)
lost_bodies events = filter (λ e. is_loss e.1) (ended_bodies events)

-- ---- bodies that are to be sent alone

abbrev pub splits_by : List BodyEvent → BodyEvent → List ℕ
splits_by before (settled fate) =
    if is_split fate (last_size before) then (length (ends before) + last_size before) ∷ [] else []
splits_by before _ = []

-- how many of the admitted bodies are before the end of the batch that was split last, or 0
abbrev pub alone_until : List BodyEvent → ℕ
alone_until events = last_or 0 (gather splits_by [] events)

-- how many of the kept bodies, the first ones, are to be sent alone
abbrev pub alone_count : List BodyEvent → ℕ
alone_count events = alone_until events - length (ends events)

-- ---- bytes

-- The body that a batch of bodies is sent as: their bytes, one body after the other. (Protocol
-- Buffers, Encoding: Last One Wins: what is concatenated is merged)
abbrev pub joined : List (List ℕ) → List ℕ
joined bodies = flat_map (λ body. body) bodies

abbrev pub sent_by : List BodyEvent → BodyEvent → List (List ℕ)
sent_by before (taken n) = joined (take n (kept_bodies before)) ∷ []
sent_by before _ = []

-- the body of each attempt, in order
abbrev pub attempts : List BodyEvent → List (List ℕ)
attempts events = gather sent_by [] events

abbrev pub delivered_by : List BodyEvent → BodyEvent → List (List ℕ)
delivered_by before (settled fate) =
    if is_loss fate then [] else joined (take (last_size before) (kept_bodies before)) ∷ []
delivered_by before _ = []

-- the body of each attempt that ended its batch with a success, in order
abbrev pub deliveries : List BodyEvent → List (List ℕ)
deliveries events = gather delivered_by [] events

-- ---- lost spans

abbrev pub losses_by : List BodyEvent → BodyEvent → List LostSpan
losses_by before (settled fate) =
    lost_names fate (take (ended_count fate (last_size before)) (kept_bodies before))
losses_by before (drained n) = lost_names Fate.abandoned (take n (kept_bodies before))
losses_by before _ = []

-- the names that are given of lost spans, in order: those of a body as it ends
abbrev pub losses : List BodyEvent → List LostSpan
losses events = gather losses_by [] events

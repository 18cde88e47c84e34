-- Calls of a link that have to end by a moment. (OpenTelemetry Trace SDK, Batching processor,
-- exportTimeoutMillis: the time of a whole export; by which clock, and what is counted: profile)
use Rattle.std.specs.Prelude.{◌≡◌, ℕ, ◌+◌, ◌-◌, ◌*◌, ◌^◌, ◌<◌, min, Bool, true, false}
use Rattle.std.specs.Prelude.{Option, Some, None, Result, IsErr}

-- a clock that is asked again and again, the longest time of one call, the time of all calls from
-- the start, and the moment by which they end, in nanoseconds of the clock
pub record CountedDown (Clock : Type 0) : Type 0 where
  pub clock : Clock
  pub longest : ℕ
  pub all : ℕ
  pub end : ℕ

-- this number of milliseconds in nanoseconds, at most the greatest number of 64 bits
abbrev pub nanos_of_millis : ℕ → ℕ
nanos_of_millis ms = min (ms * 1_000_000) (2 ^ 64 - 1)

-- the moment this long after that one, at most the greatest number of 64 bits
abbrev pub moment_after : ℕ → ℕ → ℕ
moment_after now nanos = min (now + nanos) (2 ^ 64 - 1)

-- how long a call may take that begins now: as long as a call may, and to the end of the time; no
-- time is left where the clock can't be read
abbrev pub time_left : ℕ → ℕ → Option ℕ → ℕ
time_left longest end (Some now) = min longest (end - now)
time_left longest end None = 0

-- a stream, what is left of its time, and how often a call failed
pub record TimedLink (Stream Clock : Type 0) : Type 0 where
  pub stream : Stream
  pub time : CountedDown Clock
  pub failures : ℕ

-- The result of a call that may take this long: where no time is left it fails, and the stream
-- isn't called; else the stream is given just this time.
pub data IsTimedCall {Stream T E : Type 0} (takes : Stream → ℕ → Stream → Type 0) (left : ℕ)
    (old new : Stream) (answer : Result T E) : Type 0 where
  late : left ≡ 0 → new ≡ old → IsErr answer → IsTimedCall takes left old new answer
  called : 0 < left → takes old left new → IsTimedCall takes left old new answer

-- The time begins again at the moment that the clock reads, if it can be read.
pub data RestartsTime {Clock : Type 0} (reads : Clock → Option ℕ → Clock → Type 0)
    (old : CountedDown Clock) (answer : Bool) (new : CountedDown Clock) : Type 0 where
  restarted : (now : ℕ) → answer ≡ true → reads old.clock (Some now) new.clock
      → new ≡ record old { clock = new.clock; end = moment_after now old.all }
      → RestartsTime reads old answer new
  unread : answer ≡ false → reads old.clock None new.clock
      → new ≡ record old { clock = new.clock } → RestartsTime reads old answer new

-- A link is ready for another request if its time has begun again and then its stream is idle.
pub data RenewsDeadline {Stream Clock : Type 0} (reads : Clock → Option ℕ → Clock → Type 0)
    (idles : Stream → Bool → Stream → Type 0)
    (old : TimedLink Stream Clock) (answer : Bool) (new : TimedLink Stream Clock) : Type 0 where
  asked : RestartsTime reads old.time true new.time → idles old.stream answer new.stream
      → new.failures ≡ old.failures → RenewsDeadline reads idles old answer new
  unread : answer ≡ false → RestartsTime reads old.time false new.time
      → new ≡ record old { time = new.time } → RenewsDeadline reads idles old answer new

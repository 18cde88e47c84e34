-- What a clause reads of a connection.
use Rattle.std.specs.Prelude.{◌≡◌, ◌⊎◌, ◌<◌, ℕ, ◌+◌, ◌*◌, Bool, true, false, not, List, [], length}
use Rattle.std.specs.Prelude.{nat_lt, vec_capacity, ◌==◌, if◌then◌else◌, Option, Some, None, IsSome}
use Rattle.http.specs.declared.request.Parts.{Parts}
use Rattle.http.specs.declared.request.Request.{Request}
use Rattle.http.specs.Request.{body_of, head_of}
use Rattle.http_connection.specs.declared.connection.Connection.{Connection}
use Rattle.http_connection.specs.declared.connection.Stage.{Stage}
use Rattle.http_connection.specs.declared.connection.Stage.TheVariants as At
use Rattle.http_connection.specs.declared.limits.Phase.{Phase}
use Rattle.http_connection.specs.declared.limits.Phase.TheVariants.{Idle, Receiving, Answering}
use Rattle.http_connection.specs.declared.limits.Phase.TheVariants.{Discarding, Closing, Done}
use Rattle.http_connection.specs.Outputs.{waiting}
use Rattle.http_connection.specs.Stages.{whole_at}
use Rattle.http_connection.specs.Turns.{Turn}
use Rattle.http_connection.specs.Runs.{Runs, Place, Awaits, Takes, Writes, Over}

-- the bytes that wait to be written
abbrev pub pending_of : {P : Type 0} → Connection P → List ℕ
pending_of c = waiting c.output

-- how many bytes of memory it holds: the block of input, the head and the body of the request that
-- is read, and what was and what is to be written
abbrev pub held_of : {P : Type 0} → Connection P → ℕ
held_of c = c.head_room + vec_capacity c.body + (c.input.room + vec_capacity c.output.bytes)

-- the most bytes of a request's body
abbrev pub max_body_of : {P : Type 0} → Connection P → ℕ
max_body_of c = c.limits.max_body

-- where it is in its exchanges, with this head of a request and this part of its body
abbrev pub place_at : {P : Type 0} → Stage P → Parts → List ℕ → Place P
place_at At.Head head body = Awaits
place_at At.Body head body = Takes head body
place_at (At.Whole request) head body = Takes (head_of request) (body_of request)
place_at (At.Pieces p) head body = Writes p
place_at (At.Discard left) head body = Over
place_at At.Closing head body = Over
place_at At.Aborted head body = Over

-- the whole request at which a connection stopped, if it did
abbrev pub whole_of : {P : Type 0} → Connection P → Option (Request (List ℕ))
whole_of c = whole_at c.stage

-- the place of a connection
abbrev pub place_of : {P : Type 0} → Connection P → Place P
place_of c = place_at c.stage (head_of c.request) c.body.items

-- memory was refused, and what was pending was dropped
abbrev pub aborted_at : {P : Type 0} → Stage P → Bool
aborted_at At.Head = false
aborted_at At.Body = false
aborted_at (At.Whole request) = false
aborted_at (At.Pieces p) = false
aborted_at (At.Discard left) = false
aborted_at At.Closing = false
aborted_at At.Aborted = true

-- a connection has ended since memory was refused
abbrev pub is_aborted : {P : Type 0} → Connection P → Bool
is_aborted c = aborted_at c.stage

-- the phase, from whether the client's end was read, and how many bytes came and wait
abbrev pub phase_at : {P : Type 0} → Stage P → Bool → ℕ → ℕ → Phase
phase_at At.Head ended unread waits =
    if nat_lt 0 waits then Answering else (if unread == 0 then Idle else Receiving)
phase_at At.Body ended unread waits = Receiving
phase_at (At.Whole request) ended unread waits = Answering
phase_at (At.Pieces p) ended unread waits = Answering
phase_at (At.Discard left) ended unread waits = Discarding
phase_at At.Closing ended unread waits =
    if nat_lt 0 waits then Answering else (if ended then Done else Closing)
phase_at At.Aborted ended unread waits = Done

-- the phase of a connection
abbrev pub phase_of : {P : Type 0} → Connection P → Phase
phase_of c = phase_at c.stage c.ended (length c.input.bytes.items) (length (pending_of c))

-- While a connection waits for a request of which nothing has come, it holds no block of input.
abbrev pub HoldsNoBlock : {P : Type 0} → Connection P → Type 0
HoldsNoBlock c = c.stage ≡ At.Head → c.input.bytes.items ≡ [] → c.input.room ≡ 0

-- it is to be read
abbrev pub reads_at : {P : Type 0} → Stage P → Bool → ℕ → Bool
reads_at At.Head ended waits = if ended then false else nat_lt waits 65536
reads_at At.Body ended waits = not ended
reads_at (At.Whole request) ended waits = false
reads_at (At.Pieces p) ended waits = false
reads_at (At.Discard left) ended waits = not ended
reads_at At.Closing ended waits = not ended
reads_at At.Aborted ended waits = false

-- a connection is to be read
abbrev pub wants_read_of : {P : Type 0} → Connection P → Bool
wants_read_of c = reads_at c.stage c.ended (length (pending_of c))

-- `advance` would answer a whole request, or write one more piece
abbrev pub advances_at : {P : Type 0} → Stage P → ℕ → Bool
advances_at At.Head waits = false
advances_at At.Body waits = false
advances_at (At.Whole request) waits = true
advances_at (At.Pieces p) waits = nat_lt waits 65536
advances_at (At.Discard left) waits = false
advances_at At.Closing waits = false
advances_at At.Aborted waits = false

-- `advance` of a connection would answer a whole request, or write one more piece
abbrev pub wants_advance_of : {P : Type 0} → Connection P → Bool
wants_advance_of c = advances_at c.stage (length (pending_of c))

-- nothing more can be done before a read or a write, or one more piece; no whole request waits
abbrev pub rests_at : {P : Type 0} → Stage P → Bool → ℕ → Type 0
rests_at At.Head ended waits = (ended ≡ false) ⊎ (0 < waits)
rests_at At.Body ended waits = ended ≡ false
rests_at (At.Whole request) ended waits = ⊥
rests_at (At.Pieces p) ended waits = Unit {0}
rests_at (At.Discard left) ended waits = ended ≡ false
rests_at At.Closing ended waits = Unit {0}
rests_at At.Aborted ended waits = Unit {0}

-- a connection has nothing more to do so
abbrev pub Rests : {P : Type 0} → Connection P → Type 0
Rests c = rests_at c.stage c.ended (length (pending_of c))

-- a connection has nothing more to do so, or it stops at a whole request, where it may
abbrev pub Stops : {P : Type 0} → Bool → Connection P → Type 0
Stops pauses c = Rests c ⊎ ((pauses ≡ true) × IsSome (whole_of c))

-- it wants to be read, has bytes to write, wants to be advanced, or is done
abbrev pub NeverStalls : {P : Type 0} → Connection P → Type 0
NeverStalls c =
    (wants_read_of c ≡ true)
    ⊎ ((0 < length (pending_of c)) ⊎ ((wants_advance_of c ≡ true) ⊎ (phase_of c ≡ Done)))

-- what falls at each step that goes on
abbrev pub rank : {P : Type 0} → Stage P → ℕ
rank At.Head = 0
rank At.Body = 2
rank (At.Whole request) = 1
rank (At.Pieces p) = 0
rank (At.Discard left) = 0
rank At.Closing = 0
rank At.Aborted = 0

-- the work of a connection
abbrev pub work : {P : Type 0} → Connection P → ℕ
work c = 3 * length c.input.bytes.items + rank c.stage

-- what it does with the service from one state to another
abbrev pub RunsOn : {S P : Type 0} → (S → Turn P → S → Type 0) → (P → List ℕ → Type 0)
    → S → Connection P → S → Connection P → Type 0
RunsOn answers writes s old t new =
    Runs answers writes (max_body_of old) s (place_of old) (pending_of old)
    t (place_of new) (pending_of new) (is_aborted new)

-- the pieces of an answer went on, which no service sees
abbrev pub WritesOn : {P : Type 0} → (P → List ℕ → Type 0) → Connection P → Connection P → Type 0
WritesOn writes old new =
    Runs {S = Unit {0}} (λ s turn t. ⊥) writes (max_body_of old) tt (place_of old)
    (pending_of old) tt (place_of new) (pending_of new) (is_aborted new)

-- a service was shown the whole request at which a connection stopped, if it did
abbrev pub Shows : {S : Type 0} → (S → Request (List ℕ) → S → Type 0) → S
    → Option (Request (List ℕ)) → S → Type 0
Shows gathers s None t = t ≡ s
Shows gathers s (Some request) t = gathers s request t

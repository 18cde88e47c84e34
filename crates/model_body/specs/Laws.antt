-- What is proved of bodies, whatever is done with them. (profile)
use Rattle.std.specs.Prelude.{◌≡◌, ℕ, ◌+◌, ◌<◌, ◌≤◌, Bool, List, [], ◌∷◌, ◌++◌, length, map}
use Rattle.std.specs.Prelude.{flat_map, count_by}
use Rattle.std.specs.List.{AllByRecursion}
use Rattle.model_message.specs.Reading.{Reads}
use Rattle.model_message.specs.Tables
use Rattle.model_message.specs.Tables.{Message, ◌▸◌}
use Rattle.model_message.specs.Messages.{Triple, meaning}
use Rattle.model_desk.specs.Retries.{Fate}
use Rattle.model_body.specs.Histories.{BodyEvent, admitted, taken, later, settled}
use Rattle.model_body.specs.Histories.{last_size, ends_by, admitted_bodies}
use Rattle.model_body.specs.Histories.{ended_bodies, kept_bodies, delivered_bodies, lost_bodies}
use Rattle.model_body.specs.Histories.{alone_count, joined, losses, sent_by, deliveries}
use Rattle.model_body.specs.Names.{IsReadable, names_in, spans_in}
use Rattle.model_body.specs.Desks.{BodyConfig, memory_of, AreAllowed}

-- ---- joined bodies

-- Where two bodies are read as requests, the bytes of both, one after the other, are read as the
-- resources, scopes and spans of the first, and then those of the second. (Protocol Buffers,
-- Encoding: Last One Wins; opentelemetry-proto: ExportTraceServiceRequest)
abbrev pub JoinedIsRead : Type 0
JoinedIsRead =
    (a b : List ℕ) (x y : Message Tables.request) → Reads (meaning Tables.request a) x
    → Reads (meaning Tables.request b) y
    → Reads (meaning Tables.request (a ++ b)) ((x.0 ++ y.0) ▸ tt)

-- The same of any number of bodies, and their spans.
abbrev pub JoinedHasSpans : Type 0
JoinedHasSpans =
    (bodies : List (List ℕ)) → AllByRecursion IsReadable bodies
    → IsReadable (joined bodies) × (spans_in (joined bodies) ≡ flat_map spans_in bodies)

-- ---- accounts

-- whatever the configuration and the events, each allowed
abbrev pub Always : (BodyConfig → List BodyEvent → Type 0) → Type 0
Always holds =
    (config : BodyConfig) (events : List BodyEvent) → AreAllowed config events
    → holds config events

-- The bodies that were admitted are those that ended and then those that are kept, each once, in
-- order, byte for byte.
abbrev pub BodiesAddUp : Type 0
BodiesAddUp =
    Always (λ config events.
    admitted_bodies events ≡ map (λ e. e.0) (ended_bodies events) ++ kept_bodies events)

-- What a collector took, attempt after attempt, are the bytes of the delivered bodies.
abbrev pub DeliveriesAreBodies : Type 0
DeliveriesAreBodies =
    Always (λ config events. joined (deliveries events) ≡ joined (delivered_bodies events))

-- how many spans of bodies pass a test
abbrev pub span_count : (Triple → Bool) → List (List ℕ) → ℕ
span_count is_it bodies = count_by is_it (flat_map spans_in bodies)

-- Where the admitted bodies are readable, their spans are those of what a collector took, those of
-- bodies that are kept, and those of bodies that are lost, each as often.
abbrev pub SpansAddUp : Type 0
SpansAddUp =
    Always (λ config events. (is_it : Triple → Bool)
    → AllByRecursion IsReadable (admitted_bodies events)
    → span_count is_it (admitted_bodies events) ≡
    span_count is_it (deliveries events) + span_count is_it (kept_bodies events)
    + span_count is_it (map (λ e. e.0) (lost_bodies events)))

-- The names that were given of lost spans are those of the spans of the bodies that are lost, each
-- with how its body ended, in order.
abbrev pub LossesAreNamed : Type 0
LossesAreNamed =
    Always (λ config events. losses events ≡ flat_map (λ e. names_in e.1 e.0) (lost_bodies events))

-- ---- retries, refusals, memory

abbrev pub AreAdmissions : List BodyEvent → Type 0
AreAdmissions events = AllByRecursion (λ x. (body : List ℕ) × (x ≡ admitted body)) events

-- A batch that is sent again has the same bytes, whatever was admitted meanwhile.
abbrev pub RetryRepeats : Type 0
RetryRepeats =
    (config : BodyConfig) (events more : List BodyEvent) (n m : ℕ) → AreAdmissions more
    → let before = events ++ taken n ∷ later ∷ more in
    AreAllowed config (before ++ taken m ∷ [])
    → sent_by before (taken m) ≡ sent_by events (taken n)

-- Where a batch of several bodies is refused, all of them are kept, and each is to be sent alone.
abbrev pub RefusedAreKept : Type 0
RefusedAreKept =
    (events : List BodyEvent) (status : ℕ) → 1 < last_size events
    → let after = events ++ settled (Fate.refused status) ∷ [] in
    (kept_bodies after ≡ kept_bodies events) × (alone_count after ≡ last_size events)

-- A refusal ends one body at most, one that was sent alone.
abbrev pub LostAlone : Type 0
LostAlone =
    (events : List BodyEvent) (status : ℕ)
    → 0 < length (ends_by events (settled (Fate.refused status))) → last_size events ≡ 1

-- Bodies take no more memory than the configuration says.
abbrev pub MemoryIsBounded : Type 0
MemoryIsBounded =
    Always (λ config events. memory_of (kept_bodies events) ≤ config.memory_bytes)

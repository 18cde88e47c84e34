-- What became of the spans and batches of a traced service. (profile)
use Rattle.std.specs.Prelude.{ℕ, ◌+◌, Bool, ◌&&◌, ◌==◌, length}
use Rattle.model_desk.specs.Desks.{Desk, DropCounts, FateCounts}
use Rattle.drop_ledger.specs.ReasonCounts.{capped}

-- how many spans were dropped, for whatever reason; the count stops at 2^64 - 1
abbrev pub drops_of : DropCounts → ℕ
drops_of d = capped (d.queue_full + d.encode_memory + d.too_large + d.abandoned)

-- whether no batch ended otherwise than delivered
abbrev pub all_delivered : FateCounts → Bool
all_delivered f =
    f.partial == 0 && f.refused == 0 && f.bad_reply == 0 && f.given_up == 0 && f.abandoned == 0

-- whether no span was dropped, lost or left, and each batch was delivered
abbrev pub is_delivered : Desk → Bool
is_delivered desk =
    drops_of desk.dropped == 0 && desk.lost_count == 0 && length desk.waiting == 0
    && all_delivered desk.fates

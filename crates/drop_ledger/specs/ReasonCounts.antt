-- How many names there are for each reason. (profile)
use Rattle.std.specs.Prelude.{ℕ, ◌+◌, ◌-◌, ◌^◌, min, List, Bool, true, false, count_by}
use Rattle.model_span.specs.Dropped.{Entry, Reason, is_reason, queue_full, encode_memory}
use Rattle.model_span.specs.Dropped.{too_large, abandoned, refused, bad_reply, given_up}
use Rattle.model_span.specs.Dropped.{left_handed}
use Rattle.drop_ledger.specs.declared.reason_counts.ReasonCounts.{ReasonCounts}

-- how many there are for each reason: of those whose batch was refused, whatever the status
pub record Counts : Type 0 where
  pub queue_full : ℕ
  pub encode_memory : ℕ
  pub too_large : ℕ
  pub abandoned : ℕ
  pub refused : ℕ
  pub bad_reply : ℕ
  pub given_up : ℕ
  pub left_handed : ℕ

-- whether they are the same reason, whatever the status
abbrev pub same_kind : Reason → Reason → Bool
same_kind (refused m) (refused n) = true
same_kind a b = is_reason a b

-- the number, or 2^64 - 1 if it is above that
abbrev pub capped : ℕ → ℕ
capped count = min count (2 ^ 64 - 1)

-- how many of these names have this reason, whatever the status
abbrev pub count_of_kind : Reason → List Entry → ℕ
count_of_kind reason names = count_by (λ (e : Entry). same_kind reason e.reason) names

-- how many of these names there are for each reason: counts stop at 2^64 - 1
abbrev pub counts_of : List Entry → Counts
counts_of names = record {
  queue_full = capped (count_of_kind queue_full names);
  encode_memory = capped (count_of_kind encode_memory names);
  too_large = capped (count_of_kind too_large names);
  abandoned = capped (count_of_kind abandoned names);
  refused = capped (count_of_kind (refused 0) names);
  bad_reply = capped (count_of_kind bad_reply names);
  given_up = capped (count_of_kind given_up names);
  left_handed = capped (count_of_kind left_handed names);
}

-- the count with one more, where this is so
abbrev pub raised : Bool → ℕ → ℕ
raised true count = capped (count + 1)
raised false count = count

-- the counts with one more for this reason
abbrev pub one_more : Reason → Counts → Counts
one_more reason c = record {
  queue_full = raised (same_kind queue_full reason) c.queue_full;
  encode_memory = raised (same_kind encode_memory reason) c.encode_memory;
  too_large = raised (same_kind too_large reason) c.too_large;
  abandoned = raised (same_kind abandoned reason) c.abandoned;
  refused = raised (same_kind (refused 0) reason) c.refused;
  bad_reply = raised (same_kind bad_reply reason) c.bad_reply;
  given_up = raised (same_kind given_up reason) c.given_up;
  left_handed = raised (same_kind left_handed reason) c.left_handed;
}

-- what a `ReasonCounts` counts
abbrev pub reason_counts_view : ReasonCounts → Counts
reason_counts_view c = record {
  queue_full = c.queue_full;
  encode_memory = c.encode_memory;
  too_large = c.too_large;
  abandoned = c.abandoned;
  refused = c.refused;
  bad_reply = c.bad_reply;
  given_up = c.given_up;
  left_handed = c.left_handed;
}

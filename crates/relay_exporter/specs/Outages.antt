-- Which refusals are of a body, and which are an outage of the collector. (OTLP Specification,
-- OTLP/HTTP Response; RFC 9110, sections 15.4 and 15.5; profile)
use Rattle.std.specs.Prelude.{ℕ, ◌+◌, ◌-◌, ◌^◌, ◌==◌, ◌||◌, ◌&&◌, min, nat_le, not}
use Rattle.std.specs.Prelude.{Bool, true, false, if◌then◌else◌, Option, None, Some}
use Rattle.model_desk.specs.Retries.{Outcome, RetryAfter, delivered, later, no_reply, bad}
use Rattle.model_desk.specs.Retries.{seconds, date}
use Rattle.model_desk.specs.Retries.Outcome.{partial, refused}
use Rattle.relay_exporter.specs.declared.kind.Kind.{Kind}
use Rattle.relay_exporter.specs.declared.kind.Kind.TheVariants.{Taken, Outage, Refusing, Doubtful}
use Rattle.relay_exporter.specs.declared.kind.Kind.TheVariants.{OfBody}
use Rattle.relay_exporter.specs.declared.judge.Judge.{Judge}

-- ---- outcomes

-- By these a collector refuses whatever it is sent: redirections, which aren't followed, and what
-- is said of credentials, of the path and of the method.
abbrev pub is_of_collector : ℕ → Bool
is_of_collector status = (nat_le 300 status && nat_le status 399)
    || ((status == 401) || ((status == 403) || ((status == 404) || (status == 405))))

-- of a status that isn't to be tried again; 413 is of the body (Content Too Large)
abbrev pub kind_of_status : ℕ → Kind
kind_of_status status =
    if is_of_collector status then Refusing else if status == 413 then OfBody else Doubtful

abbrev pub kind_of : Outcome → Kind
kind_of delivered = Taken
kind_of (partial rejected) = Taken
kind_of (later status after) = Outage
kind_of (refused status) = kind_of_status status
kind_of no_reply = Outage
kind_of bad = Doubtful

-- whether the collector took what it was sent, whole or in part
abbrev pub is_taken : Outcome → Bool
is_taken delivered = true
is_taken (partial rejected) = true
is_taken (later status after) = false
is_taken (refused status) = false
is_taken no_reply = false
is_taken bad = false

-- what stands for a refusal that isn't of the body: it is sent again, at no moment of the
-- collector's
abbrev pub waiting : Outcome → Outcome
waiting (refused status) = later status None
waiting delivered = no_reply
waiting (partial rejected) = no_reply
waiting (later status after) = no_reply
waiting no_reply = no_reply
waiting bad = no_reply

-- a date is a number of seconds from now on (RFC 9110, Retry-After)
abbrev pub in_seconds : ℕ → Outcome → Outcome
in_seconds now (later status (Some (date moment))) = later status (Some (seconds (moment - now)))
in_seconds now (later status (Some (seconds count))) = later status (Some (seconds count))
in_seconds now (later status None) = later status None
in_seconds now delivered = delivered
in_seconds now (partial rejected) = partial rejected
in_seconds now (refused status) = refused status
in_seconds now no_reply = no_reply
in_seconds now bad = bad

-- ---- what is known of a collector

-- a count of 64 bits, which stops at its greatest number
abbrev pub capped_64 : ℕ → ℕ
capped_64 n = min n (2 ^ 64 - 1)

-- it was sent nothing
abbrev pub new_judge : Option ℕ → Judge
new_judge most = record { has_taken = false; refusals = 0; most = most }

abbrev pub is_doubtful : Kind → Bool
is_doubtful Doubtful = true
is_doubtful Taken = false
is_doubtful Outage = false
is_doubtful Refusing = false
is_doubtful OfBody = false

-- whether it is to be asked by an empty request if it takes others than the one with this outcome
abbrev pub asks : Judge → Outcome → Bool
asks judge met = is_doubtful (kind_of met) && not judge.has_taken

-- A doubtful outcome is of the body where the collector takes other requests; else it refuses
-- whatever it is sent.
abbrev pub verdict : Kind → Bool → Kind
verdict Doubtful takes_others = if takes_others then OfBody else Refusing
verdict Taken takes_others = Taken
verdict Outage takes_others = Outage
verdict Refusing takes_others = Refusing
verdict OfBody takes_others = OfBody

-- whether so many refusals in a row are as many as are waited for
abbrev pub is_spent : Option ℕ → ℕ → Bool
is_spent None refusals = false
is_spent (Some most) refusals = nat_le most refusals

abbrev pub judge_by : Judge → Kind → Judge
judge_by judge Taken = record judge { has_taken = true; refusals = 0 }
judge_by judge Refusing =
    record judge { has_taken = false; refusals = capped_64 (judge.refusals + 1) }
judge_by judge Outage = record judge { has_taken = false; refusals = 0 }
judge_by judge Doubtful = record judge { has_taken = false; refusals = 0 }
judge_by judge OfBody = record judge { has_taken = false; refusals = 0 }

-- what is known of the collector after an attempt
abbrev pub judge_after : Judge → Outcome → Bool → Judge
judge_after judge met takes_others = judge_by judge (verdict (kind_of met) takes_others)

abbrev pub judged_by : Judge → Outcome → Kind → Outcome
judged_by judge met Refusing =
    if is_spent judge.most (capped_64 (judge.refusals + 1)) then met else waiting met
judged_by judge met Taken = met
judged_by judge met Outage = met
judged_by judge met Doubtful = met
judged_by judge met OfBody = met

-- What an outcome comes to: it is as it came, but where the collector refuses whatever it is sent.
-- Then it is to be sent again, unless that happened too often.
abbrev pub judged : Judge → Outcome → Bool → Outcome
judged judge met takes_others = judged_by judge met (verdict (kind_of met) takes_others)

-- When a refusal is reported: the first of its kind at once, and later ones at most once a minute,
-- with their count. (profile)
use Rattle.std.specs.Prelude.{◌+◌, ◌-◌, ℕ, Option, Some, None, if◌then◌else◌, nat_le, nat_lt}
use Rattle.http_listener.specs.declared.complaint.Complaint.{Complaint}
use Rattle.http_listener.specs.declared.complaint.Line.{Line}
use Rattle.http_listener.specs.declared.complaint.Line.TheVariants.{First, Since}

-- nothing was reported
abbrev pub no_complaint : Complaint
no_complaint = record { told = 0; last_ms = None }

-- the line on what wasn't reported yet: at once where there was no line before, else a minute after
-- it
abbrev pub line_after : Option ℕ → ℕ → ℕ → Option Line
line_after None untold now = Some First
line_after (Some last) untold now =
    if nat_le (last + 60_000) now then Some (Since untold) else None

-- the line that is due at a moment, after this number of refusals
abbrev pub line_due : Complaint → ℕ → ℕ → Option Line
line_due complaint count now = if nat_lt complaint.told count
    then line_after complaint.last_ms (count - complaint.told) now else None

-- what was reported after that line
abbrev pub after_line : Complaint → Option Line → ℕ → ℕ → Complaint
after_line complaint None count now = complaint
after_line complaint (Some First) count now = record { told = 1; last_ms = Some now }
after_line complaint (Some (Since untold)) count now =
    record { told = count; last_ms = Some now }

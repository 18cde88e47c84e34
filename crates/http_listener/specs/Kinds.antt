-- What was reported of each kind of refusal.
use Rattle.std.specs.Prelude.{ℕ, unwrap_or}
use Rattle.std.specs.BTreeMap.{get}
use Rattle.std.specs.Ordering.{nat_cmp}
use Rattle.http_listener.specs.Complaints.{no_complaint}
use Rattle.http_listener.specs.declared.complaint.Complaint.{Complaint}
use Rattle.http_listener.specs.declared.complaints.Complaints.{Complaints}

abbrev pub complaint_of : Complaints → ℕ → Complaint
complaint_of complaints status = unwrap_or (get nat_cmp complaints.kinds status) no_complaint

-- What is said of a failure.
use Rattle.std.proofs.Common.{◌≡◌, ◌≢◌, refl, ap, arith, length, ℕ, ℤ, pos, int_lt, List, [], ◌∷◌}
use Rattle.std.proofs.Common.{◌++◌, Bool, true, false, if◌then◌else◌, Option, Some, None, IsSome}
use Rattle.std.proofs.Common.{Result, Ok, Err, sym, ◌∙◌, append-nil, append_assoc}
use Rattle.std.specs.Str.{IsUtf8, is_utf8}
use Rattle.std.proofs.lemmas.Str.{IsUtf8-from_is_utf8}
use Rattle.model_message.specs.Reading.{Fault, bad_utf8}
use Rattle.model_message.specs.Tables
use Rattle.model_message.specs.Tables.{◌▸◌}
use Rattle.model_message.specs.Messages.{meaning, read, utf8}
use Rattle.model_message.specs.Wire.{row}
use Rattle.model_desk.specs.Retries.{Outcome, delivered}
use Rattle.otlp_wire.specs.Response.{message_text, row_faults, rejected_in, partial_row}
use Rattle.http_wire.specs.declared.fault.HttpFault.{HttpFault}
use Rattle.otlp_http.specs.Outcomes.{is_success, taken_by, outcome_of, outcome_of_body}
use Rattle.otlp_http.specs.Outcomes.{outcome_of_reply}
use Rattle.otlp_http.specs.Replies.{HttpReply}
use Rattle.http_exporter.specs.declared.failure.Failure.{Failure}
use Rattle.http_exporter.specs.Failures.{text_in, rejection_by, rejection_of, failure_of_reply}
use Rattle.http_exporter.specs.Failures.{failure_of, failure_after_a_stop, IsLast}
use Rattle.http_wire.specs.declared.limits.HeadLimits.{HeadLimits}
use Rattle.http_exporter.specs.Kept as keeping
use Rattle.http_exporter.specs.Kept.{IsKeptAnswer, IsKeptPost}
use Rattle.http_exporter.specs.Attempts.{Shown, IsPosted, replied, stopped, replied_after_a_stop}
use Rattle.http_exporter.specs.Attempts.{outcome_after_a_stop}

-- Bytes that are not UTF-8 have no text.
pub no_text : (bytes : List ℕ) → (IsUtf8 bytes → ⊥) → [] ≡ text_in bytes
no_text bytes none = by_case (is_utf8 bytes) (λ text. none (IsUtf8-from_is_utf8 bytes text))
  where
    by_case : (is_text : Bool) → (is_text ≡ true → ⊥) → [] ≡ (if is_text then bytes else [])
    by_case true other = absurd (other refl)
    by_case false other = refl

-- A message that isn't UTF-8 makes a batch one that was delivered.
pub not_in_part : (message : List ℕ) (part : Outcome) → (IsUtf8 message → ⊥)
    → delivered ≡ (if is_utf8 message then part else delivered)
not_in_part message part none =
    by_case (is_utf8 message) (λ text. none (IsUtf8-from_is_utf8 message text))
  where
    by_case : (is_text : Bool) → (is_text ≡ true → ⊥)
        → delivered ≡ (if is_text then part else delivered)
    by_case true other = absurd (other refl)
    by_case false other = refl

-- ---- what a body says that was taken

first_none : (a b : List Fault) → a ++ b ≡ [] → a ≡ []
first_none [] b e = refl
first_none (x ∷ a) b e =
    let none : length (x ∷ a ++ b) ≡ 0 = ap length e in absurd (omega (arith, none))

rest_none : (a b : List Fault) → a ++ b ≡ [] → b ≡ []
rest_none [] b e = e
rest_none (x ∷ a) b e =
    let none : length (x ∷ a ++ b) ≡ 0 = ap length e in absurd (omega (arith, none))

no_row_fault : (body : List ℕ) → (meaning Tables.response body).faults ≡ [] → row_faults body ≡ []
unfolding meaning read
no_row_fault body e =
    let rows = first_none (row body).faults _ e in
    let parts =
    first_none (partial_row (row body).value).faults _
    (first_none _ _ (rest_none (row body).faults _ e)) in
    rw (rows, parts) refl

-- The faults of a response are those of its fields, and then the one of its message.
faults_with_message : (body : List ℕ) → (meaning Tables.response body).faults
    ≡ row_faults body ++ (utf8 (message_text (meaning Tables.response body).value)).faults
unfolding meaning read
faults_with_message body = simp (append-nil, append_assoc) refl

faults_of : (body : List ℕ) (rejected : ℤ) (message : List ℕ)
    → (meaning Tables.response body).value ≡ ((rejected ▸ message ▸ tt) ▸ tt)
    → row_faults body ≡ [] → (meaning Tables.response body).faults ≡ (utf8 message).faults
faults_of body rejected message is whole =
    faults_with_message body
    ∙ ap (λ l. l ++ (utf8 (message_text (meaning Tables.response body).value)).faults) whole
    ∙ ap (λ v. (utf8 (message_text v)).faults) is

-- A response that rejects spans is one of a batch that was taken in part, where its message is
-- UTF-8, and else has no reading.
pub taken_in_part : (body : List ℕ) (rejected : ℤ) (message : List ℕ)
    → (meaning Tables.response body).value ≡ ((rejected ▸ message ▸ tt) ▸ tt)
    → row_faults body ≡ [] → int_lt (pos 0) rejected ≡ true
    → (if is_utf8 message then Outcome.partial rejected else delivered)
    ≡ outcome_of_body (Ok body)
taken_in_part body rejected message is whole above =
    sym (ap (λ faults. taken_by faults (rejected_in (meaning Tables.response body).value))
    (faults_of body rejected message is whole)
    ∙ ap (λ v. taken_by (utf8 message).faults (rejected_in v)) is
    ∙ by_text (is_utf8 message))
  where
    by_text : (is_text : Bool)
        → taken_by (if is_text then [] else bad_utf8 ∷ []) rejected
        ≡ (if is_text then Outcome.partial rejected else delivered)
    by_text true = rw above refl
    by_text false = refl

-- One that rejects none is one of a batch that was taken whole.
pub taken_whole : (body : List ℕ) (rejected : ℤ) (message : List ℕ)
    → (meaning Tables.response body).value ≡ ((rejected ▸ message ▸ tt) ▸ tt)
    → int_lt (pos 0) rejected ≡ false → delivered ≡ outcome_of_body (Ok body)
taken_whole body rejected message is none =
    sym (ap (λ v. taken_by (meaning Tables.response body).faults (rejected_in v)) is
    ∙ by_faults (meaning Tables.response body).faults)
  where
    by_faults : (faults : List Fault) → taken_by faults rejected ≡ delivered
    by_faults [] = rw none refl
    by_faults (fault ∷ faults) = refl

-- So is one with a fault in its fields.
pub taken_faulty : (body : List ℕ) → row_faults body ≢ [] → delivered ≡ outcome_of_body (Ok body)
taken_faulty body faulty = sym (by_faults (meaning Tables.response body).faults refl)
  where
    by_faults : (faults : List Fault) → (meaning Tables.response body).faults ≡ faults
        → taken_by faults (rejected_in (meaning Tables.response body).value) ≡ delivered
    by_faults [] none = absurd (faulty (no_row_fault body none))
    by_faults (fault ∷ faults) some = refl

-- ---- what isn't delivered has failed

-- this is delivered, or something failed
abbrev pub HasFailed : Outcome → Option Failure → Type 0
HasFailed outcome failure = outcome ≢ delivered → IsSome failure

body_fails : (body : List ℕ) → HasFailed (outcome_of_body (Ok body)) (rejection_of (Ok body))
body_fails body = by_faults (meaning Tables.response body).faults refl
  where
    by_count : (is_above : Bool) (rejected : ℤ) (failure : Failure)
        → HasFailed (if is_above then Outcome.partial rejected else delivered)
        (if is_above then Some failure else None)
    by_count true rejected failure = λ _. refl
    by_count false rejected failure = λ other. absurd (other refl)

    by_faults : (faults : List Fault) → (meaning Tables.response body).faults ≡ faults
        → HasFailed (taken_by faults (rejected_in (meaning Tables.response body).value))
        (rejection_by (row_faults body) (meaning Tables.response body).value)
    by_faults [] none =
        rw (no_row_fault body none)
        (by_count (int_lt (pos 0) (rejected_in (meaning Tables.response body).value)) _ _)
    by_faults (fault ∷ faults) e = λ other. absurd (other refl)

reply_fails : (reply : HttpReply) → HasFailed (outcome_of_reply reply) (failure_of_reply reply)
reply_fails reply = by_status (is_success reply.status) _ _
  where
    by_body : (body : Result (List ℕ) HttpFault)
        → HasFailed (outcome_of_body body) (rejection_of body)
    by_body (Ok body) = body_fails body
    by_body (Err fault) = λ other. absurd (other refl)

    by_status : (is_taken : Bool) (outcome : Outcome) (failure : Failure)
        → HasFailed (if is_taken then outcome_of_body reply.body else outcome)
        (if is_taken then rejection_of reply.body else Some failure)
    by_status true outcome failure = by_body reply.body
    by_status false outcome failure = λ _. refl

answer_fails : (answer : Result HttpReply HttpFault)
    → HasFailed (outcome_of answer) (failure_of answer)
answer_fails (Ok reply) = reply_fails reply
answer_fails (Err fault) = λ _. refl

stop_fails : (answer : Result HttpReply HttpFault)
    → HasFailed (outcome_after_a_stop answer) (failure_after_a_stop answer)
stop_fails (Ok reply) = reply_fails reply
stop_fails (Err fault) = λ _. refl

-- a posted body leaves a failure where it isn't delivered
posted_fails : {Link : Type 0} (shown : Shown Link) (limits : HeadLimits) (reads : Bool)
    (text : List ℕ) (old new : Link) (outcome : Outcome) (failure : Option Failure)
    → IsPosted shown limits reads text old new outcome failure →
    HasFailed outcome failure
posted_fails shown limits reads text old new outcome failure
    (replied sent answer is_sent is_answer says failed) =
    rw (says, failed) (answer_fails answer)
posted_fails shown limits reads text old new outcome failure
    (stopped unread is_stopped says failed) =
    λ _. rw failed refl
posted_fails shown limits reads text old new outcome failure
    (replied_after_a_stop stop answer read is_stopped is_answer says failed) =
    rw (says, failed) (stop_fails answer)

not_some : false ≡ true → ⊥
not_some e = cc

-- An attempt that isn't delivered leaves a last failure.
pub last_fails : {Link : Type 0} (shown : Shown Link) (limits : HeadLimits) (reads : Bool)
    (text : List ℕ) (old new : Link) (outcome : Outcome) (failure before last : Option Failure)
    → IsPosted shown limits reads text old new outcome failure →
    IsLast failure before last → HasFailed outcome last
last_fails shown limits reads text old new outcome None before last posted kept =
    λ other.
    absurd (not_some (posted_fails shown limits reads text old new outcome None posted other))
last_fails shown limits reads text old new outcome (Some failure) before last posted kept =
    λ _. rw kept.2 refl

-- a post over a link that is kept leaves a failure where it isn't delivered
answered_fails : {Link : Type 0} (shown : Shown Link) (limits : HeadLimits) (old new : Link)
    (outcome : Outcome) (failure : Option Failure) (lasts : Bool)
    → IsKeptAnswer shown limits old new outcome failure lasts → HasFailed outcome failure
answered_fails shown limits old new outcome failure lasts
    (keeping.read reply is by_head says failed) =
    rw (says, failed) (answer_fails (Ok reply))
answered_fails shown limits old new outcome failure lasts
    (keeping.none fault is by_head says failed) =
    rw (says, failed) (answer_fails (Err fault))

kept_fails : {Link : Type 0} (shown : Shown Link) (limits : HeadLimits) (reads : Bool)
    (text : List ℕ) (old new : Link) (outcome : Outcome) (failure : Option Failure) (lasts : Bool)
    → IsKeptPost shown limits reads text old new outcome failure lasts → HasFailed outcome failure
kept_fails shown limits reads text old new outcome failure lasts
    (keeping.replied sent is_sent answer) =
    answered_fails shown limits sent new outcome failure lasts answer
kept_fails shown limits reads text old new outcome failure lasts
    (keeping.stopped unread is_stopped by_stop says failed) =
    λ _. rw failed refl
kept_fails shown limits reads text old new outcome failure lasts
    (keeping.replied_after_a_stop stop answer read is_stopped is_answer by_stop says failed) =
    rw (says, failed) (stop_fails answer)

-- An attempt over a kept link that isn't delivered leaves a last failure.
pub last_kept_fails : {Link : Type 0} (shown : Shown Link) (limits : HeadLimits) (reads : Bool)
    (text : List ℕ) (old new : Link) (outcome : Outcome) (failure : Option Failure) (lasts : Bool)
    (before last : Option Failure)
    → IsKeptPost shown limits reads text old new outcome failure lasts → IsLast failure before last
    → HasFailed outcome last
last_kept_fails shown limits reads text old new outcome None lasts before last posted is_last =
    λ other.
    absurd (not_some (kept_fails shown limits reads text old new outcome None lasts posted other))
last_kept_fails shown limits reads text old new outcome
    (Some failure) lasts before last posted is_last =
    λ _. rw is_last.2 refl

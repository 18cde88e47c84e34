-- The text that a run prints: a line for each step's answer, and then the report. (profile)
use Rattle.std.specs.Prelude.{ℕ, Bool, true, false, if◌then◌else◌, List, [], ◌∷◌, ◌++◌, length}
use Rattle.std.specs.Prelude.{count_by, Option, Some, None, slice_get, codes, decimal}
use Rattle.std.specs.Fmt.{signed_decimal}
use Rattle.std.specs.List.{flat_map}
use Rattle.hex.specs.Hex.{encode_lower}
use Rattle.model_span.specs.Dropped.{Entry, reason_word}
use Rattle.model_span.specs.Spans.{is_end}
use Rattle.model_desk.specs.Retries.{Next, Cause}
use Rattle.model_run.specs.Steps.{Step}
use Rattle.model_run.specs.Runs.{Ended, Answer, started, no_randomness, no_span, out_of_memory}
use Rattle.model_run.specs.Runs.{done, ended, taken, encoded, sent, early, replied, Answered}
use Rattle.model_run.specs.Headline.{attempts}
use Rattle.span_exporter.specs.Handed.{Handed}

-- words with a space (32) between them, and the end of the line (10)
abbrev pub line : List (List ℕ) → List ℕ
line [] = 10 ∷ []
line (word ∷ []) = word ++ 10 ∷ []
line (word ∷ words) = word ++ 32 ∷ line words

-- ---- what is printed of an answer, after the word of its step; `none` where it is no answer to
-- such a step, or says that there was nothing to do

-- the identifiers of the trace and of the span, or why there are none
abbrev pub start_words : Answer → List (List ℕ)
start_words (started ids) = encode_lower ids.trace ∷ encode_lower ids.span ∷ []
start_words no_randomness = codes "no-randomness" ∷ []
start_words out_of_memory = codes "out-of-memory" ∷ []
start_words no_span = codes "no-span" ∷ []
start_words _ = codes "none" ∷ []

-- of a call that is no end
abbrev pub call_words : Answer → List (List ℕ)
call_words done = codes "ok" ∷ []
call_words out_of_memory = codes "out-of-memory" ∷ []
call_words no_span = codes "no-span" ∷ []
call_words _ = codes "none" ∷ []

abbrev pub ended_words : Ended → List (List ℕ)
ended_words (Ended.queued ticket) = codes "queued" ∷ decimal ticket ∷ []
ended_words (Ended.handed ticket) = codes "handed" ∷ decimal ticket ∷ []
ended_words (Ended.dropped ticket reason) =
    codes "dropped" ∷ decimal ticket ∷ reason_word reason ∷ []
ended_words Ended.late = codes "late" ∷ []
ended_words Ended.not_sampled = codes "not-sampled" ∷ []
ended_words Ended.already_ended = codes "already-ended" ∷ []

abbrev pub end_words : Answer → List (List ℕ)
end_words (ended end) = ended_words end
end_words no_span = codes "no-span" ∷ []
end_words _ = codes "none" ∷ []

-- the number of the batch, and how many spans it has
abbrev pub take_words : Answer → List (List ℕ)
take_words (taken batch spans) = decimal batch ∷ decimal spans ∷ []
take_words _ = codes "none" ∷ []

-- the number of the batch, and the length of its body in bytes, or why it was dropped
abbrev pub encode_words : Answer → List (List ℕ)
encode_words (encoded batch size) = decimal batch ∷ decimal size ∷ []
encode_words (Answer.dropped batch reason) =
    decimal batch ∷ codes "dropped" ∷ reason_word reason ∷ []
encode_words _ = codes "none" ∷ []

-- The number of the batch, which attempt of it this was, and the body that was handed over; or the
-- moment comes before the one from which the batch is to be sent again.
abbrev pub attempt_words : List ℕ → Answer → List (List ℕ)
attempt_words body (sent batch attempt outcome) =
    decimal batch ∷ decimal attempt ∷ encode_lower body ∷ []
attempt_words body early = codes "early" ∷ []
attempt_words body _ = codes "none" ∷ []

abbrev pub cause_words : Cause → List (List ℕ)
cause_words (Cause.refused status) = codes "refused" ∷ decimal status ∷ []
cause_words Cause.bad_reply = codes "bad-reply" ∷ []
cause_words Cause.attempts = codes "attempts" ∷ []

abbrev pub next_words : Next → List (List ℕ)
next_words Next.done = codes "done" ∷ []
next_words (Next.partial rejected) = codes "partial" ∷ signed_decimal rejected ∷ []
next_words (Next.again moment) = codes "again" ∷ decimal moment ∷ []
next_words (Next.give_up cause) = codes "give-up" ∷ cause_words cause

-- the number of the batch, and what follows for it
abbrev pub reply_words : Answer → List (List ℕ)
reply_words (replied batch next) = decimal batch ∷ next_words next
reply_words _ = codes "none" ∷ []

-- ---- the line of a step

abbrev pub is_start : Step → Bool
is_start (Step.start scope parent kind at name) = true
is_start _ = false

-- how many starts there are: the next one has this number
abbrev pub starts : List Answered → ℕ
starts history = count_by (λ (x : Answered). is_start x.step) history

abbrev pub body_of : Option Handed → List ℕ
body_of None = []
body_of (Some one) = one.body

-- the body of the next attempt after these steps: each attempt is one that the exporter was handed
abbrev pub next_body : List Handed → List Answered → List ℕ
next_body handed before = body_of (slice_get handed (length (attempts before)))

-- the words of a step after others, and of its answer, where the exporter was handed these
abbrev pub words_of : List Handed → List Answered → Step → Answer → List (List ℕ)
words_of handed before (Step.start scope parent kind at name) answer =
    codes "start" ∷ decimal (starts before) ∷ start_words answer
words_of handed before (Step.call n c) answer =
    if is_end c then codes "end" ∷ decimal n ∷ end_words answer
    else codes "call" ∷ decimal n ∷ call_words answer
words_of handed before Step.flush answer = codes "flush" ∷ []
words_of handed before Step.shutdown answer = codes "shutdown" ∷ []
words_of handed before (Step.take now) answer = codes "take" ∷ take_words answer
words_of handed before Step.encode answer = codes "encode" ∷ encode_words answer
words_of handed before (Step.attempt now) answer =
    codes "attempt" ∷ attempt_words (next_body handed before) answer
words_of handed before (Step.reply now word) answer = codes "reply" ∷ reply_words answer

-- the line of a step after others
abbrev pub line_of : List Handed → List Answered → Answered → List ℕ
line_of handed before x = line (words_of handed before x.step x.answer)

-- the lines of steps after others
unfoldable pub lines_after : List Handed → List Answered → List Answered → List ℕ
lines_after handed before [] = []
lines_after handed before (x ∷ history) =
    line_of handed before x ++ lines_after handed (before ++ x ∷ []) history

-- the lines of a run, where the exporter was handed these
abbrev pub answers_text : List Handed → List Answered → List ℕ
answers_text handed history = lines_after handed [] history

-- ---- the report

-- of a span that isn't delivered: the ticket, the identifiers of the trace and of the span, and why
abbrev pub name_line : List ℕ → Entry → List ℕ
name_line word entry =
    line (word ∷ decimal entry.ticket ∷ encode_lower entry.trace
    ∷ encode_lower entry.span ∷ reason_word entry.reason ∷ [])

-- of a dropped one, and of a lost one
abbrev pub named_line : Entry → List ℕ
named_line entry = name_line (codes "named") entry

abbrev pub lost_line : Entry → List ℕ
lost_line entry = name_line (codes "lost") entry

-- how many spans wait, or are taken and were not handed over; the names of dropped spans and those
-- of lost ones, the newest first; how many spans ended after the shutdown
abbrev pub report_text : ℕ → List Entry → List Entry → ℕ → List ℕ
report_text queued entries lost late =
    line (codes "queued" ∷ decimal queued ∷ []) ++ flat_map named_line entries
    ++ flat_map lost_line lost ++ line (codes "late" ∷ decimal late ∷ [])

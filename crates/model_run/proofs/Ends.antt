-- Which spans end by one more step, whatever it answers.
use Rattle.std.proofs.Common.{◌≡◌, refl, sym, ap, subst, ◌∙◌, ℕ, ◌+◌, ◌≤◌, arith, nat_lt, List, []}
use Rattle.std.proofs.Common.{◌∷◌, ◌++◌, length, length-append, append_assoc, Bool, true, false}
use Rattle.std.proofs.Common.{cond, not, ◌&&◌, Option, Some, None, slice_get}
use Rattle.std.specs.List.{list_any}
use Rattle.std.specs.Option.{option_and_then, option_to_list}
use Rattle.std.proofs.lemmas.List.{append-nil}
use Rattle.std.proofs.lemmas.Bool.{ltb-true, lt-ltb}
use Rattle.std.proofs.lemmas.Option.{slice_get_within}
use Rattle.model_span.specs.Spans.{Kind, Call, SpanData, is_end, with_ticket}
use Rattle.model_span.specs.Sampling.{is_sampled}
use Rattle.model_span.specs.Starts.{StartedSpan, exported_span}
use Rattle.model_run.specs.Steps.{Parent, Step}
use Rattle.model_run.specs.History.{Setup, StartResult, start, call, start_count, start_results}
use Rattle.model_run.specs.History.{exported_of, exported_if_sampled, with_tickets, ended_spans}
use Rattle.model_run.specs.History.{span_step}
use Rattle.model_run.proofs.Histories.{outcomes-many, ended-start, ended-no-more, ended-more}
use Rattle.model_run.specs.Runs.{Answer, Answered, is_refused, span_steps, span_at, calls_so_far}
use Rattle.model_run.specs.Runs.{ended_by}
use Rattle.model_run.proofs.More.{is_shut, ended-open, ended-shut, ended-none, ended-some}
use Rattle.model_run.proofs.More.{exported-found}
use Rattle.model_run.specs.Laws.{OfHistories, EndedSpansStay, EndedAreFew}

abbrev pub told : Step → Answer → Answered
told step answer = record { step = step; answer = answer }

-- ---- starts

-- No span ends by a start.
pub start-ends-none : (setup : Setup) (h : List Answered) (sc : ℕ) (p : Parent) (k : Kind) (at : ℕ)
    (name : List ℕ) (answer : Answer)
    → ended_by setup (h ++ told (Step.start sc p k at name) answer ∷ []) ≡ ended_by setup h
start-ends-none setup h sc p k at name answer = by (is_shut h) refl
  where
    by : (b : Bool) → is_shut h ≡ b
        → ended_by setup (h ++ told (Step.start sc p k at name) answer ∷ []) ≡ ended_by setup h
    by true e = ended-shut setup h (told (Step.start sc p k at name) answer) e
    by false e =
        ended-some setup h (told (Step.start sc p k at name) answer)
        (start (is_refused answer) sc p k at name) e refl refl
        ∙ ended-start setup (span_steps h) (is_refused answer) sc p k at name
        ∙ sym (ended-open setup h e)

-- ---- calls

-- the call is the first end of a span that has started
abbrev pub is_first : List Answered → ℕ → Call → Bool
is_first h n c =
    is_end c && nat_lt n (start_count (span_steps h)) && not (list_any is_end (calls_so_far h n))

-- what the call exports
abbrev pub exports : Setup → List Answered → ℕ → Call → List SpanData
exports setup h n c =
    with_tickets (length (ended_by setup h))
    (option_to_list
    (exported_of (calls_so_far h n ++ c ∷ []) (slice_get (start_results setup (span_steps h)) n)))

-- A call before the shutdown ends the span that it exports, if it is the first end of a started
-- span.
pub call-open : (setup : Setup) (h : List Answered) (n : ℕ) (c : Call) (answer : Answer)
    → is_refused answer ≡ false → is_shut h ≡ false
    → ended_by setup (h ++ told (Step.call n c) answer ∷ [])
    ≡ ended_by setup h ++ cond (is_first h n c) (exports setup h n c) []
call-open setup h n c answer r e =
    opened
    ∙ by (is_end c) refl (nat_lt n (start_count (span_steps h))) refl
    (list_any is_end (calls_so_far h n)) refl
  where
    opened : ended_by setup (h ++ told (Step.call n c) answer ∷ [])
        ≡ ended_spans setup (span_steps h ++ call n c ∷ [])
    opened = ended-some setup h (told (Step.call n c) answer) (call n c) e refl (rw r refl)

    none : (is_end c && nat_lt n (start_count (span_steps h))
        && not (list_any is_end (calls_so_far h n)))
        ≡ false
        → ended_spans setup (span_steps h ++ call n c ∷ []) ≡ ended_by setup h ++ []
    none f =
        ended-no-more setup (span_steps h) n c f ∙ sym (ended-open setup h e)
        ∙ sym (append-nil (ended_by setup h))

    by : (a : Bool) → is_end c ≡ a → (l : Bool) → nat_lt n (start_count (span_steps h)) ≡ l
        → (b : Bool) → list_any is_end (calls_so_far h n) ≡ b
        → ended_spans setup (span_steps h ++ call n c ∷ [])
        ≡ ended_by setup h ++ cond (a && l && not b) (exports setup h n c) []
    by false f l g b k = none (rw f refl)
    by true f false g b k = none (rw (f, g) refl)
    by true f true g true k = none (rw (f, g, k) refl)
    by true f true g false k =
        (ended-more setup (span_steps h) n c f (ltb-true n _ g) k).0
        ∙ ap (λ es. es
        ++ with_tickets (length es)
        (option_to_list (exported_of (calls_so_far h n ++ c ∷ [])
        (slice_get (start_results setup (span_steps h)) n))))
        (sym (ended-open setup h e))

-- A call that exports nothing ends no span, whether or not there was a shutdown.
pub call-ends-none : (setup : Setup) (h : List Answered) (n : ℕ) (c : Call) (answer : Answer)
    → is_refused answer ≡ false → cond (is_first h n c) (exports setup h n c) [] ≡ []
    → ended_by setup (h ++ told (Step.call n c) answer ∷ []) ≡ ended_by setup h
call-ends-none setup h n c answer r none = by (is_shut h) refl
  where
    by : (b : Bool) → is_shut h ≡ b
        → ended_by setup (h ++ told (Step.call n c) answer ∷ []) ≡ ended_by setup h
    by true e = ended-shut setup h (told (Step.call n c) answer) e
    by false e =
        call-open setup h n c answer r e ∙ ap (λ es. ended_by setup h ++ es) none
        ∙ append-nil (ended_by setup h)

if-none : {A : Type 0} (b : Bool) (xs : List A) → xs ≡ [] → cond b xs [] ≡ []
if-none true xs e = e
if-none false xs e = refl

-- A start that made no span exports nothing, whatever calls follow.
exports-missing : (calls : List Call) (o : Option StartResult)
    → option_and_then (λ o. o.span) o ≡ None → exported_of calls o ≡ None
exports-missing calls None e = refl
exports-missing calls (Some r) e = ap (option_and_then (exported_if_sampled calls)) e

-- No span ends by a call on a span that doesn't exist.
pub missing-ends-none : (setup : Setup) (h : List Answered) (n : ℕ) (c : Call) (answer : Answer)
    → is_refused answer ≡ false → span_at setup h n ≡ None
    → ended_by setup (h ++ told (Step.call n c) answer ∷ []) ≡ ended_by setup h
missing-ends-none setup h n c answer r e =
    call-ends-none setup h n c answer r
    (if-none (is_first h n c) (exports setup h n c)
    (ap (λ o. with_tickets (length (ended_by setup h)) (option_to_list o))
    (exports-missing (calls_so_far h n ++ c ∷ [])
    (slice_get (start_results setup (span_steps h)) n) e)))

-- No span ends by a call that is no end or is a second end.
pub later-ends-none : (setup : Setup) (h : List Answered) (n : ℕ) (c : Call) (answer : Answer)
    → is_refused answer ≡ false → (is_end c && not (list_any is_end (calls_so_far h n))) ≡ false
    → ended_by setup (h ++ told (Step.call n c) answer ∷ []) ≡ ended_by setup h
later-ends-none setup h n c answer r e =
    call-ends-none setup h n c answer r
    (ap (λ b. cond b (exports setup h n c) [])
    (by (is_end c) (nat_lt n (start_count (span_steps h)))
    (not (list_any is_end (calls_so_far h n))) e))
  where
    by : (a l b : Bool) → (a && b) ≡ false → (a && l && b) ≡ false
    by true true b e = e
    by true false b e = refl
    by false l b e = refl

-- No span ends by a call on a span that isn't sampled.
pub unsampled-ends-none : (setup : Setup) (h : List Answered) (n : ℕ) (c : Call) (answer : Answer)
    (s : StartedSpan)
    → is_refused answer ≡ false → span_at setup h n ≡ Some s → is_sampled s.decision ≡ false
    → ended_by setup (h ++ told (Step.call n c) answer ∷ []) ≡ ended_by setup h
unsampled-ends-none setup h n c answer s r e d =
    let none : exported_of (calls_so_far h n ++ c ∷ [])
    (slice_get (start_results setup (span_steps h)) n)
    ≡ None =
    exported-found (calls_so_far h n ++ c ∷ [])
    (slice_get (start_results setup (span_steps h)) n) s e
    ∙ rw d refl in
    call-ends-none setup h n c answer r
    (if-none (is_first h n c) (exports setup h n c)
    (ap (λ o. with_tickets (length (ended_by setup h)) (option_to_list o)) none))

-- what the first end of a sampled span exports
abbrev pub exported_next : Setup → List Answered → ℕ → Call → StartedSpan → SpanData
exported_next setup h n c s =
    with_ticket (length (ended_by setup h)) (exported_span s (calls_so_far h n ++ c ∷ []))

has-started : (setup : Setup) (h : List Answered) (n : ℕ) (s : StartedSpan)
    → span_at setup h n ≡ Some s → nat_lt n (start_count (span_steps h)) ≡ true
has-started setup h n s e = by (slice_get (start_results setup (span_steps h)) n) refl e
  where
    by : (o : Option StartResult) → slice_get (start_results setup (span_steps h)) n ≡ o
        → option_and_then (λ o. o.span) o ≡ Some s → nat_lt n (start_count (span_steps h)) ≡ true
    by None f g = cc
    by (Some r) f g =
        lt-ltb n (start_count (span_steps h))
        (rw (outcomes-many setup (span_steps h)) at
        (slice_get_within (start_results setup (span_steps h)) n r f))

-- The first end of a sampled span before the shutdown ends it, with the next ticket.
pub first-end-ends : (setup : Setup) (h : List Answered) (n : ℕ) (c : Call) (answer : Answer)
    (s : StartedSpan)
    → is_refused answer ≡ false → is_shut h ≡ false → is_end c ≡ true
    → list_any is_end (calls_so_far h n) ≡ false → span_at setup h n ≡ Some s
    → is_sampled s.decision ≡ true
    → ended_by setup (h ++ told (Step.call n c) answer ∷ [])
    ≡ ended_by setup h ++ exported_next setup h n c s ∷ []
first-end-ends setup h n c answer s r o e f g d =
    let first : is_first h n c ≡ true = rw (e, has-started setup h n s g, f) refl in
    let one : exported_of (calls_so_far h n ++ c ∷ [])
    (slice_get (start_results setup (span_steps h)) n)
    ≡ Some (exported_span s (calls_so_far h n ++ c ∷ [])) =
    exported-found (calls_so_far h n ++ c ∷ [])
    (slice_get (start_results setup (span_steps h)) n) s g
    ∙ rw d refl in
    call-open setup h n c answer r o
    ∙ ap (λ b. ended_by setup h ++ cond b (exports setup h n c) []) first
    ∙ ap
    (λ es. ended_by setup h ++ with_tickets (length (ended_by setup h)) (option_to_list es)) one

-- ---- what ended stays

exports-few : (n : ℕ) (o : Option SpanData) → length (with_tickets n (option_to_list o)) ≤ 1
exports-few n None = omega arith
exports-few n (Some s) = omega arith

-- the spans that end by one step more: at most one
record OneMore (setup : Setup) (h : List Answered) (step : Step) (answer : Answer) : Type 0 where
  new : List SpanData
  are : ended_by setup (h ++ told step answer ∷ []) ≡ ended_by setup h ++ new
  few : length new ≤ 1

same-ended : (setup : Setup) (h : List Answered) (step : Step) (answer : Answer)
    → ended_by setup (h ++ told step answer ∷ []) ≡ ended_by setup h → OneMore setup h step answer
same-ended setup h step answer e =
    record { new = []; are = e ∙ sym (append-nil (ended_by setup h)); few = omega arith }

-- A step that is nothing for the spans ends none.
other-step : (setup : Setup) (h : List Answered) (step : Step) (answer : Answer)
    → span_step (is_refused answer) step ≡ None → OneMore setup h step answer
other-step setup h step answer e =
    same-ended setup h step answer (ended-none setup h (told step answer) e)

one-more : (setup : Setup) (h : List Answered) (step : Step) (answer : Answer)
    → OneMore setup h step answer
one-more setup h (Step.start sc p k at name) answer =
    same-ended setup h _ answer (start-ends-none setup h sc p k at name answer)
one-more setup h (Step.call n c) answer = by (is_refused answer) refl (is_shut h) refl
  where
    one : (b : Bool) → length (cond b (exports setup h n c) []) ≤ 1
    one true =
        exports-few (length (ended_by setup h))
        (exported_of (calls_so_far h n ++ c ∷ [])
        (slice_get (start_results setup (span_steps h)) n))
    one false = omega arith

    by : (r : Bool) → is_refused answer ≡ r → (b : Bool) → is_shut h ≡ b
        → OneMore setup h (Step.call n c) answer
    by true r b e = other-step setup h (Step.call n c) answer (rw r refl)
    by false r true e =
        same-ended setup h (Step.call n c) answer
        (ended-shut setup h (told (Step.call n c) answer) e)
    by false r false e = record {
      new = cond (is_first h n c) (exports setup h n c) [];
      are = call-open setup h n c answer r e;
      few = one (is_first h n c);
    }
one-more setup h Step.flush answer = other-step setup h Step.flush answer refl
one-more setup h Step.shutdown answer = other-step setup h Step.shutdown answer refl
one-more setup h (Step.take now) answer = other-step setup h (Step.take now) answer refl
one-more setup h Step.encode answer = other-step setup h Step.encode answer refl
one-more setup h (Step.attempt now) answer = other-step setup h (Step.attempt now) answer refl
one-more setup h (Step.reply now word) answer =
    other-step setup h (Step.reply now word) answer refl

-- A span that has ended keeps its ticket and its value, whatever follows.
pub ended-stay : OfHistories EndedSpansStay
ended-stay setup h [] =
    ([], ap (ended_by setup) (append-nil h) ∙ sym (append-nil (ended_by setup h)))
ended-stay setup h (x ∷ more) =
    let first : OneMore setup h x.step x.answer = one-more setup h x.step x.answer in
    let rest = ended-stay setup (h ++ x ∷ []) more in (
      first.new ++ rest.0,
      ap (ended_by setup) (sym (append_assoc h (x ∷ []) more)) ∙ rest.1
          ∙ ap (λ l. l ++ rest.0) first.are ∙ append_assoc (ended_by setup h) first.new rest.0,
    )

-- ---- how many end

few-more : (setup : Setup) (h : List Answered) (step : Step) (answer : Answer)
    → length (ended_by setup (h ++ told step answer ∷ [])) ≤ length (ended_by setup h) + 1
few-more setup h step answer =
    let one = one-more setup h step answer in
    rw (one.are, length-append (ended_by setup h) one.new)
    (omega (arith, one.few))

few-after : (setup : Setup) (h more : List Answered) → length (ended_by setup h) ≤ length h
    → length (ended_by setup (h ++ more)) ≤ length (h ++ more)
few-after setup h [] l = subst (λ g. length (ended_by setup g) ≤ length g) (sym (append-nil h)) l
few-after setup h (x ∷ more) l =
    let one : length (ended_by setup (h ++ x ∷ [])) ≤ length (ended_by setup h) + 1 =
    few-more setup h x.step x.answer in
    let longer : length (h ++ x ∷ []) ≡ length h + 1 = length-append h (x ∷ []) in
    subst (λ g. length (ended_by setup g) ≤ length g) (append_assoc h (x ∷ []) more)
    (few-after setup (h ++ x ∷ []) more (omega (arith, one, longer, l)))

none-ended : (setup : Setup) → length (ended_by setup []) ≤ 0
unfolding ended_by
none-ended setup = omega arith

-- No more spans end than there are steps.
pub ended-are-few : OfHistories EndedAreFew
ended-are-few setup h = few-after setup [] h (none-ended setup)

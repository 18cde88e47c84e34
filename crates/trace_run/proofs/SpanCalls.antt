-- What a call makes of a table of spans.
use Rattle.std.proofs.Common.{◌≡◌, refl, sym, ap, subst, ◌∙◌, ℕ, length, List, [], ◌∷◌, ◌++◌, map}
use Rattle.std.proofs.Common.{Bool, true, false, true≢false, ◌&&◌, ◌||◌, Option, Some, None}
use Rattle.std.proofs.Common.{option_map, slice_get, IfSome, Result, Ok, Err, OnOk, OnErr, ◌⊎◌, inl}
use Rattle.std.proofs.Common.{inr, ⊎_elim}
use Rattle.std.specs.List.{list_any, slice_set}
use Rattle.std.specs.Result.{is_err}
use Rattle.std.proofs.lemmas.List.{append-nil, length-set}
use Rattle.std.proofs.lemmas.List.Folds.{list_any-append}
use Rattle.rand_core.specs.Stream.{Stream}
use Rattle.model_span.specs.Identifiers.{has_sampled_flag}
use Rattle.model_span.specs.Sampling.{Decision, SamplerMeaning, drop as dropped, record_only}
use Rattle.model_span.specs.Sampling.{record_and_sample, is_recording, is_sampled}
use Rattle.model_span.specs.Spans.{Call, Scope, Resource, Span, SpanRecord, Ends, SpanData, end}
use Rattle.model_span.specs.Spans.{end_of, is_end, span}
use Rattle.model_span.specs.Starts.{Does, HeldSpan, SpanState, StartedSpan, recording}
use Rattle.model_span.specs.Starts.{not_recording, ended, held_span, state_after, exported_span}
use Rattle.model_span.specs.Starts.{is_recording_state}
use Rattle.model_run.specs.Steps as program
use Rattle.model_run.specs.History.{SpanStep, Setup, StartResult, call, start_results, words_left}
use Rattle.model_run.specs.History.{calls_on}
use Rattle.model_run.proofs.Histories.{outcomes-call, outcome-has-flag, all-live}
use Rattle.model_run.specs.Runs.{is_refused, span_steps}
use Rattle.model_run.specs.Answers.{has_text, is_live}
use Rattle.otlp_ids.specs.WordStream.{words_of}
use Rattle.otlp_span.specs.Parts.{call_view}
use Rattle.otlp_span.specs.declared.parts.SpanCall.{SpanCall}
use Rattle.otlp_span.specs.declared.parts.SpanCall.TheVariants as calls
use Rattle.trace_api.specs.Calls.{Asks}
use Rattle.trace_api.specs.Starts.{tracer_view}
use Rattle.trace_api.specs.declared.pass.Ended.{Ended}
use Rattle.trace_run.specs.Answers.{answer_view}
use Rattle.trace_run.specs.declared.answer.Answer.{Answer}
use Rattle.trace_run.specs.declared.answer.Answer.TheVariants as answers
use Rattle.trace_run.specs.Table.{IsTable, TableWith, answer_to_call, calls_so_far, span_after}
use Rattle.trace_run.specs.Table.{span_numbered}
use Rattle.trace_run.specs.Ends.{EndsAs, EndsBy}
use Rattle.trace_run.specs.Calls.{CallsAmong, EndsSpan, MadeAs}
use Rattle.trace_run.proofs.SpanSteps.{AreAfter, set-same, spans-called, spans-same}

-- ---- facts of answers

-- A promise of the error case holds where the result is an error.
pub where-refused : {T E : Type 0} {P : Type 0} (r : Result T E) → is_err r ≡ true → OnErr r P → P
where-refused (Ok x) e h = absurd (true≢false (sym e))
where-refused (Err x) e h = h

-- A promise of the success case holds where the result is no error.
pub where-made : {T E : Type 0} {P : Type 0} (r : Result T E) → is_err r ≡ false → OnOk r P → P
where-made (Ok x) e h = h
where-made (Err x) e h = absurd (true≢false e)

-- ---- calls

-- A call of the code that isn't an end is no end in the model.
pub not-end : {A : Type 0} (c : SpanCall A) → ((at : ℕ) → c ≡ calls.End at → ⊥)
    → (is_end (call_view c) ≡ false) × (end_of (call_view c) ≡ None)
not-end (calls.SetAttribute key value) h = (refl, refl)
not-end (calls.AddEvent name at pairs) h = (refl, refl)
not-end (calls.RecordException kind message stack at pairs) h = (refl, refl)
not-end (calls.AddLink to pairs) h = (refl, refl)
not-end (calls.SetStatus status) h = (refl, refl)
not-end (calls.UpdateName name) h = (refl, refl)
not-end (calls.End at) h = absurd (h at refl)

-- A call is an end or it isn't.
which : (c : Call) → ((is_end c ≡ false) × (end_of c ≡ None)) ⊎ ((at : ℕ) × (c ≡ end at))
which (Call.set_attribute p) = inl (refl, refl)
which (Call.add_event n a p) = inl (refl, refl)
which (Call.record_exception k m s a p) = inl (refl, refl)
which (Call.add_link x p) = inl (refl, refl)
which (Call.set_status s) = inl (refl, refl)
which (Call.update_name n) = inl (refl, refl)
which (Call.end at) = inr (at, refl)

-- A call that is no end changes nothing on a span that isn't recording.
pub does-nothing : (c : Call) (h : HeldSpan) → is_end c ≡ false → is_recording_state h.state ≡ false
    → Does c h h
unfolding held_span
does-nothing c h k n = record { context = refl; value = λ s calls e. e ∙ stays s calls (rw e at n) }
  where
    more : (calls : List Call) (b : Bool) → list_any is_end calls ≡ b
        → list_any is_end (calls ++ c ∷ []) ≡ (b || (false || false))
    more calls b e = list_any-append is_end calls (c ∷ []) ∙ rw (e, k) refl

    by : (s : StartedSpan) (calls : List Call) (b : Bool) → list_any is_end calls ≡ b → (d : Bool)
        → is_recording s.decision ≡ d → is_recording_state (state_after s calls) ≡ false
        → state_after s calls ≡ state_after s (calls ++ c ∷ [])
    by s calls true e d f n = let m = more calls true e in rw (e, m) refl
    by s calls false e true f n = let no : true ≡ false = rw (e, f) at n in absurd (true≢false no)
    by s calls false e false f n = let m = more calls false e in rw (e, m, f) refl

    stays : (s : StartedSpan) (calls : List Call) → is_recording_state (state_after s calls) ≡ false
        → held_span s calls ≡ held_span s (calls ++ c ∷ [])
    stays s calls n =
        let held : SpanState → HeldSpan = λ x. record { context = s.start.context; state = x } in
        ap held (by s calls (list_any is_end calls) refl (is_recording s.decision) refl n)

-- Calls on a span that is recording count.
live-is : (s : StartedSpan) (calls : List Call)
    → is_recording_state (held_span s calls).state ≡ true → is_live s calls ≡ true
unfolding held_span
live-is s calls = by (list_any is_end calls) refl (is_recording s.decision) refl
  where
    by : (b : Bool) → list_any is_end calls ≡ b → (d : Bool) → is_recording s.decision ≡ d
        → is_recording_state (state_after s calls) ≡ true → is_live s calls ≡ true
    by true e d f n = let no : false ≡ true = rw e at n in absurd (true≢false (sym no))
    by false e true f n = rw (e, f) refl
    by false e false f n = let no : false ≡ true = rw (e, f) at n in absurd (true≢false (sym no))

-- whether it was made
made-by : (c : Call) (old new : HeldSpan) (answer : Answer) → MadeAs c old new answer →
    ((answer ≡ answers.Done) × Does c old new)
    ⊎ ((answer ≡ answers.OutOfMemory) × (is_recording_state old.state ≡ true) × (has_text c ≡ true)
    × (new ≡ old))
made-by c old new (answers.Started trace id) h = absurd h
made-by c old new answers.NoRandomness h = absurd h
made-by c old new answers.OutOfMemory h = inr (refl, h.0, h.1, h.2)
made-by c old new answers.NoSpan h = absurd h
made-by c old new answers.Done h = inl (refl, h)
made-by c old new (answers.Ended said) h = absurd h
made-by c old new answers.Flush h = absurd h
made-by c old new answers.Shutdown h = absurd h
made-by c old new (answers.Taken batch spans) h = absurd h
made-by c old new answers.NotTaken h = absurd h
made-by c old new (answers.Encoded batch length) h = absurd h
made-by c old new (answers.Dropped batch reason) h = absurd h
made-by c old new (answers.Sent batch attempt outcome) h = absurd h
made-by c old new (answers.Replied batch next) h = absurd h
made-by c old new answers.Early h = absurd h
made-by c old new answers.Nothing h = absurd h

-- ---- the span in a slot

record HasSpan (setup : Setup) (steps : List SpanStep) (n : ℕ) (held : HeldSpan) : Type 0 where
  o : StartResult
  there : slice_get (start_results setup steps) n ≡ Some o
  s : StartedSpan
  is_span : o.span ≡ Some s
  held_is : held ≡ held_span s (calls_on n steps)

has-span : (setup : Setup) (steps : List SpanStep) (n : ℕ) (spans : List (Option HeldSpan))
    (held : HeldSpan)
    → AreAfter (λ m. calls_on m steps) (start_results setup steps) spans
    → slice_get spans n ≡ Some (Some held) → HasSpan setup steps n held
has-span setup steps n spans held h there =
    by (slice_get (start_results setup steps) n) refl (sym there ∙ h n)
  where
    within : (o : StartResult) → slice_get (start_results setup steps) n ≡ Some o
        → (x : Option StartedSpan) → o.span ≡ x
        → Some (Some held) ≡ Some (option_map (λ s. held_span s (calls_on n steps)) x)
        → HasSpan setup steps n held
    within o e None f i = cc
    within o e (Some x) f i = record {
      o = o;
      there = e;
      s = x;
      is_span = f;
      held_is = (let same : held ≡ held_span x (calls_on n steps) = cc in same);
    }

    by : (o : Option StartResult) → slice_get (start_results setup steps) n ≡ o
        → Some (Some held) ≡ option_map (span_after (calls_on n steps)) o
        → HasSpan setup steps n held
    by None e i = cc
    by (Some o) e i = within o e o.span refl i

numbered-is : (setup : Setup) (steps : List SpanStep) (n : ℕ) (held : HeldSpan)
    (x : HasSpan setup steps n held)
    → span_numbered setup steps n ≡ Some x.s
numbered-is setup steps n held x = let there = x.there in let is = x.is_span in rw there is

numbered-none : (setup : Setup) (steps : List SpanStep) (n : ℕ) (spans : List (Option HeldSpan))
    → AreAfter (λ m. calls_on m steps) (start_results setup steps) spans
    → ((h : HeldSpan) → slice_get spans n ≡ Some (Some h) → ⊥) → span_numbered setup steps n ≡ None
numbered-none setup steps n spans h missing = by (slice_get (start_results setup steps) n) refl
  where
    within : (o : StartResult) → slice_get (start_results setup steps) n ≡ Some o
        → (x : Option StartedSpan) → o.span ≡ x → o.span ≡ None
    within o e None f = f
    within o e (Some x) f =
        absurd (missing (held_span x (calls_on n steps)) (h n ∙ rw e (rw f refl)))

    by : (o : Option StartResult) → slice_get (start_results setup steps) n ≡ o
        → span_numbered setup steps n ≡ None
    by None e = rw e refl
    by (Some o) e = rw e (within o e o.span refl)

-- a slot without a span
none-there : (spans : List (Option HeldSpan)) (n : ℕ) → slice_get spans n ≡ None → (h : HeldSpan)
    → slice_get spans n ≡ Some (Some h) → ⊥
none-there spans n e h f =
    let no : ◌≡◌ {A = Option (Option HeldSpan)} None (Some (Some h)) = sym e ∙ f in cc

none-in : (spans : List (Option HeldSpan)) (n : ℕ) → slice_get spans n ≡ Some None → (h : HeldSpan)
    → slice_get spans n ≡ Some (Some h) → ⊥
none-in spans n e h f =
    let no : ◌≡◌ {A = Option (Option HeldSpan)} (Some None) (Some (Some h)) = sym e ∙ f in cc

-- ---- an end

sampled-recorded : (d : Decision) → is_sampled d ≡ true → is_recording d ≡ true
sampled-recorded dropped h = absurd (true≢false (sym h))
sampled-recorded record_only h = refl
sampled-recorded record_and_sample h = refl

same-ended : (e f : SpanData) → e.resource ≡ f.resource → e.scope ≡ f.scope → e.span ≡ f.span
    → e.ticket ≡ f.ticket → e ≡ f
same-ended e f p q h t =
    let make : Resource → Scope → Span → ℕ → SpanData =
    λ r s x n. record { resource = r; scope = s; span = x; ticket = n } in
    ap (λ y. make y e.scope e.span e.ticket) p ∙ ap (λ y. make f.resource y e.span e.ticket) q
    ∙ ap (λ y. make f.resource f.scope y e.ticket) h ∙ ap (λ y. make f.resource f.scope f.span y) t

-- what is recorded of a span
abbrev recorded : StartedSpan → List Call → SpanRecord
recorded s calls = record {
  limits = s.limits;
  resource = s.resource;
  scope = s.scope;
  span = span s.limits s.start calls;
}

ends-to-exported : (s : StartedSpan) (calls : List Call) (at : ℕ) (e : SpanData)
    → list_any is_end calls ≡ false → Ends at (recorded s calls) e
    → e ≡ exported_span s (calls ++ end at ∷ [])
ends-to-exported s calls at e b h =
    same-ended e (exported_span s (calls ++ end at ∷ [])) h.resource h.scope
    (h.value s.start calls (record { none_ends = all-live calls b; is = refl })) h.ticket

-- where a recorded and sampled span goes, and one that isn't
not-going : (b f : Bool) → f ≡ false → (b && f) ≡ false
not-going true f e = e
not-going false f e = refl

ends-as : {P : Type 0} (admits : P → SpanData → Ended → P → Type 0) (s : StartedSpan)
    (calls : List Call) (at : ℕ) (new : HeldSpan) (before after : P) (answer : Answer)
    → has_sampled_flag s.start.context.flags ≡ is_sampled s.decision →
    EndsSpan admits at (held_span s calls) before answer new after
    → EndsAs admits (Some s) calls at before answer after
unfolding held_span
ends-as {P = P} admits s calls at new before after answer flag x =
    by (list_any is_end calls) refl (is_sampled s.decision) refl
  where
    open-state : (d : Bool) → list_any is_end calls ≡ false → is_recording s.decision ≡ d
        → state_after s calls ≡ ended → ⊥
    open-state true e f h = let no : recording (recorded s calls) ≡ ended = rw (e, f) at h in cc
    open-state false e f h = let no : not_recording ≡ ended = rw (e, f) at h in cc

    by : (b : Bool) → list_any is_end calls ≡ b → (d : Bool) → is_sampled s.decision ≡ d
        → EndsBy admits b d (exported_span s (calls ++ end at ∷ [])) before answer after
    by true e d f =
        let says = x.already_ended (rw e refl) in
        record {
          answered = x.answered ∙ ap answers.Ended says.answered;
          untouched = says.untouched;
        }
    by false e false f =
        let says =
        x.not_sampled (open-state (is_recording s.decision) e refl)
        (not-going (is_recording_state (state_after s calls))
        (has_sampled_flag s.start.context.flags) (flag ∙ f)) in
        record {
          answered = x.answered ∙ ap answers.Ended says.answered;
          untouched = says.untouched;
        }
    by false e true f =
        let r : is_recording s.decision ≡ true = sampled-recorded s.decision f in
        let flagged : has_sampled_flag s.start.context.flags ≡ true = flag ∙ f in
        let asks : Asks admits at (recorded s calls) before x.said after =
        rw (e, r) at (x.sampled (rw (e, r, flagged) refl)) in
        record {
          said = x.said;
          answered = x.answered;
          asked =
              subst (λ y. admits before y x.said after)
              (ends-to-exported s calls at asks.span e asks.value) asks.asked;
          admission = asks.admission;
        }

-- ---- the table after a call

module _ {S R : Type 0} (meaning : S → SamplerMeaning) (stream : R → Stream) (setup : Setup)
    (steps : List SpanStep) (n : ℕ) (c : Call) (old new : TableWith S R)
    (h : IsTable meaning stream setup steps old) (t : new.tracers ≡ old.tracers)
    (g : new.rng ≡ old.rng) where
  words-kept : words_of (stream new.rng)
      ≡ words_left setup (start_results setup (steps ++ call n c ∷ []))
  words-kept =
      ap (λ r. words_of (stream r)) g ∙ h.words
      ∙ ap (words_left setup) (sym (outcomes-call setup steps n c))

  -- A call on a span that doesn't exist leaves the table that of the steps and this call.
  missed-is : new.spans ≡ old.spans → ((h : HeldSpan) → slice_get old.spans n ≡ Some (Some h) → ⊥)
      → IsTable meaning stream setup (steps ++ call n c ∷ []) new
  missed-is s missing = record {
    tracers = ap (map (tracer_view meaning)) t ∙ h.tracers;
    words = words-kept;
    many = ap length s ∙ h.many ∙ ap length (sym (outcomes-call setup steps n c));
    spans = rw s (spans-same setup steps n c old.spans h.spans missing);
  }

  -- A call that was made leaves the table that of the steps and this call.
  called-is : (held held' : HeldSpan) → HasSpan setup steps n held → Does c held held'
      → new.spans ≡ slice_set old.spans n (Some held')
      → IsTable meaning stream setup (steps ++ call n c ∷ []) new
  called-is held held' x does s = record {
    tracers = ap (map (tracer_view meaning)) t ∙ h.tracers;
    words = words-kept;
    many =
        ap length s ∙ length-set old.spans n (Some held') ∙ h.many
        ∙ ap length (sym (outcomes-call setup steps n c));
    spans =
        rw s
        (spans-called setup steps n c old.spans x.o x.s held' h.spans x.there x.is_span
        (does.value x.s (calls_on n steps) x.held_is) h.many);
  }

  -- A call for which memory was refused leaves the table that of the steps alone.
  refused-is : new.spans ≡ old.spans → IsTable meaning stream setup (steps ++ []) new
  refused-is s = rw (append-nil steps) (record {
    tracers = ap (map (tracer_view meaning)) t ∙ h.tracers;
    words = ap (λ r. words_of (stream r)) g ∙ h.words;
    many = ap length s ∙ h.many;
    spans = rw s h.spans;
  })

  -- The table after a call is that of the steps and this call, where it counts.
  pub table-is : {P : Type 0} (admits : P → SpanData → Ended → P → Type 0) (before after : P)
      (answer : Answer) (slot : Option (Option HeldSpan))
      → slice_get old.spans n ≡ slot
      → CallsAmong admits n c slot old.spans before answer new.spans after →
      IsTable meaning stream setup
      (steps ++ span_steps (record { step = program.call n c; answer = answer_view answer } ∷ []))
      new
  table-is admits before after answer None e x =
      rw x.answered (missed-is x.spans (none-there old.spans n e))
  table-is admits before after answer (Some None) e x =
      rw x.answered (missed-is x.spans (none-in old.spans n e))
  table-is admits before after answer (Some (Some held)) e x = ⊎_elim
      (λ k. ⊎_elim
      (λ m. rw m.0 (called-is held x.0 (has-span setup steps n old.spans held h.spans e) m.1 x.1))
      (λ m. let unchanged : slice_set old.spans n (Some x.0) ≡ old.spans =
      ap (λ y. slice_set old.spans n (Some y)) m.3 ∙ set-same old.spans n (Some held) e in
      rw m.0 (refused-is (x.1 ∙ unchanged)))
      (made-by c held x.0 answer (x.2.made k.0)))
      (λ k. let ends : EndsSpan admits k.0 held before answer x.0 after = rw k.1 at x.2.ended in
      let does : Does c held x.0 = subst (λ y. Does y held x.0) (sym k.1) ends.does in
      rw ends.answered
      (called-is held x.0 (has-span setup steps n old.spans held h.spans e) does x.1))
      (which c)

-- ---- the answer to a call

module _ {S R P : Type 0} (meaning : S → SamplerMeaning) (stream : R → Stream)
    (admits : P → SpanData → Ended → P → Type 0) (n : ℕ) (old : TableWith S R)
    (news : List (Option HeldSpan)) (before after : P) (answer : Answer) where
  -- The answer to a call that is no end is the one that the steps before it mean.
  pub answered-is : (c : Call) (slot : Option (Option HeldSpan)) → slice_get old.spans n ≡ slot
      → CallsAmong admits n c slot old.spans before answer news after → is_end c ≡ false →
      (setup : Setup) (steps : List SpanStep) → IsTable meaning stream setup steps old
      → answer_view answer
      ≡ answer_to_call (is_refused (answer_view answer)) (calls_so_far steps n) c
      (span_numbered setup steps n)
  answered-is c None e x k setup steps h =
      let none = numbered-none setup steps n old.spans h.spans (none-there old.spans n e) in
      rw (x.answered, none) refl
  answered-is c (Some None) e x k setup steps h =
      let none = numbered-none setup steps n old.spans h.spans (none-in old.spans n e) in
      rw (x.answered, none) refl
  answered-is c (Some (Some held)) e x k setup steps h =
      let has = has-span setup steps n old.spans held h.spans e in
      let numbered = numbered-is setup steps n held has in
      ⊎_elim
      (λ m. rw (m.0, numbered) refl)
      (λ m. let live : is_live has.s (calls_on n steps) ≡ true =
      live-is has.s (calls_on n steps)
      (subst (λ y. is_recording_state y.state ≡ true) has.held_is m.1) in
      rw (m.0, numbered, live, m.2) refl)
      (made-by c held x.0 answer (x.2.made k))

  -- A call that is no end leaves the pass as it was.
  pub asks-nothing-is : (c : Call) (slot : Option (Option HeldSpan))
      → CallsAmong admits n c slot old.spans before answer news after → is_end c ≡ false
      → after ≡ before
  asks-nothing-is c None x k = x.untouched
  asks-nothing-is c (Some None) x k = x.untouched
  asks-nothing-is c (Some (Some held)) x k = x.2.asks_nothing k

  -- A call leaves the number of slots in the table as it was.
  pub many-is : (c : Call) (slot : Option (Option HeldSpan))
      → CallsAmong admits n c slot old.spans before answer news after
      → length news ≡ length old.spans
  many-is c None x = ap length x.spans
  many-is c (Some None) x = ap length x.spans
  many-is c (Some (Some held)) x = ap length x.1 ∙ length-set old.spans n (Some x.0)

  -- An end on a slot answers and asks the pass as the steps before it mean.
  end-is : (at : ℕ) (slot : Option (Option HeldSpan)) → slice_get old.spans n ≡ slot
      → CallsAmong admits n (end at) slot old.spans before answer news after →
      (setup : Setup) (steps : List SpanStep) → IsTable meaning stream setup steps old
      → EndsAs admits (span_numbered setup steps n) (calls_so_far steps n) at before answer after
  end-is at None e x setup steps h =
      let none = numbered-none setup steps n old.spans h.spans (none-there old.spans n e) in
      rw none (record { answered = x.answered; untouched = x.untouched })
  end-is at (Some None) e x setup steps h =
      let none = numbered-none setup steps n old.spans h.spans (none-in old.spans n e) in
      rw none (record { answered = x.answered; untouched = x.untouched })
  end-is at (Some (Some held)) e x setup steps h =
      let has = has-span setup steps n old.spans held h.spans e in
      let numbered = numbered-is setup steps n held has in
      let flag = outcome-has-flag setup steps n has.o has.s has.there has.is_span in
      let ends : EndsSpan admits at (held_span has.s (calls_on n steps)) before answer x.0 after =
      subst (λ y. EndsSpan admits at y before answer x.0 after) has.held_is x.2.ended in
      rw numbered (ends-as admits has.s (calls_on n steps) at x.0 before after answer flag ends)

  -- An end answers and asks the pass as the steps before it mean.
  pub ended-is : (c : Call) (slot : Option (Option HeldSpan)) → slice_get old.spans n ≡ slot
      → CallsAmong admits n c slot old.spans before answer news after →
      IfSome (end_of c)
      (λ at. (setup : Setup) (steps : List SpanStep) → IsTable meaning stream setup steps old
      → EndsAs admits (span_numbered setup steps n) (calls_so_far steps n) at before answer after)
  ended-is c slot e x = ⊎_elim
      (λ k. rw k.1 tt)
      (λ k. let same : CallsAmong admits n (end k.0) slot old.spans before answer news after =
      rw k.1 at x in
      rw k.1 (end-is k.0 slot e same))
      (which c)

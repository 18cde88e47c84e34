-- The end of a span goes to a pass.
use Rattle.std.proofs.Common.{◌≡◌, refl, ap, subst, ◌∙◌, ℕ, List, [], ◌∷◌, ◌++◌, Bool, true}
use Rattle.std.proofs.Common.{false, Option, Some, None}
use Rattle.std.specs.List.{list_any}
use Rattle.std.proofs.lemmas.List.Folds.{list_any-append}
use Rattle.model_span.specs.Identifiers.{has_sampled_flag}
use Rattle.model_span.specs.Sampling.{is_recording}
use Rattle.model_span.specs.Spans.{Call, Resource, Scope, Span, SpanData, SpanRecord, Ends, end}
use Rattle.model_span.specs.Spans.{is_end, span}
use Rattle.model_span.specs.Starts.{HeldSpan, StartedSpan, exported_span, held_span}
use Rattle.model_span.specs.Starts.{recording, not_recording, ended}
use Rattle.model_span.specs.Starts.{state_after}
use Rattle.model_span.proofs.Live.{all-live}
use Rattle.trace_api.specs.ExtCalls.{DoesAll}
use Rattle.trace_api.specs.Calls.{Asks, IsRecordingWith, Says, goes_to_pass}
use Rattle.trace_api.specs.declared.pass.Ended.{Ended}
use Rattle.trace_api.specs.declared.pass.Ended.TheVariants as ends
use Rattle.trace_api.specs.Endings.{Ending, ending_calls}
use Rattle.trace_api.specs.Ends.{EndsAs, Handed}

-- None of the calls that describe the outcome of a request is an end.
pub none-ends : (e : Ending) → list_any is_end (ending_calls e) ≡ false
none-ends e = by e.status e.error_type
  where
    by : (status : Option ℕ) (what : Option (List ℕ))
        → list_any is_end (ending_calls (record { status = status; error_type = what })) ≡ false
    by None None = refl
    by None (Some what) = refl
    by (Some status) None = refl
    by (Some status) (Some what) = refl

-- what is recorded of a span
abbrev recorded : StartedSpan → List Call → SpanRecord
recorded s calls = record {
  limits = s.limits;
  resource = s.resource;
  scope = s.scope;
  span = span s.limits s.start calls;
}

same-ended : (e f : SpanData) → e.resource ≡ f.resource → e.scope ≡ f.scope → e.span ≡ f.span
    → e.ticket ≡ f.ticket → e ≡ f
same-ended e f p q h t =
    let make : Resource → Scope → Span → ℕ → SpanData =
    λ r s x n. record { resource = r; scope = s; span = x; ticket = n } in
    ap (λ y. make y e.scope e.span e.ticket) p ∙ ap (λ y. make f.resource y e.span e.ticket) q
    ∙ ap (λ y. make f.resource f.scope y e.ticket) h ∙ ap (λ y. make f.resource f.scope f.span y) t

is-exported : (s : StartedSpan) (calls : List Call) (at : ℕ) (e : SpanData)
    → list_any is_end calls ≡ false → Ends at (recorded s calls) e
    → e ≡ exported_span s (calls ++ end at ∷ [])
is-exported s calls at e b h =
    same-ended e (exported_span s (calls ++ end at ∷ [])) h.resource h.scope
    (h.value s.start calls (record { none_ends = all-live calls b; is = refl })) h.ticket

-- what an end says of a pass
pub record EndFacts {P : Type 0} (admits : P → SpanData → Ended → P → Type 0) (at : ℕ)
    (held : HeldSpan) (old : P) (answer : Ended) (new : P) : Type 0 where
  pub not_sampled : (held.state ≡ ended → ⊥) → goes_to_pass held ≡ false
      → Says ends.NotSampled old answer new
  pub sampled : goes_to_pass held ≡ true
      → IsRecordingWith (λ r. Asks admits at r old answer new) held.state

-- a span none of whose calls is an end
handed : {P : Type 0} (admits : P → SpanData → Ended → P → Type 0) (s : StartedSpan)
    (calls : List Call) (at : ℕ) (old new : P) (answer : Ended)
    → list_any is_end calls ≡ false
    → EndFacts admits at (held_span s calls) old answer new
    → Handed admits s (calls ++ end at ∷ []) old new
unfolding held_span
handed {P = P} admits s calls at old new answer none x =
    by (is_recording s.decision) refl (has_sampled_flag s.start.context.flags) refl
  where
    open-state : (d : Bool) → is_recording s.decision ≡ d → state_after s calls ≡ ended → ⊥
    open-state true f h = let no : recording (recorded s calls) ≡ ended = rw (none, f) at h in cc
    open-state false f h = let no : not_recording ≡ ended = rw (none, f) at h in cc

    by : (d : Bool) → is_recording s.decision ≡ d → (b : Bool)
        → has_sampled_flag s.start.context.flags ≡ b
        → Handed admits s (calls ++ end at ∷ []) old new
    by true f true g =
        let asks : Asks admits at (recorded s calls) old answer new =
        rw (none, f) at (x.sampled (rw (none, f, g) refl)) in
        rw (f, g) (
          answer,
          subst (λ y. admits old y answer new)
              (is-exported s calls at asks.span none asks.value) asks.asked,
          asks.admission,
        )
    by true f false g =
        rw (f, g) (x.not_sampled (open-state true f) (rw (none, f, g) refl)).untouched
    by false f b g = rw f (x.not_sampled (open-state false f) (rw (none, f) refl)).untouched

-- A span that gets further calls and then ends is handed to the pass with these and the end.
pub ends-as : {P : Type 0} (admits : P → SpanData → Ended → P → Type 0) (more : List Call) (at : ℕ)
    (first said : HeldSpan) (old new : P) (answer : Ended)
    → list_any is_end more ≡ false
    → DoesAll more first said → EndFacts admits at said old answer new
    → EndsAs admits more at first old new
ends-as admits more at first said old new answer none-more does x = record {
  value = λ s calls e none.
      let now : said ≡ held_span s (calls ++ more) = does.value s calls e in
      let none-now : list_any is_end (calls ++ more) ≡ false =
      list_any-append is_end calls more ∙ rw (none, none-more) refl in
      handed admits s (calls ++ more) at old new answer none-now
      (subst (λ h. EndFacts admits at h old answer new) now x);
}

-- Runs one after another.
use Rattle.std.proofs.Common.{◌≡◌, ℕ, suc, zero, ◌+◌, ◌*◌, ◌<◌, ◌≤◌, arith, ◌⊎◌, Bool, true, false}
use Rattle.std.proofs.Common.{cond, length, List, [], ◌∷◌, ◌++◌, refl, sym, ap, subst, ◌∙◌}
use Rattle.std.proofs.Common.{append_assoc, append-nil, inl, inr, None, Option, Some}
use Rattle.std.specs.Option.{ForSome}
use Rattle.std.specs.Prelude.{IsSome}
use Rattle.std.proofs.lemmas.Grind.{flat_map-append}
use Rattle.http.specs.declared.request.Parts.{Parts}
use Rattle.http.specs.declared.request.Request.{Request}
use Rattle.http.specs.Request.{body_of, head_of}
use Rattle.http1.specs.declared.server.Server.{Server}
use Rattle.http_server.specs.declared.response.Response.{Response}
use Rattle.http_connection.specs.declared.connection.Stage.{Stage}
use Rattle.http_connection.specs.declared.connection.Stage.TheVariants as At
use Rattle.http_connection.specs.declared.limits.Phase.TheVariants.{Done}
use Rattle.http_connection.specs.declared.limits.Refusal.{Refusal}
use Rattle.http_connection.specs.Connections.{advances_at, phase_at, place_at, rank, reads_at}
use Rattle.http_connection.specs.Connections.{rests_at}
use Rattle.http_connection.specs.Stages.{whole_at}
use Rattle.http_connection.specs.Texts.{continue_text, refusal_text, piece_text}
use Rattle.http_connection.specs.Runs.{IsOpen, asks_head, answer_text, place_after, Place, Awaits}
use Rattle.http_connection.specs.Runs.{Takes, Writes, Over, Act, Took, Kept, Wrote, Does, Chain}
use Rattle.http_connection.specs.Runs.{Runs, text_of, texts_of}
use Rattle.http_connection.specs.Turns.{Turn, judged, Admitted, Rejected, Answered, Refused}

module _ {S P : Type 0} (answers : S → Turn P → S → Type 0) (writes : P → List ℕ → Type 0)
    (most : ℕ) where
  -- Where a connection is over, nothing more is done.
  pub nothing_over : (s : S) (act : Act P) (t : S) (after : Place P)
      → Does answers writes most s Over act t after → ⊥
  nothing_over s (Took (Admitted head) text) t after (answered, (awaits, lets_in, says)) = cc
  nothing_over s (Took (Rejected head r) text) t after (answered, (awaits, ends, says)) = cc
  nothing_over s (Took (Answered request r pieces) text) t after
      (answered, (takes, ends, bound, says)) = cc
  nothing_over s (Took (Refused why r) text) t after (answered, (is_open, ends, says)) = is_open
  nothing_over s (Kept piece) t after (same, (head, body, takes, keeps)) = cc
  nothing_over s (Wrote old piece more new text) t after (writes_old, same, ends, is, says) = cc

  -- A chain from where a connection is over is one from anywhere, since nothing is done in it.
  chain_over : (s : S) (place : Place P) (acts : List (Act P)) (t : S) (after : Place P)
      → Chain answers writes most s Over acts t after
      → Chain answers writes most s place acts t after
  chain_over s place [] t after x = (x.0, elim x.1 [ inl e ↦ inr e | inr e ↦ inr e ])
  chain_over s place (act ∷ acts) t after x = absurd (nothing_over s act x.0 x.1 x.2)

  -- Two chains, one after the other, are one chain.
  pub chain_append : (s : S) (place : Place P) (first second : List (Act P)) (m : S) (p : Place P)
      (t : S) (after : Place P) → Chain answers writes most s place first m p
      → Chain answers writes most m p second t after
      → Chain answers writes most s place (first ++ second) t after
  chain_append s place [] second m p t after x y =
      let z : Chain answers writes most s p second t after =
      subst (λ (v : S). Chain answers writes most v p second t after) x.0 y in
      elim x.1 [
        | inl e ↦ subst (λ (v : Place P). Chain answers writes most s v second t after) e z
        | inr e ↦ chain_over s place second t after
            (subst (λ (v : Place P). Chain answers writes most s v second t after) e z)
      ]
  chain_append s place (act ∷ first) second m p t after x y =
      (x.0, x.1, x.2, chain_append x.0 x.1 first second m p t after x.3 y)

  -- A head that is admitted is one turn of a run, which then takes the body of the request.
  pub admitted_run : (s : S) (admitted : Bool) (head : Request (List ℕ)) (r : Response)
      (before : List ℕ) (t : S) (text : List ℕ) (after : Place P) (now : List ℕ) (aborted : Bool)
      → admitted ≡ true → answers s (judged admitted head r) t
      → (text ≡ []) ⊎ (text ≡ continue_text) → (after ≡ Takes (head_of head) []) ⊎ (after ≡ Over)
      → (aborted ≡ false → now ≡ before ++ text)
      → Runs answers writes most s Awaits before t after now aborted
  admitted_run s admitted head r before t text after now aborted is x either stays same =
      let y : answers s (Admitted head) t =
      subst (λ (b : Bool). answers s (judged b head r) t) is x in
      record {
        acts = Took (Admitted head) text ∷ [];
        chain = (t, Takes (head_of head) [], (y, (refl, refl, either)), (refl, stays));
        text = λ lives. same lives ∙ ap (λ (z : List ℕ). before ++ z) (sym (append-nil text));
      }

  -- A head that isn't admitted is one turn of a run, which writes the refusal and is over.
  pub rejected_run : (s : S) (admitted : Bool) (head : Request (List ℕ)) (r : Response)
      (before : List ℕ) (t : S) (after : Place P) (now : List ℕ) (aborted : Bool)
      → admitted ≡ false → answers s (judged admitted head r) t → after ≡ Over
      → (aborted ≡ false → now ≡ before ++ refusal_text (asks_head head) r)
      → Runs answers writes most s Awaits before t after now aborted
  rejected_run s admitted head r before t after now aborted is x stays same =
      let y : answers s (Rejected head r) t =
      subst (λ (b : Bool). answers s (judged b head r) t) is x in
      let text = refusal_text (asks_head head) r in
      record {
        acts = Took (Rejected head r) text ∷ [];
        chain = (t, Over, (y, (refl, refl, refl)), (refl, inl stays));
        text = λ lives. same lives ∙ ap (λ (z : List ℕ). before ++ z) (sym (append-nil text));
      }

  -- A refusal at an open place is one turn of a run, which writes the refusal and is over.
  pub refused_run : (s : S) (place : Place P) (why : Refusal) (r : Response) (head : Bool)
      (before : List ℕ) (t : S) (after : Place P) (now : List ℕ) (aborted : Bool)
      → IsOpen place → answers s (Refused why r) t → after ≡ Over
      → (aborted ≡ false → now ≡ before ++ refusal_text head r)
      → Runs answers writes most s place before t after now aborted
  refused_run s place why r head before t after now aborted may x stays same =
      let text = refusal_text head r in
      record {
        acts = Took (Refused why r) text ∷ [];
        chain = (t, Over, (x, (may, refl, (head, refl))), (refl, inl stays));
        text = λ lives. same lives ∙ ap (λ (z : List ℕ). before ++ z) (sym (append-nil text));
      }

  -- The answer to a whole request is one turn of a run, which then is over or goes on after it.
  pub answered_run : (s : S) (place : Place P) (request : Request (List ℕ)) (r : Response)
      (pieces : Option P) (server : Server)
      (before : List ℕ) (t : S) (after : Place P) (now : List ℕ) (aborted : Bool)
      → place ≡ Takes (head_of request) (body_of request) → answers s (Answered request r pieces) t
      → length (body_of request) ≤ most
      → (after ≡ place_after (asks_head request) pieces) ⊎ (after ≡ Over)
      → (aborted ≡ false → now ≡ before ++ answer_text request r pieces server)
      → Runs answers writes most s place before t after now aborted
  answered_run s place request r pieces server before t after now aborted taken x bound stays same =
      let text = answer_text request r pieces server in
      record {
        acts = Took (Answered request r pieces) text ∷ [];
        chain = (
          t,
          place_after (asks_head request) pieces,
          (x, (taken, refl, bound, (server, refl))),
          (refl, stays),
        );
        text = λ lives. same lives ∙ ap (λ (z : List ℕ). before ++ z) (sym (append-nil text));
      }

  -- A piece of a body that is kept is one step of a run, which writes nothing.
  pub kept_run : (s : S) (place : Place P) (before : List ℕ) (head : Parts) (body piece : List ℕ)
      (after : Place P) (now : List ℕ) (aborted : Bool) → place ≡ Takes head body
      → after ≡ Takes head (body ++ piece) → (aborted ≡ false → now ≡ before)
      → Runs answers writes most s place before s after now aborted
  kept_run s place before head body piece after now aborted is stays same = record {
    acts = Kept piece ∷ [];
    chain = (s, Takes head (body ++ piece), (refl, (head, body, is, refl)), (refl, inl stays));
    text = λ lives. same lives ∙ sym (append-nil before);
  }

  -- A piece of an answer that is written is one step of a run, which goes on or ends the answer.
  pub piece_run : (s : S) (place : Place P) (before : List ℕ) (old : P) (more : Bool) (new : P)
      (piece : List ℕ) (server : Server) (after : Place P) (now : List ℕ) (aborted : Bool)
      → place ≡ Writes old → ((rest : List ℕ) → writes new rest → writes old (piece ++ rest))
      → (more ≡ false → writes new [])
      → (after ≡ cond more (Writes new) Awaits) ⊎ (after ≡ Over)
      → (aborted ≡ false → now ≡ before ++ piece_text more server piece)
      → Runs answers writes most s place before s after now aborted
  piece_run s place before old more new piece server after now aborted is goes_on ends stays same =
      let text = piece_text more server piece in
      record {
        acts = Wrote old piece more new text ∷ [];
        chain = (
          s,
          cond more (Writes new) Awaits,
          (is, refl, refl, record { goes_on = goes_on; ends = ends }, (server, refl)),
          (refl, stays),
        );
        text = λ lives. same lives ∙ ap (λ (z : List ℕ). before ++ z) (sym (append-nil text));
      }

  -- A run is the same run when its end is given by equal values.
  pub runs_same : {s : S} {place : Place P} {before : List ℕ} {t : S} {after : Place P}
      {now : List ℕ} {aborted : Bool} (after' : Place P) (now' : List ℕ) (aborted' : Bool)
      → after' ≡ after → now' ≡ now → aborted' ≡ aborted
      → Runs answers writes most s place before t after now aborted
      → Runs answers writes most s place before t after' now' aborted'
  runs_same {s} {place} {before} {t} {after} {now} {aborted} after' now' aborted' e f a x = record {
    acts = x.acts;
    chain = subst (λ (p : Place P). Chain answers writes most s place x.acts t p) (sym e) x.chain;
    text = λ lives. f ∙ x.text (sym a ∙ lives);
  }

  -- A run without a turn of the service writes nothing and stays at its place or is over.
  pub runs_none : (s : S) (place : Place P) (before : List ℕ) (after : Place P) (now : List ℕ)
      (aborted : Bool) → (after ≡ place) ⊎ (after ≡ Over) → (aborted ≡ false → now ≡ before)
      → Runs answers writes most s place before s after now aborted
  runs_none s place before after now aborted stays same = record {
    acts = [];
    chain = (refl, stays);
    text = λ lives. same lives ∙ sym (append-nil before);
  }

  -- Two runs, one after the other, are one run.
  pub runs_append : {s : S} {place : Place P} {before : List ℕ} {m : S} {p : Place P} {mid : List ℕ}
      {over : Bool} {t : S} {after : Place P} {now : List ℕ} {aborted : Bool}
      → Runs answers writes most s place before m p mid over → over ≡ false
      → Runs answers writes most m p mid t after now aborted
      → Runs answers writes most s place before t after now aborted
  runs_append {s} {place} {before} {m} {p} {mid} {over} {t} {after} {now} {aborted} x lives y =
      record {
        acts = x.acts ++ y.acts;
        chain = chain_append s place x.acts y.acts m p t after x.chain y.chain;
        text = λ live.
            y.text live ∙ ap (λ (z : List ℕ). z ++ texts_of y.acts) (x.text lives)
            ∙ append_assoc before (texts_of x.acts) (texts_of y.acts)
            ∙ ap (λ (z : List ℕ). before ++ z) (sym (flat_map-append text_of x.acts y.acts));
      }

  -- what no service saw, beside any service
  chain_beside : (s : S) (place : Place P) (acts : List (Act P)) (after : Place P)
      → Chain {S = Unit {0}} (λ a turn b. ⊥) writes most tt place acts tt after
      → Chain answers writes most s place acts s after
  chain_beside s place [] after x = (refl, x.1)
  chain_beside s place (Took turn text ∷ acts) after (m, p, (never, puts), rest) = absurd never
  chain_beside s place (Kept piece ∷ acts) after (m, p, (same, keeps), rest) =
      (s, p, (refl, keeps), chain_beside s p acts after rest)
  chain_beside s place (Wrote old piece more new text ∷ acts) after
      (m, p, (writes_old, same, ends, is, says), rest) =
      (s, p, (writes_old, refl, ends, is, says), chain_beside s p acts after rest)

  -- A run in which no service takes a turn is a run of every service, whose state stays.
  pub runs_beside : (s : S) {place : Place P} {before : List ℕ} {after : Place P} {now : List ℕ}
      {aborted : Bool}
      → Runs {S = Unit {0}} (λ a turn b. ⊥) writes most tt place before tt after now aborted
      → Runs answers writes most s place before s after now aborted
  runs_beside s {place} {before} {after} {now} {aborted} x = record {
    acts = x.acts;
    chain = chain_beside s place x.acts after x.chain;
    text = x.text;
  }

-- From a Boolean that is both true and false, anything follows.
pub vacuous : {X : Type 0} (b : Bool) → b ≡ true → b ≡ false → X
vacuous b is other = absurd (let e : true ≡ false = sym is ∙ other in cc)

module _ {S P : Type 0} (answers : S → Turn P → S → Type 0) (writes : P → List ℕ → Type 0) where
  -- Two runs under the same bound, one after the other, are one run.
  pub runs_next : {s : S} {place : Place P} {before : List ℕ} {m : S} {p : Place P} {mid : List ℕ}
      {over : Bool} {t : S} {after : Place P} {now : List ℕ} {aborted : Bool} (most more : ℕ)
      → more ≡ most → Runs answers writes most s place before m p mid over → over ≡ false
      → Runs answers writes more m p mid t after now aborted
      → Runs answers writes most s place before t after now aborted
  runs_next {s} {place} {before} {m} {p} {mid} {over} {t} {after} {now}
      {aborted} most more same x lives y =
      runs_append answers writes most x lives
      (subst (λ (n : ℕ). Runs answers writes n m p mid t after now aborted) same y)

-- A connection at the head of a request is at an open place.
pub head_is_open : {P : Type 0} (stage : Stage P) (head : Parts) (body : List ℕ) → stage ≡ At.Head
    → IsOpen (place_at stage head body)
head_is_open {P} stage head body is =
    subst (λ (s : Stage P). IsOpen (place_at s head body)) (sym is) tt

-- A connection at the body of a request is at an open place.
pub body_is_open : {P : Type 0} (stage : Stage P) (head : Parts) (body : List ℕ) → stage ≡ At.Body
    → IsOpen (place_at stage head body)
body_is_open {P} stage head body is =
    subst (λ (s : Stage P). IsOpen (place_at s head body)) (sym is) tt

-- The measure of the work left falls where a body ends.
pub work_falls : (l m n r : ℕ) → n ≡ 3 * l → l ≡ m → r ≡ 1 → n < 3 * m + r
work_falls l m n r is same one = omega arith

-- Where the client may send more, nothing is left to do before a read.
pub rests_open : {P : Type 0} (stage : Stage P) (ended : Bool) (waits : ℕ) → ended ≡ false
    → whole_at stage ≡ None → rests_at stage ended waits
rests_open At.Head ended waits is none = inl is
rests_open At.Body ended waits is none = is
rests_open (At.Whole request) ended waits is none = absurd (cc)
rests_open (At.Pieces p) ended waits is none = tt
rests_open (At.Discard left) ended waits is none = is
rests_open At.Closing ended waits is none = tt
rests_open At.Aborted ended waits is none = tt

-- A connection that rests reads, writes or advances, unless it is done.
pub never_stalls : {P : Type 0} (stage : Stage P) (ended : Bool) (unread waits : ℕ)
    → rests_at stage ended waits
    → (reads_at stage ended waits ≡ true)
    ⊎ ((0 < waits)
    ⊎ ((advances_at stage waits ≡ true) ⊎ (phase_at stage ended unread waits ≡ Done)))
never_stalls At.Head false unread zero x = inl refl
never_stalls At.Head false unread (suc waits) x = inr (inl (omega arith))
never_stalls At.Head true unread waits x =
    elim x [ inl e ↦ absurd (cc) | inr more ↦ inr (inl more) ]
never_stalls At.Body false unread waits x = inl refl
never_stalls At.Body true unread waits x = absurd (cc)
never_stalls (At.Whole request) ended unread waits x = absurd x
never_stalls (At.Pieces p) ended unread zero x = inr (inr (inl refl))
never_stalls (At.Pieces p) ended unread (suc waits) x = inr (inl (omega arith))
never_stalls (At.Discard left) false unread waits x = inl refl
never_stalls (At.Discard left) true unread waits x = absurd (cc)
never_stalls At.Closing false unread waits x = inl refl
never_stalls At.Closing true unread zero x = inr (inr (inr refl))
never_stalls At.Closing true unread (suc waits) x = inr (inl (omega arith))
never_stalls At.Aborted ended unread waits x = inr (inr (inr refl))

-- A connection that writes an answer by pieces rests.
pub writing_rests : {P : Type 0} (stage : Stage P) (p : P) (ended : Bool) (waits : ℕ)
    → stage ≡ At.Pieces p → rests_at stage ended waits
writing_rests {P} stage p ended waits is =
    subst (λ (s : Stage P). rests_at s ended waits) (sym is) tt

module _ {P : Type 0} where
  -- A connection with a whole request is to answer it.
  pub whole_takes : (stage : Stage P) (head : Parts) (body : List ℕ) (request : Request (List ℕ))
      → whole_at stage ≡ Some request
      → place_at stage head body ≡ Takes (head_of request) (body_of request)
  whole_takes At.Head head body request is = absurd (cc)
  whole_takes At.Body head body request is = absurd (cc)
  whole_takes (At.Whole r) head body request is =
      let same : r ≡ request = cc in (λ i. Takes (head_of (same i)) (body_of (same i)))
  whole_takes (At.Pieces p) head body request is = absurd (cc)
  whole_takes (At.Discard left) head body request is = absurd (cc)
  whole_takes At.Closing head body request is = absurd (cc)
  whole_takes At.Aborted head body request is = absurd (cc)

  -- Its answer is one step of work.
  pub whole_rank : (stage : Stage P) (request : Request (List ℕ)) → whole_at stage ≡ Some request
      → rank stage ≡ 1
  whole_rank At.Head request is = absurd (cc)
  whole_rank At.Body request is = absurd (cc)
  whole_rank (At.Whole r) request is = refl
  whole_rank (At.Pieces p) request is = absurd (cc)
  whole_rank (At.Discard left) request is = absurd (cc)
  whole_rank At.Closing request is = absurd (cc)
  whole_rank At.Aborted request is = absurd (cc)

  -- Where a connection rests, no whole request waits.
  pub rests_none : (stage : Stage P) (ended : Bool) (waits : ℕ) → rests_at stage ended waits
      → whole_at stage ≡ None
  rests_none At.Head ended waits x = refl
  rests_none At.Body ended waits x = refl
  rests_none (At.Whole request) ended waits x = absurd x
  rests_none (At.Pieces p) ended waits x = refl
  rests_none (At.Discard left) ended waits x = refl
  rests_none At.Closing ended waits x = refl
  rests_none At.Aborted ended waits x = refl

  -- A connection that stops at a whole request is to be advanced.
  whole_advances : (stage : Stage P) (waits : ℕ) → IsSome (whole_at stage)
      → advances_at stage waits ≡ true
  whole_advances At.Head waits x = absurd (cc)
  whole_advances At.Body waits x = absurd (cc)
  whole_advances (At.Whole request) waits x = refl
  whole_advances (At.Pieces p) waits x = absurd (cc)
  whole_advances (At.Discard left) waits x = absurd (cc)
  whole_advances At.Closing waits x = absurd (cc)
  whole_advances At.Aborted waits x = absurd (cc)

  -- A connection that stops never stalls.
  pub stops_never_stalls : (pauses : Bool) (stage : Stage P) (ended : Bool) (unread waits : ℕ)
      → rests_at stage ended waits ⊎ ((pauses ≡ true) × IsSome (whole_at stage))
      → (reads_at stage ended waits ≡ true)
      ⊎ ((0 < waits)
      ⊎ ((advances_at stage waits ≡ true) ⊎ (phase_at stage ended unread waits ≡ Done)))
  stops_never_stalls pauses stage ended unread waits (inl x) =
      never_stalls stage ended unread waits x
  stops_never_stalls pauses stage ended unread waits (inr (p, whole)) =
      inr (inr (inl (whole_advances stage waits whole)))

  -- A connection that doesn't pause stops where no whole request waits.
  pub stops_answered : (stage : Stage P) (ended : Bool) (waits : ℕ)
      → rests_at stage ended waits ⊎ ((false ≡ true) × IsSome (whole_at stage))
      → whole_at stage ≡ None
  stops_answered stage ended waits (inl x) = rests_none stage ended waits x
  stops_answered stage ended waits (inr (p, whole)) = absurd (cc)

  -- A whole request is within the bound.
  pub whole_within : (most : ℕ) (stage : Stage P) (request : Request (List ℕ))
      → whole_at stage ≡ Some request
      → ForSome (whole_at stage) (λ (r : Request (List ℕ)). length (body_of r) ≤ most)
      → length (body_of request) ≤ most
  whole_within most stage request is all = all request is

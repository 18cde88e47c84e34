-- What each event makes of a desk of bodies, whatever events were before it.
use Rattle.std.proofs.Common.{◌≡◌, refl, ap, ◌∙◌, ℕ, ◌+◌, ◌-◌, ◌≤◌, arith}
use Rattle.std.proofs.Common.{List}
use Rattle.std.proofs.Common.{[], ◌∷◌, ◌++◌, length, drop, append-nil, Bool, true}
use Rattle.std.proofs.Common.{false}
use Rattle.std.proofs.Common.{cond, length-append}
use Rattle.std.specs.Prelude.{not, replicate, count_by}
use Rattle.std.proofs.lemmas.List.{length-replicate}
use Rattle.model_span.specs.Attributes.{last_or}
use Rattle.model_desk.specs.Retries.{Fate}
use Rattle.model_desk.specs.Desks.{is_loss}
use Rattle.model_desk.proofs.Lists.{last-more, pushed-after}
use Rattle.model_body.specs.Histories.{BodyEvent, admitted, taken, later, settled, drained, gather}
use Rattle.model_body.specs.Histories.{last_size, Turn, idle, is_out, again, admitted_body}
use Rattle.model_body.specs.Histories.{admitted_bodies, is_split, ended_count, ends_by, ends}
use Rattle.model_body.specs.Histories.{kept_bodies, splits_by, alone_until, alone_count}
use Rattle.model_body.specs.Desks.{BodyConfig, BodyDesk, desk_of, after}
use Rattle.model_body.specs.Desks.{memory_of}
use Rattle.model_body.proofs.Steps.{gather-more, gather-same, AreGone, kept-ended, kept-admitted}
use Rattle.model_body.proofs.Steps.{turn-after, size-after, alone-same, count-ends, count-same}

-- ---- parts

-- how many bodies the ends of an event are
ended : (n : ℕ) (fate : Fate) (bodies : List (List ℕ))
    → drop (length (replicate n fate)) bodies ≡ drop n bodies
ended n fate bodies = ap (λ k. drop k bodies) (length-replicate n fate)

-- a count with those of one fate more
raised : (p : Fate → Bool) (h : List BodyEvent) (x : BodyEvent) (n : ℕ) (fate : Fate)
    → ends_by h x ≡ replicate n fate
    → count_by p (ends (h ++ x ∷ []))
    ≡ cond (p fate) (count_by p (ends h) + n) (count_by p (ends h))
raised p h x n fate e =
    count-ends p h x ∙ ap (λ l. count_by p (ends h) + count_by p l) e
    ∙ ap (λ k. count_by p (ends h) + k) (count-same p n fate) ∙ go (p fate)
  where
    go : (b : Bool)
        → count_by p (ends h) + cond b n 0
        ≡ cond b (count_by p (ends h) + n) (count_by p (ends h))
    go true = refl
    go false = omega arith

not-cond : {A : Type 0} (b : Bool) (x y : A) → cond (not b) x y ≡ cond b y x
not-cond true x y = refl
not-cond false x y = refl

alone-drained : (h : List BodyEvent) (n : ℕ)
    → alone_count (h ++ drained n ∷ []) ≡ alone_count h - n
alone-drained h n =
    (λ i. last_or 0 (gather-same splits_by h (drained n) refl i)
    - length (gather-more ends_by h (drained n) i))
    ∙ (omega (
      arith,
      length-append (ends h) (replicate n Fate.abandoned),
      length-replicate n Fate.abandoned,
    ))

-- How many bodies are to be sent alone, after a batch ended.
pub alone-settled : (h : List BodyEvent) (fate : Fate)
    → alone_count (h ++ settled fate ∷ [])
    ≡ cond (is_split fate (last_size h)) (last_size h) (alone_count h - last_size h)
alone-settled h fate = go (is_split fate (last_size h)) refl
  where
    gone : (b : Bool) → is_split fate (last_size h) ≡ b
        → length (ends (h ++ settled fate ∷ []))
        ≡ length (ends h) + cond b 0 (last_size h)
    gone b e =
        ap length (gather-more ends_by h (settled fate))
        ∙ length-append (ends h) (replicate (ended_count fate (last_size h)) fate)
        ∙ ap (λ k. length (ends h) + k) (length-replicate (ended_count fate (last_size h)) fate)
        ∙ ap (λ d. length (ends h) + cond d 0 (last_size h)) e

    until : (b : Bool) → is_split fate (last_size h) ≡ b
        → alone_until (h ++ settled fate ∷ [])
        ≡ last_or 0
        (gather splits_by [] h ++ cond b ((length (ends h) + last_size h) ∷ []) [])
    until b e =
        ap (last_or 0) (gather-more splits_by h (settled fate))
        ∙ ap
        (λ d. last_or 0
        (gather splits_by [] h ++ cond d ((length (ends h) + last_size h) ∷ []) []))
        e

    go : (b : Bool) → is_split fate (last_size h) ≡ b
        → alone_count (h ++ settled fate ∷ [])
        ≡ cond b (last_size h) (alone_count h - last_size h)
    go true e =
        let u =
        until true e ∙ last-more 0 (gather splits_by [] h) (length (ends h) + last_size h) in
        let g = gone true e in
        omega (arith, u, g)
    go false e =
        let u = until false e ∙ ap (last_or 0) (append-nil (gather splits_by [] h)) in
        let g = gone false e in
        omega (arith, u, g)

-- ---- the desk after an event

-- A desk of some events, after one more, is that of all of them.
pub shows : (config : BodyConfig) (h : List BodyEvent) (x : BodyEvent) → AreGone h
    → desk_of config (h ++ x ∷ []) ≡ after x (desk_of config h)
unfolding desk_of
shows config h (admitted body) w = λ i. record {
  config = config;
  kept = kept-admitted h body w i;
  turn = turn-after h (admitted body) i;
  size = size-after h (admitted body) i;
  alone = alone-same h (admitted body) refl refl i;
  admitted =
      (ap length (pushed-after admitted_body h (admitted body))
      ∙ length-append (admitted_bodies h) (body ∷ [])) i;
  delivered = count_by (λ f. not (is_loss f)) (gather-same ends_by h (admitted body) refl i);
  lost = count_by is_loss (gather-same ends_by h (admitted body) refl i);
}
shows config h (taken n) w = λ i. record {
  config = config;
  kept = kept-ended h (taken n) refl i;
  turn = turn-after h (taken n) i;
  size = size-after h (taken n) i;
  alone = alone-same h (taken n) refl refl i;
  admitted = length (pushed-after admitted_body h (taken n) i);
  delivered = count_by (λ f. not (is_loss f)) (gather-same ends_by h (taken n) refl i);
  lost = count_by is_loss (gather-same ends_by h (taken n) refl i);
}
shows config h later w = λ i. record {
  config = config;
  kept = kept-ended h later refl i;
  turn = turn-after h later i;
  size = size-after h later i;
  alone = alone-same h later refl refl i;
  admitted = length (pushed-after admitted_body h later i);
  delivered = count_by (λ f. not (is_loss f)) (gather-same ends_by h later refl i);
  lost = count_by is_loss (gather-same ends_by h later refl i);
}
shows config h (settled fate) w =
    let n = ended_count fate (last_size h) in
    let x = settled fate in
    λ i. record {
      config = config;
      kept = (kept-ended h x refl ∙ ended n fate (kept_bodies h)) i;
      turn = turn-after h x i;
      size = size-after h x i;
      alone = alone-settled h fate i;
      admitted = length (pushed-after admitted_body h x i);
      delivered =
          (raised (λ f. not (is_loss f)) h x n fate refl
          ∙ not-cond (is_loss fate) _ _) i;
      lost = raised is_loss h x n fate refl i;
    }
shows config h (drained n) w =
    let x = drained n in
    λ i. record {
      config = config;
      kept = (kept-ended h x refl ∙ ended n Fate.abandoned (kept_bodies h)) i;
      turn = turn-after h x i;
      size = size-after h x i;
      alone = alone-drained h n i;
      admitted = length (pushed-after admitted_body h x i);
      delivered = raised (λ f. not (is_loss f)) h x n Fate.abandoned refl i;
      lost = raised is_loss h x n Fate.abandoned refl i;
    }

-- ---- what is true of every desk

-- whether a batch is out, or is to be sent again
abbrev pub is_busy : Turn → Bool
is_busy idle = false
is_busy is_out = true
is_busy again = true

-- The batch that is out, or is to be sent again, is one of bodies that are kept, and these have
-- room.
pub record IsSound (desk : BodyDesk) : Type 0 where
  pub within : is_busy desk.turn ≡ true → desk.size ≤ length desk.kept
  pub memory : memory_of desk.kept ≤ desk.config.memory_bytes

-- What is left in a queue is given up, batch after batch, and then all names.
use Rattle.std.proofs.Common.{◌≡◌, ℕ, ◌+◌, ◌-◌, ◌*◌, ◌^◌, ◌<◌, ◌≤◌, Bool, true, false, List, []}
use Rattle.std.proofs.Common.{◌∷◌, ◌++◌, length, take, drop, min, sym, refl, ap, ◌∙◌, subst, arith}
use Rattle.std.specs.Prelude.{Option, None, ◌&&◌, ◌||◌, nat_lt, nat_le, is_none, map, reverse}
use Rattle.std.proofs.lemmas.Bool.{ltb-false}
use Rattle.std.proofs.lemmas.List.{append-nil, append_assoc, length-append, length-drop}
use Rattle.std.proofs.lemmas.List.{length-take, map-append, reverse-append, reverse-reverse}
use Rattle.std.proofs.lemmas.List.{take-append-drop}
use Rattle.model_span.specs.Spans.{SpanData}
use Rattle.model_span.specs.Dropped.{Entry, Reason, entry_of}
use Rattle.model_desk.specs.Desks.{Desk, DeskConfig, DropCounts, is_due, with_drops}
use Rattle.batch_desk.specs.Desk.{after_drop, after_take}
use Rattle.drop_ledger.specs.Named.{Named}
use Rattle.batch_service.specs.Working.{GainsNames, both_names}
use Rattle.batch_service.specs.Rest.{Abandons, AbandonsWaiting, GivesUp}

abbrev names_of : List SpanData → List Entry
names_of spans = map (entry_of Reason.abandoned) spans

-- the desk before, with the fields that may change as they are after
abbrev others_of : Desk → Desk → Desk
others_of old new = record old {
  waiting = new.waiting;
  out = None;
  ledger = new.ledger;
  dropped = new.dropped;
  taken = new.taken;
  batches = new.batches;
  asked = new.asked;
  closed = new.closed;
  last_moment = new.last_moment;
}

-- ---- once the queue is shut, and none is abandoned yet

-- A queue that is shut has abandoned none of its spans yet.
pub abandons_none : (old shut : Desk) (asked : ℕ) → old.out ≡ None
    → shut ≡ record old { asked = asked; closed = true } → Abandons [] old shut
abandons_none old shut asked none is = record {
  waited = sym (ap (λ (d : Desk). d.waiting) is);
  ledger = ap (λ (d : Desk). d.ledger) is;
  dropped = ap (λ (d : Desk). d.dropped) is ∙ same old.dropped;
  taken = ap (λ (d : Desk). d.taken) is ∙ plus_none old.taken;
  others =
      is ∙ ap (λ o. record old { asked = asked; closed = true; out = o }) none
      ∙ sym (ap (others_of old) is);
}
  where
    plus_none : (n : ℕ) → n ≡ n + 0
    plus_none n = omega arith

    same : (counts : DropCounts) → counts ≡ with_drops Reason.abandoned 0 counts
    same counts = ap (λ (n : ℕ). record counts { abandoned = n }) (plus_none counts.abandoned)

-- ---- one more batch

reverse_more : (spans more : List SpanData) (ledger : List Entry)
    → reverse (names_of more) ++ (reverse (names_of spans) ++ ledger)
    ≡ reverse (names_of (spans ++ more)) ++ ledger
reverse_more spans more ledger =
    sym (append_assoc (reverse (names_of more)) (reverse (names_of spans)) ledger)
    ∙ ap (λ (es : List Entry). es ++ ledger) (sym (reverse-append (names_of spans) (names_of more)))
    ∙ ap (λ (es : List Entry). reverse es ++ ledger)
    (sym (map-append (entry_of Reason.abandoned) spans more))

count_more : (spans more : List SpanData) (counts : DropCounts)
    → with_drops Reason.abandoned (length more) (with_drops Reason.abandoned (length spans) counts)
    ≡ with_drops Reason.abandoned (length (spans ++ more)) counts
count_more spans more counts =
    let l = length-append spans more in
    let n : counts.abandoned + length spans + length more
    ≡ counts.abandoned + length (spans ++ more) =
    omega arith in
    ap (λ (n : ℕ). record counts { abandoned = n }) n

module _ (now : ℕ) (spans more : List SpanData) (old desk taken new : Desk) where
  -- The spans of one more batch that is dropped are abandoned with those before.
  pub abandons_next : Abandons spans old desk → more ≡ take desk.config.batch desk.waiting
      → taken ≡ after_take now desk → new ≡ after_drop Reason.abandoned more taken
      → Abandons (spans ++ more) old new
  abandons_next so_far more_is taken_is new_is =
      let n = desk.config.batch in
      let is : new ≡ after_drop Reason.abandoned more (after_take now desk) =
      new_is ∙ ap (after_drop Reason.abandoned more) taken_is in
      let left : new.waiting ≡ drop n desk.waiting = ap (λ (d : Desk). d.waiting) is in
      let split : desk.waiting ≡ more ++ new.waiting =
      sym (take-append-drop n desk.waiting)
      ∙ ap (λ (xs : List SpanData). xs ++ drop n desk.waiting) (sym more_is)
      ∙ ap (λ (xs : List SpanData). more ++ xs) (sym left) in
      let size : length more ≡ min n (length desk.waiting) =
      ap length more_is ∙ length-take n desk.waiting in
      let took : new.taken ≡ desk.taken + min n (length desk.waiting) =
      ap (λ (d : Desk). d.taken) is in
      let both = length-append spans more in
      let count : new.taken ≡ old.taken + length (spans ++ more) =
      let t = so_far.taken in omega arith in
      record {
        waited =
            so_far.waited ∙ ap (λ (xs : List SpanData). spans ++ xs) split
            ∙ sym (append_assoc spans more new.waiting);
        ledger =
            ap (λ (d : Desk). d.ledger) is
            ∙ ap (λ (es : List Entry). reverse (names_of more) ++ es) so_far.ledger
            ∙ reverse_more spans more old.ledger;
        dropped =
            ap (λ (d : Desk). d.dropped) is
            ∙ ap (with_drops Reason.abandoned (length more)) so_far.dropped
            ∙ count_more spans more old.dropped;
        taken = count;
        others =
            is
            ∙ ap
            (λ (d : Desk). others_of d (after_drop Reason.abandoned more (after_take now desk)))
            so_far.others
            ∙ ap (others_of old) (sym is);
      }

-- ---- until none waits

due_false : (wait a b c : Bool) → false ≡ (wait && (a || b || true || c)) → wait ≡ false
due_false false a b c none = refl
due_false true true b c none = cc
due_false true false true c none = cc
due_false true false false c none = cc

-- No span waits in a closed queue with no batch out where no batch is due.
pub none_due : (desk : Desk) (now : ℕ) → desk.closed ≡ true → desk.out ≡ None
    → false ≡ (is_due desk now && is_none desk.out) → desk.waiting ≡ []
none_due desk now closed none is =
    let wait = nat_lt 0 (length desk.waiting) in
    let full = nat_le desk.config.batch (length desk.waiting) in
    let asked = nat_lt desk.taken desk.asked in
    let passed = nat_le (desk.last_moment + desk.config.delay_ms * 10 ^ 6) now in
    none_waits desk.waiting
    (due_false wait full asked passed
    (is ∙ ap (λ o. is_due desk now && is_none o) none ∙ and_true (is_due desk now)
    ∙ ap (λ (b : Bool). wait && (full || asked || b || passed)) closed))
  where
    none_waits : (waiting : List SpanData) → nat_lt 0 (length waiting) ≡ false → waiting ≡ []
    none_waits [] none = refl
    none_waits (x ∷ waiting) none =
        absurd (let l = ltb-false 0 (length (x ∷ waiting)) none in omega arith)

    and_true : (b : Bool) → (b && true) ≡ b
    and_true true = refl
    and_true false = refl

-- Spans that are abandoned until none waits are all that waited.
pub abandons_all : (old new : Desk) (spans : List SpanData) → Abandons spans old new
    → new.waiting ≡ [] → AbandonsWaiting old new
abandons_all old new spans a none = record {
  abandons =
      subst (λ (xs : List SpanData). Abandons xs old new)
      (sym (a.waited ∙ ap (λ (xs : List SpanData). spans ++ xs) none ∙ append-nil spans)) a;
  none_waits = none;
}

-- ---- the names

-- A queue is given up once all its waiting spans are abandoned and all names are given.
pub gives_up : (old left new : Desk) (dropped lost : List Entry) (told told' : Option Named)
    → AbandonsWaiting old left → dropped ≡ reverse left.ledger → lost ≡ reverse left.lost
    → new ≡ record left { ledger = []; lost = [] } → GainsNames (both_names dropped lost) told told'
    → GivesUp old new told told'
gives_up old left new dropped lost told told' a dropped_is lost_is new_is gave = record {
  left = left;
  abandons = a;
  given = subst (λ (n : Named). GainsNames n told told') (names_are) gave;
  new_is = new_is;
}
  where
    dropped_are : dropped ≡ reverse old.ledger ++ names_of old.waiting
    dropped_are =
        dropped_is ∙ ap (λ (es : List Entry). reverse es) a.abandons.ledger
        ∙ reverse-append (reverse (names_of old.waiting)) old.ledger
        ∙ ap (λ (es : List Entry). reverse old.ledger ++ es)
        (reverse-reverse (names_of old.waiting))

    lost_are : lost ≡ reverse old.lost
    lost_are = lost_is ∙ ap (λ (d : Desk). reverse d.lost) a.abandons.others

    names_are : both_names dropped lost
        ≡ both_names (reverse old.ledger ++ names_of old.waiting) (reverse old.lost)
    names_are =
        (ap (λ (ds : List Entry). both_names ds lost) dropped_are)
        ∙ ap (both_names (reverse old.ledger ++ names_of old.waiting)) lost_are

-- ---- the loop

-- some of the spans that waited are abandoned
pub record AbandonsSome (old new : Desk) : Type 0 where
  pub spans : List SpanData
  pub abandons : Abandons spans old new

-- A queue that is shut has abandoned some of its spans, namely none.
pub some_none : (old shut : Desk) (asked : ℕ) → old.out ≡ None
    → shut ≡ record old { asked = asked; closed = true } → AbandonsSome old shut
some_none old shut asked none is =
    record { spans = []; abandons = abandons_none old shut asked none is }

-- A queue that drops one more batch as abandoned has abandoned some of its spans.
pub some_next : (now : ℕ) (more : List SpanData) (old desk taken new : Desk) → AbandonsSome old desk
    → more ≡ take desk.config.batch desk.waiting → taken ≡ after_take now desk
    → new ≡ after_drop Reason.abandoned more taken → AbandonsSome old new
some_next now more old desk taken new so_far more_is taken_is new_is = record {
  spans = so_far.spans ++ more;
  abandons =
      abandons_next now so_far.spans more old desk taken new so_far.abandons more_is taken_is
      new_is;
}

-- A queue that has abandoned some of its spans until none waits has abandoned all that waited.
pub some_all : (old new : Desk) → AbandonsSome old new → new.waiting ≡ [] → AbandonsWaiting old new
some_all old new so_far none = abandons_all old new so_far.spans so_far.abandons none

-- Fewer spans wait after a batch is taken and dropped.
pub fewer_wait : (now : ℕ) (more : List SpanData) (desk taken new : Desk)
    → taken ≡ after_take now desk → new ≡ after_drop Reason.abandoned more taken
    → 1 ≤ desk.config.batch → 0 < length desk.waiting → length new.waiting < length desk.waiting
fewer_wait now more desk taken new taken_is new_is room some =
    let left : new.waiting ≡ drop desk.config.batch desk.waiting =
    ap (λ (d : Desk). d.waiting) (new_is ∙ ap (after_drop Reason.abandoned more) taken_is) in
    let l : length new.waiting ≡ length desk.waiting - desk.config.batch =
    ap length left ∙ length-drop desk.config.batch desk.waiting in
    omega arith

-- Some span waits where a batch is due.
pub some_wait : (desk : Desk) (now : ℕ) (free : Bool) → true ≡ (is_due desk now && free)
    → 0 < length desk.waiting
some_wait desk now free is =
    by_list desk.waiting
    (nat_le desk.config.batch (length desk.waiting) || nat_lt desk.taken desk.asked || desk.closed
    || nat_le (desk.last_moment + desk.config.delay_ms * 10 ^ 6) now)
    is
  where
    by_list : (waiting : List SpanData) (why : Bool)
        → true ≡ ((nat_lt 0 (length waiting) && why) && free) → 0 < length waiting
    by_list [] why due = cc
    by_list (x ∷ waiting) why due = omega arith

-- A closed queue stays one from which a batch may be taken, after one is taken and dropped.
pub next_keeps : (now : ℕ) (more : List SpanData) (desk taken new : Desk)
    → taken ≡ after_take now desk → new ≡ after_drop Reason.abandoned more taken
    → desk.closed ≡ true → 1 ≤ desk.config.batch
    → (new.closed ≡ true) × (new.out ≡ None) × (1 ≤ new.config.batch)
next_keeps now more desk taken new taken_is new_is closed room =
    let is : new ≡ after_drop Reason.abandoned more (after_take now desk) =
    new_is ∙ ap (after_drop Reason.abandoned more) taken_is in
    let config : desk.config ≡ new.config = sym (ap (λ (d : Desk). d.config) is) in (
      ap (λ (d : Desk). d.closed) is ∙ closed,
      ap (λ (d : Desk). d.out) is,
      subst (λ (c : DeskConfig). 1 ≤ c.batch) config room,
    )

-- A queue with no batch out is one from which a batch may be taken, once it is shut.
pub shut_keeps : (old shut : Desk) (asked : ℕ) → old.out ≡ None
    → shut ≡ record old { asked = asked; closed = true } → 1 ≤ old.config.batch
    → (shut.closed ≡ true) × (shut.out ≡ None) × (1 ≤ shut.config.batch)
shut_keeps old shut asked none is room = (
  ap (λ (d : Desk). d.closed) is,
  ap (λ (d : Desk). d.out) is ∙ none,
  subst (λ (c : DeskConfig). 1 ≤ c.batch) (sym (ap (λ (d : Desk). d.config) is)) room,
)

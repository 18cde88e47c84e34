-- Counts of the names of a list that grows by one, or shrinks by one.
use Rattle.std.proofs.Common.{◌≡◌, refl, sym, ap, subst, ◌∙◌, Option, Some, IsTrue, ◌-◌, ℕ, suc}
use Rattle.std.proofs.Common.{◌+◌, ◌<◌, ◌≤◌, ◌^◌, List, [], ◌∷◌, ◌++◌, drop, length, Bool, true}
use Rattle.std.proofs.Common.{false, cond, arith}
use Rattle.std.proofs.lemmas.Bool.{false≢true}
use Rattle.std.specs.Prelude.{reverse, slice_get}
use Rattle.std.proofs.lemmas.List.Sums.{count_by-le-length, sum_by-append, sum_by-cons}
use Rattle.std.proofs.lemmas.List.Sorted.{IsPermutation-reverse, sum_by-IsPermutation}
use Rattle.std.proofs.lemmas.List.{length-append, length-reverse}
use Rattle.model_span.specs.Dropped.{Reason, Entry, queue_full, encode_memory, too_large, abandoned}
use Rattle.model_span.specs.Dropped.{count_of_reason, is_lost, is_reason}
use Rattle.model_desk.specs.Desks as model
use Rattle.model_desk.specs.Desks.{with_drops}
use Rattle.drop_ledger.specs.declared.counts.DropCounts.{DropCounts}
use Rattle.otlp_span.specs.Slips.{entries_of, is_named}
use Rattle.std.specs.Option.{ForSome}
use Rattle.drop_ledger.specs.Counts.{FitTogether, IsLedger, IsTally, count_in, drop_counts_view}
use Rattle.drop_ledger.specs.Counts.{sum_of}

-- one more, where this is true
abbrev raised : Bool → ℕ → ℕ
raised true n = n + 1
raised false n = n

raised-is : (b : Bool) (n : ℕ) → raised b n ≡ cond b 1 0 + n
raised-is true n = omega arith
raised-is false n = omega arith

with-one : (added : Reason) (counts : model.DropCounts) → with_drops added 1 counts ≡ record {
  queue_full = raised (is_reason queue_full added) counts.queue_full;
  encode_memory = raised (is_reason encode_memory added) counts.encode_memory;
  too_large = raised (is_reason too_large added) counts.too_large;
  abandoned = raised (is_reason abandoned added) counts.abandoned;
}
with-one queue_full counts = refl
with-one encode_memory counts = refl
with-one too_large counts = refl
with-one abandoned counts = refl
with-one (Reason.refused status) counts = refl
with-one Reason.bad_reply counts = refl
with-one Reason.given_up counts = refl
with-one Reason.left_handed counts = refl

-- One more name is counted for its own reason alone.
count-one_more : (counts : model.DropCounts) (added r : Reason) → is_lost r ≡ false
    → count_in (with_drops added 1 counts) r ≡ cond (is_reason r added) 1 0 + count_in counts r
count-one_more counts added queue_full drop =
    ap (λ c. c.queue_full) (with-one added counts)
    ∙ raised-is (is_reason queue_full added) counts.queue_full
count-one_more counts added encode_memory drop =
    ap (λ c. c.encode_memory) (with-one added counts)
    ∙ raised-is (is_reason encode_memory added) counts.encode_memory
count-one_more counts added too_large drop =
    ap (λ c. c.too_large) (with-one added counts)
    ∙ raised-is (is_reason too_large added) counts.too_large
count-one_more counts added abandoned drop =
    ap (λ c. c.abandoned) (with-one added counts)
    ∙ raised-is (is_reason abandoned added) counts.abandoned
count-one_more counts added r drop = cc

count-cons : (r : Reason) (e : Entry) (es : List Entry)
    → count_of_reason r (e ∷ es) ≡ cond (is_reason r e.reason) 1 0 + count_of_reason r es
count-cons r e es = sum_by-cons (λ (x : Entry). cond (is_reason r x.reason) 1 0) e es

-- Counts of a list of names are right after one more name, once its reason counts one more.
pub tally-more : (counts : model.DropCounts) (e : Entry) (es : List Entry) → IsTally counts es
    → IsTally (with_drops e.reason 1 counts) (e ∷ es)
tally-more counts e es h = record {
  exact =
      λ r drop. count-one_more counts e.reason r drop
      ∙ ap (λ n. cond (is_reason r e.reason) 1 0 + n) (h.exact r drop) ∙ sym (count-cons r e es);
}

-- Counts of a list of names are right without its first name, once its reason counts one less.
pub tally-fewer : (counts : model.DropCounts) (e : Entry) (es : List Entry)
    → IsTally (with_drops e.reason 1 counts) (e ∷ es) → IsTally counts es
tally-fewer counts e es h = record {
  exact = λ r drop. let one = cond (is_reason r e.reason) 1 0 in
      let more : one + count_in counts r ≡ one + count_of_reason r es =
      sym (count-one_more counts e.reason r drop) ∙ h.exact r drop ∙ count-cons r e es in
      omega (arith, more);
}

-- A ledger is right after a push.
pub pushed : (newest : Option (List Entry)) (len : ℕ) (counts after : DropCounts) (e : Entry)
    (named : List Entry)
    → IsLedger newest len counts
    → drop_counts_view after ≡ with_drops e.reason 1 (drop_counts_view counts) →
    named ≡ e ∷ entries_of newest → IsLedger (Some named) (len + 1) after
pushed newest len counts after e named h counted linked =
    subst (λ xs. IsLedger (Some xs) (len + 1) after) (sym linked) (record {
      named = λ x s. subst (λ o. IsTrue (is_named (entries_of o))) s refl;
      length = omega (arith, h.length);
      tally =
          subst (λ k. IsTally k (e ∷ entries_of newest)) (sym counted)
          (tally-more (drop_counts_view counts) e (entries_of newest) h.tally);
    })

-- A chain of which this name is the newest, and these are the others.
pub newest_first : (chain others : List Entry) (e : Entry) → Some e ≡ slice_get chain 0
    → others ≡ drop 1 chain → chain ≡ e ∷ others
newest_first [] others e is rest = cc
newest_first (x ∷ xs) others e is rest = cc

-- A ledger is right after a pop.
pub popped : (newest below : Option (List Entry)) (slip : List Entry) (len : ℕ)
    (counts after : DropCounts) (e : Entry)
    → IsLedger newest len counts → newest ≡ Some slip →
    slip ≡ e ∷ entries_of below → ForSome below (λ es. IsTrue (is_named es))
    → drop_counts_view counts ≡ with_drops e.reason 1 (drop_counts_view after)
    → IsLedger below (len - 1) after
popped newest below slip len counts after e h took unlinked named counted =
    let all : entries_of newest ≡ e ∷ entries_of below = ap entries_of took ∙ unlinked in
    let tally : IsTally (with_drops e.reason 1 (drop_counts_view after)) (e ∷ entries_of below) =
    subst (λ k. IsTally k (e ∷ entries_of below)) counted
    (subst (IsTally (drop_counts_view counts)) all h.tally) in
    record {
      named = named;
      length = omega (arith, h.length, ap length all);
      tally = tally-fewer (drop_counts_view after) e (entries_of below) tally;
    }

-- Two counts together count for each reason the sum of both.
count-sum : (b c : model.DropCounts) (r : Reason)
    → count_in (sum_of b c) r ≡ count_in b r + count_in c r
count-sum b c queue_full = refl
count-sum b c encode_memory = refl
count-sum b c too_large = refl
count-sum b c abandoned = refl
count-sum b c (Reason.refused status) = refl
count-sum b c Reason.bad_reply = refl
count-sum b c Reason.given_up = refl
count-sum b c Reason.left_handed = refl

-- A reversed list before another has each reason as often as both lists together.
count-turned : (r : Reason) (above below : List Entry)
    → count_of_reason r (reverse above ++ below) ≡ count_of_reason r below + count_of_reason r above
count-turned r above below =
    let one : Entry → ℕ = λ x. cond (is_reason r x.reason) 1 0 in
    let both : count_of_reason r (reverse above ++ below)
    ≡ count_of_reason r (reverse above) + count_of_reason r below =
    sum_by-append one (reverse above) below in
    let turned : count_of_reason r (reverse above) ≡ count_of_reason r above =
    sum_by-IsPermutation one above (reverse above) (IsPermutation-reverse above) in
    omega (arith, both, turned)

tally-turned : (b c : model.DropCounts) (below above : List Entry) → IsTally b below
    → IsTally c above → IsTally (sum_of b c) (reverse above ++ below)
tally-turned b c below above h k = record {
  exact = λ r drop. let each : count_in b r ≡ count_of_reason r below = h.exact r drop in
      let more : count_in c r ≡ count_of_reason r above = k.exact r drop in
      omega (arith, count-sum b c r, count-turned r above below, each, more);
}

-- Each reason is counted at most as often as there are names.
tally-fits : (b c : model.DropCounts) (below above : List Entry) (r : Reason) → is_lost r ≡ false
    → IsTally b below → IsTally c above → length below + length above < 2 ^ 64
    → count_in b r + count_in c r < 2 ^ 64
tally-fits b c below above r drop h k fits =
    let is_r = λ (x : Entry). is_reason r x.reason in
    let each : count_in b r ≡ count_of_reason r below = h.exact r drop in
    let more : count_in c r ≡ count_of_reason r above = k.exact r drop in
    let few : count_of_reason r below ≤ length below = count_by-le-length is_r below in
    let fewer : count_of_reason r above ≤ length above = count_by-le-length is_r above in
    omega (arith, each, more, few, fewer, fits)

-- Two counts fit in 64 bits together where all their names together do.
pub fit-together : (b c : model.DropCounts) (below above : List Entry) → IsTally b below
    → IsTally c above → length below + length above < 2 ^ 64 → FitTogether b c
fit-together b c below above h k fits = record {
  queue_full = tally-fits b c below above queue_full refl h k fits;
  encode_memory = tally-fits b c below above encode_memory refl h k fits;
  too_large = tally-fits b c below above too_large refl h k fits;
  abandoned = tally-fits b c below above abandoned refl h k fits;
}

-- A ledger is right after another one is put onto it.
pub appended : (newest other turned : Option (List Entry)) (len more : ℕ)
    (counts others after : DropCounts)
    → IsLedger newest len counts → IsLedger other more others →
    entries_of turned ≡ reverse (entries_of other) ++ entries_of newest
    → ForSome turned (λ es. IsTrue (is_named es))
    → drop_counts_view after ≡ sum_of (drop_counts_view counts) (drop_counts_view others)
    → IsLedger turned (len + more) after
appended newest other turned len more counts others after h k all named counted = record {
  named = named;
  length =
      omega (
        arith,
        h.length,
        k.length,
        ap length all,
        length-append (reverse (entries_of other)) (entries_of newest),
        length-reverse (entries_of other),
      );
  tally =
      subst (λ es. IsTally (drop_counts_view after) es) (sym all)
      (subst (λ c. IsTally c (reverse (entries_of other) ++ entries_of newest)) (sym counted)
      (tally-turned (drop_counts_view counts) (drop_counts_view others) (entries_of newest)
      (entries_of other) h.tally k.tally));
}

-- There are fewer names below a slip that names something.
pub fewer-below : (rest below : Option (List Entry)) (slip : List Entry)
    → ForSome rest (λ es. IsTrue (is_named es)) → rest ≡ Some slip → entries_of below ≡ drop 1 slip
    → length (entries_of below) < length (entries_of rest)
fewer-below rest below [] named e b = absurd (false≢true (named [] e))
fewer-below rest below (x ∷ xs) named e b =
    let left : length (entries_of below) ≡ length xs = ap length b in
    let all : length (entries_of rest) ≡ suc (length xs) = ap (λ o. length (entries_of o)) e in
    omega (arith, left, all)

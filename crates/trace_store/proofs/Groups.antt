-- What one more span makes of parts.
use Rattle.std.proofs.Common.{◌≡◌, ◌≢◌, ◌⊎◌, ℕ, ◌+◌, ◌<◌, List, [], ◌∷◌, ◌++◌, length, refl, sym}
use Rattle.std.proofs.Common.{◌∙◌, ap, subst, inl, inr, append_assoc, append-nil, arith, eqb-true}
use Rattle.std.proofs.Math.ListN.{get_or, get_or-append}
use Rattle.std.proofs.Math.Seq.{get_or-append_seam}
use Rattle.std.proofs.lemmas.List.{length-append, map-append}
use Rattle.std.proofs.lemmas.Grind.{flat_map-append}
use Rattle.std.proofs.lemmas.List.Elements.{All-nil, All-push}
use Rattle.std.specs.Prelude.{All, true, false, nat_eq, nat_lt}
use Rattle.std.specs.List.Sorted.{IsNonDecreasingBy, IsStrictlyIncreasing}
use Rattle.std.proofs.lemmas.Bool.{cases_Bool}
use borrow.Author.Tests.{ltb-true, ltb-false}
use Rattle.trace_store.specs.SpanParts.{ArePartsOf, BeginsPart, JoinsLast, entries_of}
use Rattle.trace_store.specs.SpanParts.{entries_of_part, keys_of}

-- one of the first n spans is of the trace with this number
pub record IsAmong {S : Type 0} (spans : List (ℕ × S)) (n key : ℕ) : Type 0 where
  pub place : ℕ
  pub within : place < n
  pub is : (d : ℕ × S) → (get_or spans place d).0 ≡ key

-- the spans so far are in parts, of which the last one is open
pub record AreOpen {S : Type 0} (spans done : List (ℕ × S)) (parts : List (ℕ × List S))
    (last : ℕ × List S) : Type 0 where
  pub all : done ≡ entries_of (parts ++ last ∷ [])
  pub some : All (λ part. 0 < length part.1) parts
  pub empty : last.1 ≡ [] → parts ≡ []
  pub rising : last.1 ≢ [] → IsStrictlyIncreasing (keys_of (parts ++ last ∷ []))
  pub among : last.1 ≢ [] → IsAmong spans (length done) last.0

one_rises : (x : ℕ) → IsStrictlyIncreasing (x ∷ [])
one_rises x k h = absurd (omega arith)

rises : (zs : List ℕ) (x y : ℕ) → IsStrictlyIncreasing (zs ++ x ∷ []) → x < y
    → IsStrictlyIncreasing ((zs ++ x ∷ []) ++ y ∷ [])
rises zs x y h lt k within =
    let whole = length-append zs (x ∷ []) in
    let more = length-append (zs ++ x ∷ []) (y ∷ []) in
    elim (cases_Bool (nat_lt (k + 1) (length (zs ++ x ∷ [])))) [
      | inl t ↦
          let below : k + 1 < length (zs ++ x ∷ []) = ltb-true _ _ t in
          let low : k < length (zs ++ x ∷ []) = omega arith in
          let here = h k below in
          rw (
            get_or-append (zs ++ x ∷ []) (y ∷ []) 0 k low,
            get_or-append (zs ++ x ∷ []) (y ∷ []) 0 (k + 1) below,
          ) here
      | inr n ↦
          let above = ltb-false _ _ n in
          let ends : k ≡ length zs = omega arith in
          let next : k + 1 ≡ length (zs ++ x ∷ []) = omega arith in
          let low : k < length (zs ++ x ∷ []) = omega arith in
          let first : get_or ((zs ++ x ∷ []) ++ y ∷ []) k 0 ≡ x =
          get_or-append (zs ++ x ∷ []) (y ∷ []) 0 k low ∙ ap (λ i. get_or (zs ++ x ∷ []) i 0) ends
          ∙ get_or-append_seam zs x [] 0 in
          let second : get_or ((zs ++ x ∷ []) ++ y ∷ []) (k + 1) 0 ≡ y =
          ap (λ i. get_or ((zs ++ x ∷ []) ++ y ∷ []) i 0) next
          ∙ get_or-append_seam (zs ++ x ∷ []) y [] 0 in
          omega (arith, first, second, lt)
    ]

-- The keys of parts with one more part end with the key of that part.
pub keys_push : {S : Type 0} (parts : List (ℕ × List S)) (part : ℕ × List S)
    → keys_of (parts ++ part ∷ []) ≡ keys_of parts ++ part.0 ∷ []
keys_push parts part = map-append (λ p. p.0) parts (part ∷ [])

-- The entries of parts with one more part end with the entries of that part.
pub entries_push : {S : Type 0} (parts : List (ℕ × List S)) (part : ℕ × List S)
    → entries_of (parts ++ part ∷ []) ≡ entries_of parts ++ entries_of_part part
entries_push parts part =
    flat_map-append entries_of_part parts (part ∷ [])
    ∙ ap (λ l. entries_of parts ++ l) (append-nil (entries_of_part part))

-- an open part of one span
begun : {S : Type 0} (spans : List (ℕ × S)) (key : ℕ) (span : S) (rest : List (ℕ × S))
    → (key, span) ∷ rest ≡ spans → AreOpen spans ((key, span) ∷ []) [] (key, span ∷ [])
begun spans key span rest whole = record {
  all = refl;
  some = All-nil _;
  empty = λ e. cc;
  rising = λ _. one_rises key;
  among = λ _.
      record { place = 0; within = omega arith; is = λ d. ap (λ l. (get_or l 0 d).0) (sym whole) };
}

next_key : {S : Type 0} (spans done rest : List (ℕ × S)) (key : ℕ) (span : S) (d : ℕ × S)
    → done ++ (key, span) ∷ rest ≡ spans → (get_or spans (length done) d).0 ≡ key
next_key spans done rest key span d whole =
    ap (λ l. (get_or l (length done) d).0) (sym whole)
    ∙ ap (λ e. e.0) (get_or-append_seam done (key, span) rest d)

-- the next span is among the first ones then
next_among : {S : Type 0} (spans done rest : List (ℕ × S)) (key : ℕ) (span : S)
    → done ++ (key, span) ∷ rest ≡ spans → IsAmong spans (length (done ++ (key, span) ∷ [])) key
next_among spans done rest key span whole = record {
  place = length done;
  within = omega (arith, length-append done ((key, span) ∷ []));
  is = λ d. next_key spans done rest key span d whole;
}

-- When the next span comes to the open part, the spans so far are still in parts.
pub joined : {S : Type 0} (spans done rest : List (ℕ × S)) (parts parts' : List (ℕ × List S))
    (k : ℕ) (ss : List S) (last' : ℕ × List S) (key : ℕ) (span : S)
    → done ++ (key, span) ∷ rest ≡ spans → AreOpen spans done parts (k, ss)
    → JoinsLast key span parts parts' (k, ss) last'
    → AreOpen spans (done ++ (key, span) ∷ []) parts' last'
joined spans done rest parts parts' k [] last' key span whole h j =
    let none : parts ≡ [] = h.empty refl in
    let nothing : done ≡ [] = h.all ∙ ap (λ l. entries_of (l ++ (k, []) ∷ [])) none in
    let start : AreOpen spans ((key, span) ∷ []) [] (key, span ∷ []) =
    begun spans key span rest (ap (λ l. l ++ (key, span) ∷ rest) (sym nothing) ∙ whole) in
    subst (λ l. AreOpen spans (l ++ (key, span) ∷ []) parts' last') (sym nothing)
    (subst (λ l. AreOpen spans ((key, span) ∷ []) l last') (sym (j.same ∙ none))
    (subst (λ l. AreOpen spans ((key, span) ∷ []) [] l) (sym j.more) start))
joined {S} spans done rest parts parts' k (s ∷ ss) last' key span whole h j =
    let same : k ≡ key = elim j.fits [ inl e ↦ e | inr n ↦ cc ] in
    let entries : done ++ (key, span) ∷ []
    ≡ entries_of (parts ++ (key, (s ∷ ss) ++ span ∷ []) ∷ []) =
    ap (λ l. l ++ (key, span) ∷ []) (h.all ∙ entries_push parts (k, s ∷ ss))
    ∙ append_assoc (entries_of parts) (entries_of_part (k, s ∷ ss)) ((key, span) ∷ [])
    ∙ ap (λ i. entries_of parts ++ (entries_of_part (i, s ∷ ss) ++ (key, span) ∷ [])) same
    ∙ ap (λ l. entries_of parts ++ l) (sym (map-append (λ (x : S). (key, x)) (s ∷ ss) (span ∷ [])))
    ∙ sym (entries_push parts (key, (s ∷ ss) ++ span ∷ [])) in
    let keys : keys_of (parts ++ (k, s ∷ ss) ∷ [])
    ≡ keys_of (parts ++ (key, (s ∷ ss) ++ span ∷ []) ∷ []) =
    keys_push parts (k, s ∷ ss) ∙ ap (λ i. keys_of parts ++ i ∷ []) same
    ∙ sym (keys_push parts (key, (s ∷ ss) ++ span ∷ [])) in
    let one : AreOpen spans (done ++ (key, span) ∷ []) parts (key, (s ∷ ss) ++ span ∷ []) = record {
      all = entries;
      some = h.some;
      empty = λ e. cc;
      rising = λ _. subst IsStrictlyIncreasing keys (h.rising (λ e. cc));
      among = λ _. next_among spans done rest key span whole;
    } in
    subst (λ l. AreOpen spans (done ++ (key, span) ∷ []) l last') (sym j.same)
    (subst (λ l. AreOpen spans (done ++ (key, span) ∷ []) parts l) (sym j.more) one)

some_length : {S : Type 0} (ss : List S) → ss ≢ [] → 0 < length ss
some_length [] h = absurd (h refl)
some_length (s ∷ ss) h = omega arith

-- When the next span begins a part, the spans so far are still in parts.
pub begins : {S : Type 0} (spans done rest : List (ℕ × S)) (parts parts' : List (ℕ × List S))
    (last last' : ℕ × List S) (key : ℕ) (span : S)
    → IsNonDecreasingBy (λ e. e.0) spans
    → done ++ (key, span) ∷ rest ≡ spans → AreOpen spans done parts last
    → BeginsPart key span parts parts' last last'
    → AreOpen spans (done ++ (key, span) ∷ []) parts' last'
begins {S} spans done rest parts parts' last last' key span sorted whole h b =
    let among = h.among b.some in
    let total = ap length (sym whole) ∙ length-append done ((key, span) ∷ rest) in
    let fits : length done < length spans = omega arith in
    let le = sorted among.place (length done) (key, span) (omega (arith, among.within)) fits in
    let low = among.is (key, span) in
    let high = next_key spans done rest key span (key, span) whole in
    let other = b.other in
    let less : last.0 < key = omega (arith, le, low, high, other) in
    let entries : done ++ (key, span) ∷ []
    ≡ entries_of ((parts ++ last ∷ []) ++ (key, span ∷ []) ∷ []) =
    ap (λ l. l ++ (key, span) ∷ []) h.all
    ∙ sym (entries_push (parts ++ last ∷ []) (key, span ∷ [])) in
    let one : AreOpen spans (done ++ (key, span) ∷ []) (parts ++ last ∷ []) (key, span ∷ []) =
    record {
      all = entries;
      some =
          All-push (λ (part : ℕ × List S). 0 < length part.1) parts last h.some
          (some_length last.1 b.some);
      empty = λ e. cc;
      rising =
          λ _. rw (keys_push (parts ++ last ∷ []) (key, span ∷ []), keys_push parts last)
          (rises (keys_of parts) last.0 key (rw (keys_push parts last) at (h.rising b.some)) less);
      among = λ _. next_among spans done rest key span whole;
    } in
    subst (λ l. AreOpen spans (done ++ (key, span) ∷ []) l last') (sym b.put)
    (subst (λ l. AreOpen spans (done ++ (key, span) ∷ []) (parts ++ last ∷ []) l) (sym b.one) one)

-- After the next span, whether it joined the open part or began one, the spans are in parts.
pub one_more : {S : Type 0} (spans done rest : List (ℕ × S)) (parts parts' : List (ℕ × List S))
    (last last' : ℕ × List S) (key : ℕ) (span : S)
    → IsNonDecreasingBy (λ e. e.0) spans
    → done ++ (key, span) ∷ rest ≡ spans → AreOpen spans done parts last
    → (JoinsLast key span parts parts' last last' ⊎ BeginsPart key span parts parts' last last')
    → AreOpen spans (done ++ (key, span) ∷ []) parts' last'
one_more spans done rest parts parts' last last' key span sorted whole h put = elim put [
  | inl j ↦ joined spans done rest parts parts' last.0 last.1 last' key span whole h j
  | inr b ↦ begins spans done rest parts parts' last last' key span sorted whole h b
]

-- Where no span came, the spans are in no parts.
pub closed_empty : {S : Type 0} (spans done : List (ℕ × S)) (parts : List (ℕ × List S)) (k : ℕ)
    (ss : List S)
    → done ≡ spans → ss ≡ [] → AreOpen spans done parts (k, ss) → ArePartsOf spans parts
closed_empty {S} spans done parts k ss whole none h =
    let no_parts : parts ≡ [] = h.empty none in
    let nothing : done ≡ [] =
    h.all ∙ ap (λ l. entries_of (l ++ (k, ss) ∷ [])) no_parts
    ∙ ap (λ l. entries_of ((k, l) ∷ [])) none in
    let start : ArePartsOf {S = S} [] [] =
    record {
      all = refl;
      some = All-nil (λ (part : ℕ × List S). 0 < length part.1);
      rising = λ i within. absurd (omega arith);
    } in
    subst (λ l. ArePartsOf l parts) (sym nothing ∙ whole)
    (subst (λ l. ArePartsOf [] l) (sym no_parts) start)

-- The open part is the last part, once all spans have come.
pub closed : {S : Type 0} (spans done : List (ℕ × S)) (parts parts' : List (ℕ × List S))
    (last : ℕ × List S)
    → done ≡ spans → last.1 ≢ [] → parts' ≡ parts ++ last ∷ [] → AreOpen spans done parts last
    → ArePartsOf spans parts'
closed {S} spans done parts parts' last whole some put h =
    subst (λ l. ArePartsOf l parts') whole (subst (λ l. ArePartsOf done l) (sym put) (record {
      all = h.all;
      some =
          All-push (λ (part : ℕ × List S). 0 < length part.1) parts last h.some
          (some_length last.1 some);
      rising = h.rising some;
    }))

-- A list of length 0 is empty.
pub is_none : {S : Type 0} (ss : List S) → nat_eq (length ss) 0 ≡ true → ss ≡ []
is_none [] h = refl
is_none (s ∷ ss) h = absurd (omega (arith, eqb-true (length (s ∷ ss)) 0 h))

-- A list whose length isn't 0 isn't empty.
pub some_there : {S : Type 0} (ss : List S) → nat_eq (length ss) 0 ≡ false → ss ≢ []
some_there [] h e = cc
some_there (s ∷ ss) h e = cc

-- What the files of a spool mean after a file was made, grew or was removed.
use Rattle.std.proofs.Common.{◌≡◌, refl, sym, ap, ap₂, ◌∙◌, ℕ}
use Rattle.std.proofs.Common.{◌+◌, ◌-◌}
use Rattle.std.proofs.Common.{◌≤◌, max, List, [], ◌∷◌, ◌++◌, length, drop, map, arith}
use Rattle.std.proofs.Common.{cond, true, false}
use Rattle.std.proofs.Common.{append_assoc, length-append}
use Rattle.std.specs.Prelude.{flat_map, filter_map, nat_le, Option, Some}
use Rattle.std.proofs.lemmas.Bool.{cond-true}
use Rattle.std.proofs.lemmas.Bool.{cond-false, eqb-true, eq-eqb}
use Rattle.std.proofs.lemmas.List.{append-nil, map-append, length-map}
use Rattle.std.proofs.lemmas.List.Concat.{flat_map-append}
use Rattle.std.proofs.lemmas.List.Elements.{filter-append, filter_map-append}
use Rattle.std.proofs.lemmas.List.Sums.{sum_by-append}
use Rattle.spool.specs.Disks.{SpoolFile, Disk, grown, grow_last, disk_size}
use Rattle.spool.specs.Records.{contents, rest, body_of, bodies, notes, numbered, span}
use Rattle.spool.specs.Spools.{bodies_in, bodies_end, notes_in, is_whole, end_of, greatest, done_to}
use Rattle.spool.specs.Spools.{next_number}
use Rattle.spool.specs.Spools.{waiting_in, waiting_from, numbered_from, CanGrow}
use Rattle.spool.proofs.RecordLaws.{read-on, nil-length, checked}
use Rattle.spool.proofs.ContentLaws.{bodies-checked, numbered-append, numbered-all, numbered-twice}
use Rattle.spool.proofs.ContentLaws.{span-whole}

-- The greatest of two lists is that of one of them.
pub greatest-append : (xs ys : List ℕ) → greatest (xs ++ ys) ≡ max (greatest xs) (greatest ys)
greatest-append [] ys = omega arith
greatest-append (x ∷ xs) ys = omega (arith, greatest-append xs ys)

-- ---- the newest file

-- What grows is the newest file.
pub grow-front : (more : List ℕ) (front : Disk) (last : SpoolFile)
    → grow_last more (front ++ last ∷ []) ≡ front ++ grown more last ∷ []
grow-front more [] last = refl
grow-front more (f ∷ []) last = refl
grow-front more (f ∷ g ∷ front) last = ap (λ (d : Disk). f ∷ d) (grow-front more (g ∷ front) last)

module _ (front : Disk) (last : SpoolFile) where
  -- What is noted, by the newest file and by the others.
  pub done-last : done_to (front ++ last ∷ [])
      ≡ max (greatest (flat_map notes_in front)) (greatest (notes_in last))
  unfolding done_to
  done-last =
      ap greatest
      (flat_map-append notes_in front (last ∷ [])
      ∙ ap (λ (l : List ℕ). flat_map notes_in front ++ l) (append-nil (notes_in last)))
      ∙ greatest-append (flat_map notes_in front) (notes_in last)

  -- The next number, by them.
  pub next-last : next_number (front ++ last ∷ [])
      ≡ max (done_to (front ++ last ∷ [])) (max (greatest (map end_of front)) (end_of last))
  unfolding next_number
  next-last =
      ap (λ (n : ℕ). max (done_to (front ++ last ∷ [])) n)
      (ap greatest (map-append end_of front (last ∷ []))
      ∙ (greatest-append (map end_of front) (end_of last ∷ []) ∙ omega arith))

  -- What waits, by them.
  pub waiting-last : (n : ℕ)
      → waiting_from n (front ++ last ∷ []) ≡ waiting_from n front ++ waiting_in n last
  unfolding waiting_from
  waiting-last n =
      flat_map-append (waiting_in n) front (last ∷ [])
      ∙ ap (λ (l : List (ℕ × List ℕ)). flat_map (waiting_in n) front ++ l)
      (append-nil (waiting_in n last))

  -- The sizes, by them.
  pub size-last : disk_size (front ++ last ∷ []) ≡ disk_size front + length last.bytes
  size-last = omega (arith, sum_by-append (λ (f : SpoolFile). length f.bytes) front (last ∷ []))

-- ---- what waits from a number on

-- What waits from a number on, of all bodies.
waiting-numbered : (n : ℕ) (disk : Disk)
    → waiting_from n disk ≡ numbered_from n (waiting_from 0 disk)
unfolding waiting_from waiting_in
waiting-numbered n [] = refl
waiting-numbered n (f ∷ disk) =
    let bodies_are = numbered f.number (bodies_in f) in
    let same : max n 0 ≡ n = omega arith in
    ap₂ (λ (l : List (ℕ × List ℕ)) (k : List (ℕ × List ℕ)). l ++ k)
    (ap (λ (m : ℕ). numbered_from m bodies_are) (sym same) ∙ sym (numbered-twice n 0 bodies_are))
    (waiting-numbered n disk)
    ∙ sym (filter-append (λ b. nat_le n b.0) (numbered_from 0 bodies_are) (waiting_from 0 disk))

-- What waits from a number on, of what waits from another on.
pub numbered-waiting : (n d : ℕ) (disk : Disk)
    → numbered_from n (waiting_from d disk) ≡ waiting_from (max n d) disk
numbered-waiting n d disk =
    ap (numbered_from n) (waiting-numbered d disk)
    ∙ (numbered-twice n d (waiting_from 0 disk) ∙ sym (waiting-numbered (max n d) disk))

-- ---- whole files

-- A whole file has no bytes that are not read.
pub whole-rest : (file : SpoolFile) → is_whole file ≡ true → rest file.bytes ≡ []
unfolding is_whole
whole-rest file is =
    let none : length (rest file.bytes) ≡ 0 = eqb-true _ _ is in
    nil-length (rest file.bytes) (omega (arith, none))

-- A file without such bytes is whole.
pub rest-whole : (file : SpoolFile) → rest file.bytes ≡ [] → is_whole file ≡ true
unfolding is_whole
rest-whole file is = eq-eqb _ _ (ap length is)

-- The bodies of a whole file, none of which is damaged.
pub record WholeBodies (file : SpoolFile) : Type 0 where
  pub bodies_are : List (List ℕ)
  pub all : bodies_in file ≡ map Some bodies_are

-- No record of a whole file is damaged.
pub whole-bodies : (file : SpoolFile) → is_whole file ≡ true → WholeBodies file
unfolding bodies_in
whole-bodies file is =
    let c = checked file.bytes (whole-rest file is) in
    record {
      bodies_are = filter_map body_of c.are;
      all = ap bodies c.all ∙ bodies-checked c.are;
    }

-- Where a whole file ends.
pub end-whole : (file : SpoolFile) → is_whole file ≡ true
    → end_of file ≡ file.number + length (bodies_in file)
unfolding end_of bodies_end
end-whole file is =
    let none : ◌≡◌ {A = ℕ} (cond (is_whole file) 0 1) 0 = cond-true (is_whole file) 0 1 is in
    let w = whole-bodies file is in
    omega (
      arith,
      none,
      ap span w.all,
      span-whole w.bodies_are,
      ap length w.all,
      length-map w.bodies_are Some,
    )

-- ---- a file that grew

-- What more bytes add to files whose newest one can grow.
pub record Grew (disk : Disk) (more : List ℕ) : Type 0 where
  -- what waits from a number on that is not beyond the end
  pub waits : (n : ℕ) → n ≤ next_number disk
      → waiting_from n (grow_last more disk)
      ≡ waiting_from n disk ++ numbered (next_number disk) (bodies (contents more))
  pub done : done_to (grow_last more disk) ≡ max (done_to disk) (greatest (notes (contents more)))
  pub size : disk_size (grow_last more disk) ≡ disk_size disk + length more

-- The files after it.
pub grew : (disk : Disk) (more : List ℕ) → CanGrow disk → Grew disk more
unfolding bodies_in notes_in waiting_in
grew disk more can =
    let front = can.front in
    let last = can.last in
    let now : grow_last more disk ≡ front ++ grown more last ∷ [] =
    ap (grow_last more) can.split ∙ grow-front more front last in
    let on = read-on last.bytes more (whole-rest last can.whole) in
    let bodies_are : bodies_in (grown more last) ≡ bodies_in last ++ bodies (contents more) =
    ap bodies on.contents_are ∙ filter_map-append _ (contents last.bytes) (contents more) in
    let notes_are : notes_in (grown more last) ≡ notes_in last ++ notes (contents more) =
    ap notes on.contents_are ∙ filter_map-append _ (contents last.bytes) (contents more) in
    let end : last.number + length (bodies_in last) ≡ next_number disk =
    sym (end-whole last can.whole) ∙ can.end in
    record {
      waits = λ n le.
          let these = numbered last.number (bodies_in last) in
          let those = numbered (next_number disk) (bodies (contents more)) in
          let added : waiting_in n (grown more last) ≡ waiting_in n last ++ those =
          ap (λ (l : List (Option (List ℕ))). numbered_from n (numbered last.number l)) bodies_are
          ∙ (ap (numbered_from n)
          (numbered-append last.number (next_number disk) (bodies_in last)
          (bodies (contents more)) end)
          ∙ (filter-append (λ b. nat_le n b.0) these those
          ∙ ap (λ (l : List (ℕ × List ℕ)). numbered_from n these ++ l)
          (numbered-all n (next_number disk) (bodies (contents more)) le))) in
          ap (waiting_from n) now
          ∙ (waiting-last front (grown more last) n
          ∙ (ap (λ (l : List (ℕ × List ℕ)). waiting_from n front ++ l) added
          ∙ (sym (append_assoc (waiting_from n front) (waiting_in n last) those)
          ∙ ap (λ (l : List (ℕ × List ℕ)). l ++ those)
          (sym (waiting-last front last n) ∙ ap (waiting_from n) (sym can.split)))));
      done =
          let here = done-last front (grown more last) in
          let before : done_to disk
          ≡ max (greatest (flat_map notes_in front)) (greatest (notes_in last)) =
          ap done_to can.split ∙ done-last front last in
          let both : greatest (notes_in (grown more last))
          ≡ max (greatest (notes_in last)) (greatest (notes (contents more))) =
          ap greatest notes_are ∙ greatest-append (notes_in last) (notes (contents more)) in
          ap done_to now ∙ (here ∙ omega (arith, before, both));
      size =
          ap disk_size now ∙ (size-last front (grown more last)
          ∙ let before : disk_size disk ≡ disk_size front + length last.bytes =
          ap disk_size can.split ∙ size-last front last in
          omega (arith, before, length-append last.bytes more));
    }

-- Where whole records were added, they can grow on, from the number after them.
pub grew-whole : (disk : Disk) (more : List ℕ) → (can : CanGrow disk) → rest more ≡ []
    → (is_whole (grown more can.last) ≡ true)
    × (end_of (grown more can.last) ≡ next_number disk + length (bodies (contents more)))
    × (next_number (grow_last more disk)
    ≡ max (done_to (grow_last more disk)) (next_number disk + length (bodies (contents more))))
unfolding bodies_in
grew-whole disk more can none =
    let front = can.front in
    let last = can.last in
    let now : grow_last more disk ≡ front ++ grown more last ∷ [] =
    ap (grow_last more) can.split ∙ grow-front more front last in
    let on = read-on last.bytes more (whole-rest last can.whole) in
    let whole : is_whole (grown more last) ≡ true =
    rest-whole (grown more last) (on.rest_is ∙ none) in
    let bodies_are : bodies_in (grown more last) ≡ bodies_in last ++ bodies (contents more) =
    ap bodies on.contents_are ∙ filter_map-append _ (contents last.bytes) (contents more) in
    let end : last.number + length (bodies_in last) ≡ next_number disk =
    sym (end-whole last can.whole) ∙ can.end in
    let ends : end_of (grown more last) ≡ next_number disk + length (bodies (contents more)) =
    end-whole (grown more last) whole
    ∙ omega
    (arith, end, ap length bodies_are, length-append (bodies_in last) (bodies (contents more))) in
    let before : next_number disk
    ≡ max (done_to disk) (max (greatest (map end_of front)) (end_of last)) =
    ap next_number can.split
    ∙ (next-last front last
    ∙ ap (λ (d : Disk). max (done_to d) (max (greatest (map end_of front)) (end_of last)))
    (sym can.split)) in
    let after : next_number (grow_last more disk)
    ≡ max (done_to (grow_last more disk))
    (max (greatest (map end_of front)) (end_of (grown more last))) =
    ap next_number now
    ∙ (next-last front (grown more last)
    ∙ ap
    (λ (d : Disk). max (done_to d) (max (greatest (map end_of front)) (end_of (grown more last))))
    (sym now)) in
    (whole, ends, after ∙ omega (arith, ends, before))

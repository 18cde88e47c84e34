-- What a spool knows of its files after each step.
use Rattle.std.proofs.Common.{◌≡◌, inl, inr, refl, sym, ap, ap₂, ◌∙◌, subst, ℕ, ◌+◌, ◌-◌}
use Rattle.std.proofs.Common.{◌^◌, ◌<◌, ◌≤◌, min}
use Rattle.std.proofs.Common.{List, [], ◌∷◌, ◌++◌, length, map, arith}
use Rattle.std.proofs.Common.{length-append}
use Rattle.std.specs.Prelude.{Option, Some, None, IsSome}
use Rattle.std.specs.Option.{option_to_list}
use Rattle.std.proofs.lemmas.List.{map-append, same_from_push}
use Rattle.spool.specs.Disks.{SpoolFile, Disk, new_file, grown, grow_last, disk_size}
use Rattle.spool.specs.Crashes.{Created, Only}
use Rattle.spool.specs.Records.{bodies, rest}
use Rattle.spool.specs.Spools.{bodies_in, bodies_end, end_of, done_to, next_number, CanGrow, Rises}
use Rattle.spool.specs.Settled.{segment_of, IsSettled, IsSame, Grows, grown_by}
use Rattle.spool.specs.declared.state.Segment.{Segment}
use Rattle.spool.specs.declared.state.Spool.{Spool}
use Rattle.spool.proofs.RecordLaws.{read-nil}
use Rattle.spool.proofs.DiskLaws.{grow-front, next-last, size-last, rest-whole, whole-rest}
use Rattle.spool.proofs.DiskLaws.{end-whole}
use Rattle.spool.proofs.RiseLaws.{rises-grown}
use Rattle.spool.proofs.PutLaws.{made, made-grows}

-- A new file has no lower number than the newest one.
pub below-next : (disk front : Disk) (last : SpoolFile) (next : ℕ) → next ≡ next_number disk
    → disk ≡ front ++ last ∷ [] → last.number ≤ next
unfolding end_of bodies_end
below-next disk front last next is split =
    omega (arith, is, ap next_number split, next-last front last)

-- A file without bytes ends where it begins.
pub end-new : (n : ℕ) → end_of (new_file n) ≡ n
unfolding bodies_in
end-new n =
    let file = new_file n in
    end-whole file (rest-whole file read-nil.1)
    ∙ omega (arith, ap (λ (l : List (Option (List ℕ))). n + length (bodies l)) read-nil.0)

-- The same files mean the same.
pub same-refl : (disk left : Disk) → left ≡ disk → IsSame disk left
same-refl disk left is =
    subst (λ (d : Disk). IsSame disk d) (sym is)
    (record { waits = λ n. refl; done = refl; next = refl; size = refl; rises = λ rises. rises })

-- So do those with a new file.
pub same-made : (disk left : Disk) (n : ℕ) → n ≡ next_number disk → left ≡ disk ++ new_file n ∷ []
    → IsSame disk left
same-made disk left n is now =
    subst (λ (d : Disk). IsSame disk d) (sym (now ∙ ap (λ (k : ℕ). disk ++ new_file k ∷ []) is))
    (made disk)

-- A crash leaves one or the other.
pub same-created : (disk left : Disk) (n : ℕ) → n ≡ next_number disk → Created n disk left
    → IsSame disk left
same-created disk left n is (inl before) = same-refl disk left before
same-created disk left n is (inr after) = same-made disk left n is after

module _ {D : Type 0} (files : D → Disk) (moment : D → ℕ) (left_at : D → ℕ → Disk → Type 0)
    (old new : Spool D) (was : IsSettled files moment left_at old) where
  abbrev before : Disk
  before = files old.device

  abbrev after : Disk
  after = files new.device

  -- After a file was made.
  pub settled-made : new.older.items ≡ old.older.items ++ option_to_list old.growing
      → new.growing ≡ Some (record { number = old.next; «end» = old.next; len = 0; rest = 0 })
      → new.done ≡ old.done → new.next ≡ old.next → new.size ≡ old.size
      → after ≡ before ++ new_file old.next ∷ []
      → Only after (left_at new.device (moment new.device)) → IsSettled files moment left_at new
  settled-made older growing done next size now only =
      let same = same-made before after old.next was.next now in
      let segment : segment_of (new_file old.next)
      ≡ record { number = old.next; «end» = old.next; len = 0; rest = 0 } =
      (λ i. record {
        number = old.next;
        «end» = end-new old.next i;
        len = 0;
        rest = length (read-nil.1 i);
      }) in
      record {
        segments =
            ap₂ (λ (l : List Segment) (o : Option Segment). l ++ option_to_list o) older growing
            ∙ (ap₂ (λ (l : List Segment) (s : Segment). l ++ s ∷ []) was.segments (sym segment)
            ∙ (sym (map-append segment_of before (new_file old.next ∷ []))
            ∙ ap (map segment_of) (sym now)));
        done = done ∙ (was.done ∙ sym same.done);
        next = next ∙ (was.next ∙ sym same.next);
        size = size ∙ (was.size ∙ sym same.size);
        grows =
            λ _. subst CanGrow (sym (now ∙ ap (λ (k : ℕ). before ++ new_file k ∷ []) was.next))
            (made-grows before);
        rises = same.rises was.rises;
        durable = only;
      }

  -- After the newest file grew.
  pub settled-written : (more : List ℕ) → Grows before more new.next new.done new.size
      → IsSome old.growing → new.size < 2 ^ 64 → new.older.items ≡ old.older.items
      → new.growing ≡ grown_by new.next (length more) old.growing → after ≡ grow_last more before
      → Only after (left_at new.device (moment new.device)) → IsSettled files moment left_at new
  settled-written more g some small older growing now only =
      record {
        segments = go old.growing refl some;
        done = g.done_is ∙ ap done_to (sym now);
        next = g.next_is ∙ ap next_number (sym now);
        size = g.size_is ∙ ap disk_size (sym now);
        grows = λ _. subst CanGrow (sym now) g.still;
        rises = subst Rises (sym now) (rises-grown before more was.rises);
        durable = only;
      }
    where
      go : (o : Option Segment) → old.growing ≡ o → IsSome o
          → new.older.items ++ option_to_list new.growing ≡ map segment_of after
      go None is there = absurd (cc)
      go (Some segment) is there =
          let front = g.can.front in
          let last = g.can.last in
          let at_end : old.older.items ++ segment ∷ []
          ≡ map segment_of front ++ segment_of last ∷ [] =
          ap (λ (o : Option Segment). old.older.items ++ option_to_list o) (sym is)
          ∙ (was.segments
          ∙ (ap (map segment_of) g.can.split ∙ map-append segment_of front (last ∷ []))) in
          let both =
          same_from_push old.older.items (map segment_of front) segment (segment_of last) at_end in
          let number : segment.number ≡ last.number = ap (λ (s : Segment). s.number) both.1 in
          let len : segment.len ≡ length last.bytes = ap (λ (s : Segment). s.len) both.1 in
          let grew : grow_last more before ≡ front ++ grown more last ∷ [] =
          ap (grow_last more) g.can.split ∙ grow-front more front last in
          let fits : min (segment.len + length more) (2 ^ 64 - 1) ≡ length (last.bytes ++ more) =
          omega (
            arith,
            len,
            small,
            length-append last.bytes more,
            g.size_is,
            ap disk_size grew,
            size-last front (grown more last),
          ) in
          let still = same_from_push g.still.front front g.still.last (grown more last)
          (sym g.still.split ∙ grew) in
          let nothing : rest (grown more last).bytes ≡ [] =
          ap (λ (f : SpoolFile). rest f.bytes) (sym still.1)
          ∙ whole-rest g.still.last g.still.whole in
          let left : segment.rest ≡ length (rest (grown more last).bytes) =
          ap (λ (s : Segment). s.rest) both.1
          ∙ ap length (whole-rest last g.can.whole ∙ sym nothing) in
          let segment_is : grown_by new.next (length more) (Some segment)
          ≡ Some (segment_of (grown more last)) =
          (λ i. Some (record {
            number = number i;
            «end» = sym g.end i;
            len = fits i;
            rest = left i;
          })) in
          ap₂ (λ (l : List Segment) (o : Option Segment). l ++ option_to_list o) (older ∙ both.0)
          (growing ∙ (ap (grown_by new.next (length more)) is ∙ segment_is))
          ∙ (sym (map-append segment_of front (grown more last ∷ []))
          ∙ ap (map segment_of) (sym (now ∙ grew)))

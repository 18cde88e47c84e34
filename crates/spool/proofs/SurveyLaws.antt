-- What is found in one more file, and the spool that is made of what was found.
use Rattle.std.proofs.Common.{◌≡◌, inl, inr, refl, sym, ap, ap₂, ◌∙◌, subst, ℕ, zero, suc}
use Rattle.std.proofs.Common.{◌+◌, ◌<◌, ◌≤◌, max}
use Rattle.std.proofs.Common.{List, [], ◌∷◌, ◌++◌, length, map, arith}
use Rattle.std.proofs.Common.{cond, get_or}
use Rattle.std.specs.Prelude.{Option, Some, None, IsSome, ◌==◌, slice_get}
use Rattle.std.specs.Option.{option_to_list}
use Rattle.std.proofs.lemmas.List.{append-nil, map-append, get_or-map, length-map}
use Rattle.std.proofs.lemmas.List.Sums.{sum_by-append}
use Rattle.spool.specs.Disks.{SpoolFile, Disk, disk_size, file_numbers}
use Rattle.spool.specs.Crashes.{Only}
use Rattle.spool.specs.Records.{contents, rest, bodies, notes, numbered, span}
use Rattle.spool.specs.Spools.{bodies_in, notes_in, is_whole, bodies_end, end_of, greatest}
use Rattle.spool.specs.Spools.{done_to, next_number}
use Rattle.spool.specs.Spools.{damaged_bytes, numbered_from, waiting_in, Rises}
use Rattle.spool.specs.Settled.{segment_of, IsSettled}
use Rattle.spool.specs.Surveys.{IsSurvey, IsSplit}
use Rattle.spool.specs.declared.state.Segment.{Segment}
use Rattle.spool.specs.declared.state.Spool.{Spool}
use Rattle.spool.specs.declared.opening.Survey.{Survey}
use Rattle.spool.proofs.DiskLaws.{greatest-append, done-last, size-last, rest-whole}
use Rattle.spool.proofs.RecordLaws.{read-nil, nil-length}
use Rattle.spool.proofs.RiseLaws.{rises-push, ends-before}

-- Of no files.
pub survey-none : (survey : Survey) → survey.segments.items ≡ [] → survey.done ≡ 0
    → survey.bodies_end ≡ 0 → survey.last_end ≡ 0 → survey.size ≡ 0 → survey.damaged ≡ 0
    → IsSurvey [] survey
unfolding done_to damaged_bytes
survey-none survey segments done bodies_are ends size damaged = record {
  segments = segments;
  done = done;
  bodies = bodies_are;
  ends = ends;
  size = size;
  damaged = damaged;
  rises = tt;
}

-- Where the bodies of a file end, as they are found.
bodies-end-found : (file : SpoolFile) (n b : ℕ) → file.number ≡ n
    → b ≡ span (bodies (contents file.bytes)) → bodies_end file ≡ n + b
unfolding bodies_end bodies_in
bodies-end-found file n b number count = omega (arith, number, count)

-- Where a file ends, as it is found.
pub end-found : (file : SpoolFile) (n b t r : ℕ) → file.number ≡ n
    → b ≡ span (bodies (contents file.bytes)) → r ≡ length (rest file.bytes)
    → t ≡ cond (r == 0) 0 1 → end_of file ≡ n + b + t
unfolding end_of bodies_end bodies_in is_whole
end-found file n b t r number count left torn =
    let same : cond (r == 0) 0 1 ≡ cond (length (rest file.bytes) == 0) 0 1 =
    ap (λ (k : ℕ). let c : ℕ = cond (k == 0) 0 1 in c) left in
    omega (arith, number, count, torn, same)

-- With one more file.
pub survey-more : (disk : Disk) (file : SpoolFile) (old new : Survey) (n b t r d : ℕ)
    → IsSurvey disk old → file.number ≡ n → old.bodies_end ≤ n
    → b ≡ span (bodies (contents file.bytes)) → d ≡ greatest (notes (contents file.bytes))
    → r ≡ length (rest file.bytes) → t ≡ cond (r == 0) 0 1
    → new.segments.items
    ≡ old.segments.items
    ++ record { number = n; «end» = n + b + t; len = length file.bytes; rest = r } ∷ []
    → new.done ≡ max old.done d → new.bodies_end ≡ max old.bodies_end (n + b)
    → new.last_end ≡ max old.last_end (n + b + t)
    → new.size ≡ old.size + length file.bytes → new.damaged ≡ old.damaged + r
    → IsSurvey (disk ++ file ∷ []) new
unfolding done_to damaged_bytes notes_in
survey-more disk file old new n b t r d was number above count noted left torn segments done
    bodies_are ends size damaged =
    let bodies_end_is : bodies_end file ≡ n + b = bodies-end-found file n b number count in
    let end_is : end_of file ≡ n + b + t = end-found file n b t r number count left torn in
    record {
      segments =
          segments ∙ (ap₂ (λ (l : List Segment) (s : Segment). l ++ s ∷ []) was.segments
          (λ i. record {
            number = sym number i;
            «end» = sym end_is i;
            len = length file.bytes;
            rest = left i;
          })
          ∙ sym (map-append segment_of disk (file ∷ [])));
      done = done ∙ (omega (arith, was.done, noted, done-last disk file));
      bodies =
          omega (
            arith,
            bodies_are,
            was.bodies,
            bodies_end_is,
            ap greatest (map-append bodies_end disk (file ∷ [])),
            greatest-append (map bodies_end disk) (bodies_end file ∷ []),
          );
      ends =
          omega (
            arith,
            ends,
            was.ends,
            end_is,
            ap greatest (map-append end_of disk (file ∷ [])),
            greatest-append (map end_of disk) (end_of file ∷ []),
          );
      size = omega (arith, size, was.size, size-last disk file);
      damaged =
          omega (
            arith,
            damaged,
            was.damaged,
            left,
            sum_by-append (λ (f : SpoolFile). length (rest f.bytes)) disk (file ∷ []),
          );
      rises = rises-push disk file was.rises (omega (arith, was.bodies, number, above));
    }

-- A file whose number is below the end of the others' bodies doesn't rise after them.
pub survey-overlaps : (disk : Disk) (file : SpoolFile) (survey : Survey) → IsSurvey disk survey
    → file.number < survey.bodies_end → Rises (disk ++ file ∷ []) → ⊥
survey-overlaps disk file survey is below rises =
    omega (arith, is.bodies, below, ends-before disk file rises)

-- ---- the loop over the files

-- One file of several.
pub file-at : (disk : Disk) (i : ℕ) (d : SpoolFile) → i < length disk
    → slice_get disk i ≡ Some (get_or disk i d)
file-at [] i d lt = absurd (omega arith)
file-at (f ∷ disk) zero d lt = refl
file-at (f ∷ disk) (suc i) d lt = file-at disk i d (omega (arith, lt))

-- Its number is one of the numbers.
pub number-at : (disk : Disk) (i : ℕ) (d : SpoolFile) (numbers : List ℕ)
    → numbers ≡ file_numbers disk → i < length numbers
    → (i < length disk) × ((get_or disk i d).number ≡ get_or numbers i 0)
number-at disk i d numbers are lt =
    let sized : length numbers ≡ length disk =
    ap length are ∙ length-map disk (λ (f : SpoolFile). f.number) in
    let there : i < length disk = omega (arith, sized, lt) in (
      there,
      sym (ap (λ (l : List ℕ). get_or l i 0) are
          ∙ get_or-map (λ (f : SpoolFile). f.number) disk i d 0 there),
    )

-- ---- the spool

-- A last file, where there is a last segment.
pub record LastFile (disk : Disk) (segment : Segment) : Type 0 where
  pub front : Disk
  pub last : SpoolFile
  pub split : disk ≡ front ++ last ∷ []
  pub is : segment ≡ segment_of last

-- The last file, by the last segment.
pub last-file : (disk : Disk) (older : List Segment) (segment : Segment)
    → map segment_of disk ≡ older ++ segment ∷ [] → LastFile disk segment
last-file [] [] segment is = absurd (cc)
last-file [] (s ∷ older) segment is = absurd (cc)
last-file (f ∷ []) [] segment is = record { front = []; last = f; split = refl; is = cc }
last-file (f ∷ []) (s ∷ older) segment is =
    let none : [] ≡ older ++ segment ∷ [] = cc in absurd (nothing older segment none)
  where
    nothing : (xs : List Segment) (s : Segment) → [] ≡ xs ++ s ∷ [] → ⊥
    nothing [] s e = cc
    nothing (x ∷ xs) s e = cc
last-file (f ∷ g ∷ disk) [] segment is = absurd (cc)
last-file (f ∷ g ∷ disk) (s ∷ older) segment is =
    let rest : map segment_of (g ∷ disk) ≡ older ++ segment ∷ [] = cc in
    let more = last-file (g ∷ disk) older segment rest in
    record {
      front = f ∷ more.front;
      last = more.last;
      split = ap (λ (d : Disk). f ∷ d) more.split;
      is = more.is;
    }

-- The spool that is made of what was found.
pub settled-found : {D : Type 0} (files : D → Disk) (moment : D → ℕ)
    (left_at : D → ℕ → Disk → Type 0) (spool : Spool D) (survey : Survey) (disk : Disk)
    → IsSurvey disk survey → files spool.device ≡ disk
    → Only (files spool.device) (left_at spool.device (moment spool.device))
    → IsSplit survey.segments.items spool.older.items spool.next spool.growing
    → spool.done ≡ survey.done → spool.next ≡ max survey.done survey.last_end
    → spool.size ≡ survey.size
    → IsSettled files moment left_at spool
unfolding next_number
settled-found files moment left_at spool survey disk found same only split done next size =
    go spool.growing refl split
  where
    next_is : spool.next ≡ next_number (files spool.device)
    next_is =
        omega (
          arith,
          next,
          found.done,
          found.ends,
          ap done_to same,
          ap (λ (d : Disk). greatest (map end_of d)) same,
        )

    done_is : spool.done ≡ done_to (files spool.device)
    done_is = done ∙ (found.done ∙ ap done_to (sym same))

    size_is : spool.size ≡ disk_size (files spool.device)
    size_is = size ∙ (found.size ∙ ap disk_size (sym same))

    rises : Rises (files spool.device)
    rises = subst Rises (sym same) found.rises

    nothing : IsSome {T = Segment} None → ⊥
    nothing some = cc

    go : (o : Option Segment) → spool.growing ≡ o
        → IsSplit survey.segments.items spool.older.items spool.next o
        → IsSettled files moment left_at spool
    go (Some segment) is parts =
        let all : map segment_of (files spool.device) ≡ spool.older.items ++ segment ∷ [] =
        ap (map segment_of) same ∙ (sym found.segments ∙ parts.0) in
        let lf = last-file (files spool.device) spool.older.items segment all in
        let none : lf.last.bytes ≡ [] =
        nil-length lf.last.bytes
        (omega (arith, ap (λ (s : Segment). s.len) (sym lf.is), parts.1)) in
        record {
          segments =
              ap (λ (o : Option Segment). spool.older.items ++ option_to_list o) is ∙ sym all;
          done = done_is;
          next = next_is;
          size = size_is;
          grows = λ _. record {
            front = lf.front;
            last = lf.last;
            split = lf.split;
            whole = rest-whole lf.last (ap rest none ∙ read-nil.1);
            end = ap (λ (s : Segment). s.«end») (sym lf.is) ∙ (parts.2 ∙ next_is);
          };
          rises = rises;
          durable = only;
        }
    go None is parts =
        record {
          segments =
              ap (λ (o : Option Segment). spool.older.items ++ option_to_list o) is
              ∙ (append-nil spool.older.items
              ∙ (parts ∙ (found.segments ∙ ap (map segment_of) (sym same))));
          done = done_is;
          next = next_is;
          size = size_is;
          grows = λ some. absurd (nothing (subst IsSome is some));
          rises = rises;
          durable = only;
        }

-- What is kept of one file of several.
pub segment-at : (disk : Disk) (i : ℕ) (file : SpoolFile) → slice_get disk i ≡ Some file
    → slice_get (map segment_of disk) i ≡ Some (segment_of file)
segment-at [] i file is = absurd (cc)
segment-at (f ∷ disk) zero file is =
    let same : f ≡ file = cc in ap (λ (x : SpoolFile). Some (segment_of x)) same
segment-at (f ∷ disk) (suc i) file is = segment-at disk i file is

-- The bodies of a file that wait, by its records.
pub bodies-waiting : (done start number : ℕ) (file : SpoolFile) (bytes : List ℕ)
    (found : List (ℕ × List ℕ)) → start ≡ done → number ≡ file.number → bytes ≡ file.bytes
    → found ≡ numbered_from start (numbered number (bodies (contents bytes)))
    → found ≡ waiting_in done file
unfolding waiting_in bodies_in
bodies-waiting done start number file bytes found begins first are is =
    is
    ∙ (ap (λ (n : ℕ). numbered_from n (numbered number (bodies (contents bytes)))) begins
    ∙ ap₂ (λ (n : ℕ) (l : List ℕ). numbered_from done (numbered n (bodies (contents l)))) first are)

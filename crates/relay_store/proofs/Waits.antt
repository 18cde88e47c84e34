-- A spool that is in use, after a call of it.
use Rattle.std.proofs.Common.{◌≡◌, refl, sym, ap, ◌∙◌, subst, ℕ, ◌+◌, ◌<◌, zero, suc, List}
use Rattle.std.proofs.Common.{[], ◌∷◌, ◌++◌, length, drop, arith}
use Rattle.std.proofs.Common.{◌≤◌, ◌≢◌, max, append_assoc}
use Rattle.std.specs.Prelude.{Option, Some, None, IfSome, IsSome, Vec, flat_map, slice_get}
use Rattle.std.specs.List.{enumerate_from}
use Rattle.std.specs.declared.alloc.Global.{Global}
use Rattle.std.proofs.lemmas.List.{drop_all, length-map, map-append}
use Rattle.spool.specs.Disks.{Disk, SpoolFile}
use Rattle.spool.specs.Spools.{done_to, numbered_from, waiting, waiting_from, waiting_in}
use Rattle.spool.specs.Settled.{IsSettled, waiting_view}
use Rattle.spool.specs.declared.records.WaitingBody.{WaitingBody}
use Rattle.relay_queue.specs.Bodies.{bodies_view}
use Rattle.spool.specs.declared.state.Spool.{Spool}
use Rattle.spool.proofs.RiseLaws.{waiting-from}
use Rattle.relay_store.specs.Fronts.{AreFirst, BeginWith, IsInUse, spool_waiting}
use Rattle.relay_store.specs.Kept.{PutsAll}
use Rattle.relay_store.proofs.Fronts.{enumerate-append, front-more, front-none, front-noted}

module _ {D : Type 0} (files : D → Disk) (moment : D → ℕ) (left_at : D → ℕ → Disk → Type 0) where
  -- A spool in use is settled.
  pub use-settled : (number : ℕ) (bodies : List (List ℕ)) (spool : Option (Spool D))
      → IfSome spool (IsInUse files moment left_at number bodies)
      → IfSome spool (IsSettled files moment left_at)
  use-settled number bodies None held = tt
  use-settled number bodies (Some s) held = held.settled

  -- The bodies of the desk are the first ones, whether or not the spool is there.
  pub use-of : (number : ℕ) (bodies : List (List ℕ)) (spool : Option (Spool D))
      → IfSome spool (IsSettled files moment left_at)
      → AreFirst number bodies (spool_waiting files spool)
      → IfSome spool (IsInUse files moment left_at number bodies)
  use-of number bodies None settled first = tt
  use-of number bodies (Some s) settled first = record { settled = settled; first = first }

  -- Those of the desk are the first ones of a spool that is there.
  pub use-first : (number : ℕ) (bodies : List (List ℕ)) (spool : Option (Spool D)) → IsSome spool
      → IfSome spool (IsInUse files moment left_at number bodies)
      → AreFirst number bodies (spool_waiting files spool)
  use-first number bodies None there held =
      let no : ⊥ = cc in
      absurd no
  use-first number bodies (Some s) there held = held.first

  -- With no body at the desk.
  pub use-none : (number : ℕ) (spool : Option (Spool D))
      → IfSome spool (IsSettled files moment left_at)
      → IfSome spool (IsInUse files moment left_at number [])
  use-none number spool settled =
      use-of number [] spool settled (front-none number (spool_waiting files spool))

  -- After further bodies were put.
  pub use-put : (number : ℕ) (bodies more : List (List ℕ)) (old new : Option (Spool D))
      → IsSome old → IfSome old (IsInUse files moment left_at number bodies)
      → PutsAll files moment left_at more old new
      → IfSome new (IsInUse files moment left_at number bodies)
  use-put number bodies more old new there held puts =
      use-of number bodies new puts.settled
      (subst (AreFirst number bodies) (sym puts.waits)
      (front-more number bodies (spool_waiting files old) (enumerate_from puts.first more)
      (use-first number bodies old there held)))

  -- After the same waits.
  pub use-same : (number : ℕ) (bodies : List (List ℕ)) (old new : Option (Spool D))
      → (IsSome new → IsSome old) → IfSome old (IsInUse files moment left_at number bodies)
      → IfSome new (IsSettled files moment left_at)
      → spool_waiting files new ≡ spool_waiting files old
      → IfSome new (IsInUse files moment left_at number bodies)
  use-same number bodies old None there held settled same = tt
  use-same number bodies old (Some s) there held settled same =
      use-of number bodies (Some s) settled
      (subst (AreFirst number bodies) (sym same)
      (use-first number bodies old (there refl) held))

  -- After it was noted that the bodies before those of the desk ended.
  pub use-noted : (number : ℕ) (bodies : List (List ℕ)) (old new : Option (Spool D))
      → (IsSome new → IsSome old) → IfSome old (IsInUse files moment left_at number bodies)
      → IfSome new (IsSettled files moment left_at)
      → spool_waiting files new ≡ numbered_from number (spool_waiting files old)
      → IfSome new (IsInUse files moment left_at number bodies)
  use-noted number bodies old None there held settled noted = tt
  use-noted number bodies old (Some s) there held settled noted =
      use-of number bodies (Some s) settled
      (subst (AreFirst number bodies) (sym noted)
      (front-noted number bodies (spool_waiting files old)
      (use-first number bodies old (there refl) held)))

  -- After bodies of a spool in use ended, which still wait in it.
  pub use-ended : (number number' : ℕ) (bodies bodies' : List (List ℕ)) (spool : Option (Spool D))
      → ((waits : List (ℕ × List ℕ)) → AreFirst number bodies waits
      → AreFirst number' bodies' waits)
      → IfSome spool (IsInUse files moment left_at number bodies)
      → IfSome spool (IsInUse files moment left_at number' bodies')
  use-ended number number' bodies bodies' None ends held = tt
  use-ended number number' bodies bodies' (Some s) ends held =
      record { settled = held.settled; first = ends _ held.first }

-- A list without elements.
pub nil-items : {X : Type 0} (xs : List X) → length xs ≡ 0 → xs ≡ []
nil-items [] e = refl
nil-items (x ∷ xs) e = absurd (omega (arith, e))

-- What is so of a value that is there.
pub if-some : {X : Type 0} (P : X → Type 0) (o : Option X) (x : X) → o ≡ Some x → IfSome o P
    → P x
if-some P None x e h =
    let no : ⊥ = cc in
    absurd no
if-some P (Some y) x e h =
    let same : y ≡ x = cc in
    subst P same h

-- ---- files, one after the other

-- What waits in the files from this index on, with a number from this on.
unfoldable pub rest_waits : ℕ → Disk → ℕ → List (ℕ × List ℕ)
rest_waits from disk index = flat_map (waiting_in (max (done_to disk) from)) (drop index disk)

drop-get : {X : Type 0} (xs : List X) (i : ℕ) (x : X) → slice_get xs i ≡ Some x
    → drop i xs ≡ x ∷ drop (i + 1) xs
drop-get [] i x e =
    let no : ⊥ = cc in
    absurd no
drop-get (y ∷ xs) zero x e =
    let same : y ≡ x = cc in
    ap (λ z. z ∷ xs) same
drop-get (y ∷ xs) (suc i) x e =
    let next : suc i + 1 ≡ suc (i + 1) = omega arith in
    drop-get xs i x e ∙ ap (λ n. x ∷ drop n (y ∷ xs)) (sym next)

-- All that waits.
pub all-waits : (from : ℕ) (disk : Disk)
    → numbered_from from (waiting disk) ≡ rest_waits from disk 0
unfolding waiting_from rest_waits
all-waits from disk = sym (waiting-from from disk)

-- Beyond the last file nothing does.
pub none-waits : (from : ℕ) (disk : Disk) (index : ℕ) → length disk ≤ index
    → rest_waits from disk index ≡ []
unfolding rest_waits
none-waits from disk index le =
    ap (flat_map (waiting_in (max (done_to disk) from))) (drop_all index disk le)

-- What waits in a file, and then in those after it.
pub waits-at : (from : ℕ) (disk : Disk) (index : ℕ) (file : SpoolFile)
    → slice_get disk index ≡ Some file
    → rest_waits from disk index
    ≡ waiting_in (max (done_to disk) from) file ++ rest_waits from disk (index + 1)
unfolding rest_waits
waits-at from disk index file at =
    ap (flat_map (waiting_in (max (done_to disk) from))) (drop-get disk index file at)

file-at : (disk : Disk) (index : ℕ) → index < length disk
    → (file : SpoolFile) × (slice_get disk index ≡ Some file)
file-at [] index lt = absurd (omega arith)
file-at (f ∷ disk) zero lt = (f, refl)
file-at (f ∷ disk) (suc index) lt = file-at disk index (omega arith)

-- These are the bodies that wait in the file with this index.
abbrev pub AreIn : ℕ → Disk → ℕ → List (ℕ × List ℕ) → Type 0
AreIn from disk index found =
    (file : SpoolFile) → slice_get disk index ≡ Some file
    → found ≡ waiting_in (max (done_to disk) from) file

module _ (from : ℕ) (disk same : Disk) (index : ℕ) (found : List (ℕ × List ℕ))
    (e : same ≡ disk) (lt : index < length disk) (are : AreIn from same index found)
    (rest : numbered_from from (waiting disk) ≡ rest_waits from disk index) where
  bodies-at : rest_waits from disk index ≡ found ++ rest_waits from disk (index + 1)
  bodies-at =
      let here = file-at disk index lt in
      let is : found ≡ waiting_in (max (done_to disk) from) here.0 =
      subst (λ (d : Disk). AreIn from d index found) e are here.0 here.1 in
      waits-at from disk index here.0 here.1
      ∙ ap (λ (l : List (ℕ × List ℕ)). l ++ rest_waits from disk (index + 1)) (sym is)

  -- Where nothing waits before it, all that waits begins with the first of them.
  pub found-begins : (number : ℕ) (bodies : List (List ℕ)) → BeginWith number bodies found
      → BeginWith number bodies (numbered_from from (waiting disk))
  found-begins number bodies begin = record {
    others = begin.others ++ rest_waits from disk (index + 1);
    are =
        rest
        ∙ (bodies-at
        ∙ (ap (λ (l : List (ℕ × List ℕ)). l ++ rest_waits from disk (index + 1)) begin.are
        ∙ append_assoc (enumerate_from number bodies) begin.others
        (rest_waits from disk (index + 1))));
  }

  -- Where there are none, nothing waits before the next file.
  pub none-found : found ≡ []
      → numbered_from from (waiting disk) ≡ rest_waits from disk (index + 1)
  none-found none =
      rest
      ∙ (bodies-at
      ∙ ap (λ (l : List (ℕ × List ℕ)). l ++ rest_waits from disk (index + 1)) none)

-- ---- bodies without a gap between their numbers

-- With one more body, whose number is the next one.
pub run-more : (first : ℕ) (done : List WaitingBody) (bodies : List (Vec ℕ Global))
    (body : WaitingBody) → waiting_view done ≡ enumerate_from first (bodies_view bodies)
    → body.number ≡ first + length bodies
    → waiting_view (done ++ body ∷ [])
    ≡ enumerate_from first (bodies_view (bodies ++ body.bytes ∷ []))
run-more first done bodies body so_far next =
    let sized : length (bodies_view bodies) ≡ length bodies =
    length-map bodies (λ (b : Vec ℕ Global). b.items) in
    map-append (λ (b : WaitingBody). (b.number, b.bytes.items)) done (body ∷ [])
    ∙ (ap (λ (l : List (ℕ × List ℕ)). l ++ (body.number, body.bytes.items) ∷ []) so_far
    ∙ (ap
    (λ (n : ℕ).
    enumerate_from first (bodies_view bodies) ++ enumerate_from n (body.bytes.items ∷ []))
    (omega (arith, sized, next))
    ∙ (sym (enumerate-append first (bodies_view bodies) (body.bytes.items ∷ []))
    ∙ ap (enumerate_from first)
    (sym (map-append (λ (b : Vec ℕ Global). b.items) bodies (body.bytes ∷ []))))))

-- All bodies begin with them.
pub run-begins : (first : ℕ) (found done others : List WaitingBody) (bodies : List (Vec ℕ Global))
    → found ≡ done ++ others → waiting_view done ≡ enumerate_from first (bodies_view bodies)
    → BeginWith first (bodies_view bodies) (waiting_view found)
run-begins first found done others bodies all so_far = record {
  others = waiting_view others;
  are =
      ap waiting_view all
      ∙ (map-append (λ (b : WaitingBody). (b.number, b.bytes.items)) done others
      ∙ ap (λ (l : List (ℕ × List ℕ)). l ++ waiting_view others) so_far);
}

-- Where none of them is there, none was yielded.
pub run-none : (first : ℕ) (done : List WaitingBody) (bodies : List (Vec ℕ Global))
    → waiting_view done ≡ enumerate_from first (bodies_view bodies) → bodies ≡ [] → done ≡ []
run-none first done bodies so_far none =
    let sized : length (waiting_view done) ≡ length done =
    length-map done (λ (b : WaitingBody). (b.number, b.bytes.items)) in
    let empty : waiting_view done ≡ [] =
    so_far ∙ ap (λ (l : List (Vec ℕ Global)). enumerate_from first (bodies_view l)) none in
    nil-items done (sym sized ∙ ap length empty)

-- One more was yielded.
pub moves-one : {X : Type 0} (all done left more : List X) (x : X) → all ≡ done ++ left
    → left ≡ x ∷ more → all ≡ (done ++ x ∷ []) ++ more
moves-one all done left more x is next =
    is ∙ (ap (λ l. done ++ l) next ∙ sym (append_assoc done (x ∷ []) more))

-- Where the next one has another number, some are there: the first one has the first number.
pub run-some : (first : ℕ) (found done left others : List WaitingBody)
    (bodies : List (Vec ℕ Global))
    (body : WaitingBody) → found ≡ done ++ left → left ≡ body ∷ others
    → waiting_view done ≡ enumerate_from first (bodies_view bodies)
    → ((b : WaitingBody) (more : List WaitingBody) → found ≡ b ∷ more → first ≡ b.number)
    → (body.number ≡ first + length bodies → ⊥) → bodies ≢ []
run-some first found done left others bodies body all next so_far begins not = λ none.
    let nothing = run-none first done bodies so_far none in
    let is : found ≡ body ∷ others =
    all ∙ (ap (λ (l : List WaitingBody). l ++ left) nothing ∙ next) in
    not (omega (arith, begins body others is, ap length none))

-- Where all were yielded, some are there if there are some.
pub run-all : (first : ℕ) (found done left : List WaitingBody) (bodies : List (Vec ℕ Global))
    → found ≡ done ++ left → length left ≡ 0
    → waiting_view done ≡ enumerate_from first (bodies_view bodies) → found ≢ [] → bodies ≢ []
run-all first found done left bodies all over so_far some = λ none.
    some (all
    ∙ (ap (λ (l : List WaitingBody). l ++ left) (run-none first done bodies so_far none)
    ∙ nil-items left over))

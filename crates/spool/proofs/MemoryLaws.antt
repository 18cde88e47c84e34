-- What a device in memory has left, after a call.
use Rattle.std.proofs.Common.{◌≡◌, inl, inr, refl, sym, ap, ap₂, ◌∙◌, subst, ℕ, zero, suc, ◌+◌}
use Rattle.std.proofs.Common.{◌<◌, ◌≤◌}
use Rattle.std.proofs.Common.{List, [], ◌∷◌, ◌++◌, length, arith, length-append}
use Rattle.std.specs.Prelude.{Some, slice_get}
use Rattle.std.proofs.lemmas.Bool.{cases_lt}
use Rattle.std.proofs.lemmas.List.{append-nil, length-map}
use Rattle.spool.specs.Disks.{SpoolFile, Disk, grown, grow_last}
use Rattle.spool.specs.Crashes.{After, LeavesOnly}
use Rattle.spool.specs.Memory.{files_view, past_view, moments, was_left}
use Rattle.spool.specs.declared.memory.MemoryDevice.{MemoryDevice}

-- What grows is the newest file.
pub grow-front : (more : List ℕ) (front : Disk) (last : SpoolFile)
    → grow_last more (front ++ last ∷ []) ≡ front ++ grown more last ∷ []
grow-front more [] last = refl
grow-front more (f ∷ []) last = refl
grow-front more (f ∷ g ∷ front) last = ap (λ (d : Disk). f ∷ d) (grow-front more (g ∷ front) last)

-- Nothing grows by nothing.
pub grow-nothing : (disk : Disk) → grow_last [] disk ≡ disk
grow-nothing [] = refl
grow-nothing (f ∷ []) =
    ap (λ (b : List ℕ). record { number = f.number; bytes = b } ∷ []) (append-nil f.bytes)
grow-nothing (f ∷ g ∷ disk) = ap (λ (d : Disk). f ∷ d) (grow-nothing (g ∷ disk))

-- how many moments there were before this one
abbrev pub moment_of : MemoryDevice → ℕ
moment_of device = length device.past.items

abbrev now_of : MemoryDevice → Disk
now_of device = files_view device.files.items

-- the last of a list
at-end : {X : Type 0} (xs : List X) (x y : X) → slice_get (xs ++ x ∷ []) (length xs) ≡ Some y
    → y ≡ x
at-end [] x y is = cc
at-end (z ∷ xs) x y is = at-end xs x y is

end-at : {X : Type 0} (xs : List X) (x : X) → slice_get (xs ++ x ∷ []) (length xs) ≡ Some x
end-at [] x = refl
end-at (z ∷ xs) x = end-at xs x

-- an earlier one
before-end : {X : Type 0} (xs : List X) (x : X) (n : ℕ) → n < length xs
    → slice_get (xs ++ x ∷ []) n ≡ slice_get xs n
before-end [] x n lt = absurd (omega arith)
before-end (z ∷ xs) x zero lt = refl
before-end (z ∷ xs) x (suc n) lt = before-end xs x n (omega (arith, lt))

-- What is left now is what is there.
pub left-now : (device : MemoryDevice) (left : Disk) → was_left device (moment_of device) left
    → left ≡ now_of device
left-now device left was =
    let past = past_view device.past.items in
    let same : moment_of device ≡ length past =
    sym (length-map device.past.items (λ files. files_view files.items)) in
    at-end past (now_of device) left
    (subst (λ (n : ℕ). slice_get (past ++ now_of device ∷ []) n ≡ Some left) same was)

-- What is there may be left now.
pub now-left : (device : MemoryDevice) → was_left device (moment_of device) (now_of device)
now-left device =
    let past = past_view device.past.items in
    let same : moment_of device ≡ length past =
    sym (length-map device.past.items (λ files. files_view files.items)) in
    subst (λ (n : ℕ). slice_get (past ++ now_of device ∷ []) n ≡ Some (now_of device)) (sym same)
    (end-at past (now_of device))

-- Where nothing was changed, a crash leaves what it might have left before.
pub still : (old new : MemoryDevice) (meets : Disk → Type 0)
    → past_view new.past.items ≡ past_view old.past.items → now_of new ≡ now_of old
    → meets (now_of old) → LeavesOnly moment_of was_left old new meets
still old new meets past now here =
    let sized : length (past_view new.past.items) ≡ length (past_view old.past.items) =
    ap length past in
    let new_is = length-map new.past.items (λ files. files_view files.items) in
    let old_is = length-map old.past.items (λ files. files_view files.items) in
    let same : moment_of new ≡ moment_of old = omega (arith, sized, new_is, old_is) in
    record {
      later = omega (arith, same);
      past =
          λ t left le was.
          subst (λ (l : List Disk). slice_get l t ≡ Some left) (ap₂ moments past now) was;
      each = λ t left from to was.
          let at : t ≡ moment_of new = omega (arith, same, from, to) in
          let is : left ≡ now_of old =
          left-now new left (subst (λ (n : ℕ). was_left new n left) at was) ∙ now in
          subst meets (sym is) here;
    }

-- Where what was there was kept, a crash leaves that or what is there.
pub moved : (old new : MemoryDevice) (meets : Disk → Type 0)
    → past_view new.past.items ≡ past_view old.past.items ++ now_of old ∷ [] → meets (now_of old)
    → meets (now_of new) → LeavesOnly moment_of was_left old new meets
moved old new meets past before after =
    let old_past = past_view old.past.items in
    let sized : length (past_view new.past.items) ≡ length old_past + 1 =
    omega (arith, ap length past, length-append old_past (now_of old ∷ [])) in
    let new_is = length-map new.past.items (λ files. files_view files.items) in
    let old_is = length-map old.past.items (λ files. files_view files.items) in
    let next : moment_of new ≡ moment_of old + 1 = omega (arith, sized, new_is, old_is) in
    let earlier : (t : ℕ) (left : Disk) → t ≤ moment_of old → was_left new t left
    → was_left old t left =
    λ t left le was.
    sym (before-end (past_view new.past.items) (now_of new) t (omega (arith, le, sized, old_is))
    ∙ ap (λ (l : List Disk). slice_get l t) past)
    ∙ was in
    record {
      later = omega (arith, next);
      past = earlier;
      each = λ t left from to was. elim (cases_lt (moment_of old) t) [
        | inl later ↦
            let at : t ≡ moment_of new = omega (arith, next, later, to) in
            subst meets
            (sym (left-now new left (subst (λ (n : ℕ). was_left new n left) at was))) after
        | inr le ↦
            let at : t ≡ moment_of old = omega (arith, from, le) in
            subst meets
            (sym
            (left-now old left (subst (λ (n : ℕ). was_left old n left) at (earlier t left le was))))
            before
      ];
    }

module _ (old : MemoryDevice) (Call : Disk → Disk → Type 0) where
  -- What a call makes of what is there, it makes of what might have been left.
  pub after : (left : Disk) → Call (now_of old) left
      → After Call (was_left old (moment_of old)) left
  after left is = (now_of old, now-left old, is)

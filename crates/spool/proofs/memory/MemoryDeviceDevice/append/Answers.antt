use Rattle.std.proofs.Common.{refl, sym, ap, ◌∙◌, List, [], ◌∷◌, ◌++◌, ℕ, ◌/◌}
use Rattle.std.proofs.Common.{length, arith}
use Rattle.std.proofs.lemmas.List.{take_all}
use Rattle.spool.specs.Disks.{grow_last}
use Rattle.spool.specs.Crashes.{After, Appended}
use Rattle.spool.specs.Memory.{files_view, past_view, was_left}
use Rattle.spool.specs.declared.memory.MemoryFile.{MemoryFile}
use Rattle.spool.proofs.MemoryLaws.{moved, still, after, grow-nothing}
use Rattle.spool.proofs.memory.MemoryDeviceDevice.append.Goals as goal

pub returns-in_err-begin-clause-crash : goal.returns-in_err-begin-clause-crash
returns-in_err-begin-clause-crash c = λ _.
    let old = c.args.self.now in
    still old _ (After (Appended c.args.bytes.now) (was_left old _))
    (ap past_view c.in_err-begin.ensures.err) refl
    (after old (Appended c.args.bytes.now) _ (0, sym (grow-nothing (files_view old.files.items))))

pub returns-in_err-grow-clause-crash : goal.returns-in_err-grow-clause-crash
returns-in_err-grow-clause-crash c = λ _.
    let old = c.args.self.now in
    let nothing = sym (grow-nothing (files_view old.files.items)) in
    moved old _ (After (Appended c.args.bytes.now) (was_left old _))
    (c.in_ok-begin.ensures.ok
    ∙ ap
    (λ (l : List MemoryFile). past_view old.past.items ++ files_view l ∷ []) c.deref.ensures.value)
    (after old (Appended c.args.bytes.now) _ (0, nothing))
    (after old (Appended c.args.bytes.now) _ (0, c.in_err-grow.ensures.err ∙ nothing))

pub returns-then-not-is_left-clause-crash : goal.returns-then-not-is_left-clause-crash
returns-then-not-is_left-clause-crash c = λ _.
    let old = c.args.self.now in
    let nothing = sym (grow-nothing (files_view old.files.items)) in
    moved old _ (After (Appended c.args.bytes.now) (was_left old _))
    (c.in_ok-begin.ensures.ok
    ∙ ap
    (λ (l : List MemoryFile). past_view old.past.items ++ files_view l ∷ []) c.deref.ensures.value)
    (after old (Appended c.args.bytes.now) _ (0, nothing))
    (after old (Appended c.args.bytes.now) _ (length c.args.bytes.now / 2, c.in_ok-grow.ensures.ok))

pub returns-in_err-grow-2-clause-crash : goal.returns-in_err-grow-2-clause-crash
returns-in_err-grow-2-clause-crash c = λ _.
    let old = c.args.self.now in
    let nothing = sym (grow-nothing (files_view old.files.items)) in
    moved old _ (After (Appended c.args.bytes.now) (was_left old _))
    (c.in_ok-begin.ensures.ok
    ∙ ap
    (λ (l : List MemoryFile). past_view old.past.items ++ files_view l ∷ []) c.deref.ensures.value)
    (after old (Appended c.args.bytes.now) _ (0, nothing))
    (after old (Appended c.args.bytes.now) _ (0, c.in_err-grow-2.ensures.err ∙ nothing))

pub returns-clause-crash : goal.returns-clause-crash
returns-clause-crash c = λ _.
    let old = c.args.self.now in
    let bytes = c.args.bytes.now in
    let nothing = sym (grow-nothing (files_view old.files.items)) in
    moved old _ (After (Appended c.args.bytes.now) (was_left old _))
    (c.in_ok-begin.ensures.ok
    ∙ ap
    (λ (l : List MemoryFile). past_view old.past.items ++ files_view l ∷ []) c.deref.ensures.value)
    (after old (Appended c.args.bytes.now) _ (0, nothing))
    (after old (Appended c.args.bytes.now) _ (
      length bytes,
      c.in_ok-grow-2.ensures.ok
          ∙ ap (λ (l : List ℕ). grow_last l (files_view old.files.items))
          (sym (take_all (length bytes) bytes (omega arith))),
    ))

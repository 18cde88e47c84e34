use Rattle.std.proofs.Common.{refl, ap, ◌∙◌, inl, inr, List, [], ◌∷◌, ◌++◌, ℕ}
use Rattle.std.proofs.lemmas.List.{map-append}
use Rattle.spool.specs.Crashes.{After, Created}
use Rattle.spool.specs.Memory.{files_view, file_view, past_view, was_left}
use Rattle.spool.specs.declared.memory.MemoryFile.{MemoryFile}
use Rattle.spool.proofs.MemoryLaws.{moved, after}
use Rattle.spool.proofs.memory.MemoryDeviceDevice.create.Goals as goal

pub returns-clause-crash : goal.returns-clause-crash
returns-clause-crash c = λ _.
    let old = c.args.self.now in
    let now = files_view old.files.items in
    moved old _ (After (Created c.args.number) (was_left old _))
    (c.in_ok-begin.ensures.ok
    ∙ ap
    (λ (l : List MemoryFile). past_view old.past.items ++ files_view l ∷ []) c.deref.ensures.value)
    (after old (Created c.args.number) now (inl refl))
    (after old (Created c.args.number) _ (inr (ap files_view c.in_ok-push.ensures.items
    ∙ (map-append file_view old.files.items _
    ∙ ap (λ (b : List ℕ). now ++ record { number = c.args.number; bytes = b } ∷ [])
    c.new.ensures.items))))

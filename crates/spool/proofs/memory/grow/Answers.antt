use Rattle.std.proofs.Common.{◌≡◌, sym, ap, ◌∙◌, List, [], ◌∷◌, ◌++◌, ℕ}
use Rattle.std.proofs.lemmas.List.{map-append}
use Rattle.spool.specs.Disks.{grow_last}
use Rattle.spool.specs.Memory.{files_view, file_view}
use Rattle.spool.proofs.MemoryLaws.{grow-front}
use Rattle.spool.proofs.memory.grow.Goals as goal

pub returns-clause-ok : goal.returns-clause-ok
returns-clause-ok c =
    let front = files_view c.pop.new.self.items in
    let was : files_view c.args.files.now.items ≡ front ++ file_view c.in-Some.last ∷ [] =
    ap files_view c.in-Some.ensures.items
    ∙ map-append file_view c.pop.new.self.items (c.in-Some.last ∷ []) in
    let grown = c.in_ok-grown.ensures.items in
    ap files_view c.in_ok-push.ensures.items
    ∙ (map-append file_view c.pop.new.self.items _
    ∙ (ap (λ (b : List ℕ). front ++ record { number = c.in-Some.last.number; bytes = b } ∷ []) grown
    ∙ (sym (grow-front c.args.bytes.now front (file_view c.in-Some.last))
    ∙ ap (grow_last c.args.bytes.now) (sym was))))

use Rattle.std.proofs.Common.{ap, ◌∙◌, List, ℕ, take, drop, arith}
use Rattle.std.proofs.lemmas.List.{drop-drop}
use Rattle.std.specs.Int.{w32, from_le_bytes}
use Rattle.spool.specs.Records.{length_at}
use Rattle.spool.proofs.records.head.Goals as goal

pub returns : goal.returns
unfolding length_at
returns c =
    let one = c.in-Some.ensures.cases in
    let two = c.in-Some-split_first_chunk.ensures.cases in (
      c.from_le_bytes.ensures ∙ ap (from_le_bytes w32) one.0,
      c.from_le_bytes-2.ensures
          ∙ ap (from_le_bytes w32) (two.0 ∙ ap (λ (l : List ℕ). take 4 l) one.1),
      two.1 ∙ (ap (λ (l : List ℕ). drop 4 l) one.1 ∙ drop-drop 4 4 c.args.bytes.now),
      omega (arith, one.2, two.2),
    )

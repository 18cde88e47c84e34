use Rattle.std.proofs.Common.{rules, arith, ◌≡◌, ◌≤◌, ◌++◌, ◌∷◌, [], length, vec_len}
use Rattle.std.specs.Prelude.{vec_capacity}
use Rattle.std.proofs.lemmas.List.{length-append}
use Rattle.account_book.proofs.Facts.{yields_step}
use Rattle.batch_service.proofs.threads.fill.Goals as goal

pub loop-pass-preserved : goal.loop-pass-preserved
loop-pass-preserved g c =
    let i = c.loop-pass.invariant in let next = c.in-Some.ensures.steps.0 in
    let longer = length-append c.loop-pass.yielded (c.in-Some.pass ∷ []) in
    let count : vec_len c.push_reserved.new.self
    ≡ length (c.loop-pass.yielded ++ c.in-Some.pass ∷ []) =
    let e = i.1 in let f = c.push_reserved.ensures.len in omega arith in
    let room : vec_len c.args.passes ≤ vec_capacity c.push_reserved.new.self = search rules in (
      yields_step c.loop-pass.yielded c.loop-pass.pass-iterator.rest.items
          c.next.new.self.rest.items c.args.passes.items c.in-Some.pass i.0 next,
      count,
      room,
    )

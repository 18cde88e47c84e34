use Rattle.std.proofs.Common.{◌∙◌, ◌++◌, ◌∷◌, [], arith, rules, length-append}
use Rattle.std.proofs.lemmas.Bool.{false≢true}
use Rattle.otlp_http.specs.Heads.{IsInterimStatus}
use Rattle.otlp_http.proofs.FinalLemmas.{skip_more, final_fault, final_head, final_excess}
use Rattle.otlp_http.proofs.head.read_final_head.Goals as goal

pub returns-in-Err-clause-none : goal.returns-in-Err-clause-none
returns-in-Err-clause-none g c =
    let inv = c.loop-skipped.invariant in
    let test = c.loop-skipped-test.true in
    final_fault _ _ _ _ inv.0.0 _ _ _ _ _ (record { each = inv.0.2; taken = inv.0.3 })
    (omega (arith, inv.0.1, test)) c.in-Err.ensures.taken inv.2 c.in-Err.ensures.none

pub returns-then-not-is_interim-clause-head : goal.returns-then-not-is_interim-clause-head
returns-then-not-is_interim-clause-head g c =
    let inv = c.loop-skipped.invariant in
    let test = c.loop-skipped-test.true in
    let found = c.in-Ok.ensures.head in
    final_head _ _ _ _ inv.0.0 _ _ _ found.0 (record { each = inv.0.2; taken = inv.0.3 })
    (omega (arith, inv.0.1, test)) c.in-Ok.ensures.taken found.1
    (λ interim. false≢true (c.if-not-is_interim.ensures.1 interim))

pub loop-skipped-preserved : goal.loop-skipped-preserved
loop-skipped-preserved g c =
    let inv = c.loop-skipped.invariant in
    let found = c.in-Ok.ensures.head in
    let interim : IsInterimStatus c.in-Ok.head.code = search rules in
    let more =
    skip_more c.args.limits.now _ _ _ inv.0.0 _ _ _ found.0
    (record { each = inv.0.2; taken = inv.0.3 }) c.in-Ok.ensures.taken found.1 interim in
    let long = length-append inv.0.0 (found.0 ∷ []) in (
      (inv.0.0 ++ found.0 ∷ [], omega (arith, long, inv.0.1), more.each, more.taken),
      search rules,
      c.in-Ok.ensures.kept ∙ inv.2,
    )

pub returns-in-Ok-read_head-clause-none : goal.returns-in-Ok-read_head-clause-none
returns-in-Ok-read_head-clause-none g c =
    let inv = c.loop-skipped.invariant in
    let found = c.in-Ok-read_head.ensures.head in
    let interim : IsInterimStatus c.in-Ok-read_head.head.code = search rules in
    let past = c.loop-skipped-test.false in
    let end = c.loop-skipped.auto._skipped-end in
    final_excess _ _ _ _ inv.0.0 _ _ _ _ found.0 (record { each = inv.0.2; taken = inv.0.3 })
    (omega (arith, inv.0.1, past, end)) c.in-Ok-read_head.ensures.taken found.1 interim

pub returns-in-Ok-2-clause-head : goal.returns-in-Ok-2-clause-head
returns-in-Ok-2-clause-head g c =
    let inv = c.loop-skipped.invariant in
    let found = c.in-Ok-read_head.ensures.head in
    let end = c.loop-skipped.auto._skipped-end in
    final_head _ _ _ _ inv.0.0 _ _ _ found.0 (record { each = inv.0.2; taken = inv.0.3 })
    (omega (arith, inv.0.1, end)) c.in-Ok-read_head.ensures.taken found.1
    (λ interim. false≢true (c.if-is_interim.ensures.1 interim))

pub returns-in-Err-read_head-clause-none : goal.returns-in-Err-read_head-clause-none
returns-in-Err-read_head-clause-none g c =
    let inv = c.loop-skipped.invariant in
    let end = c.loop-skipped.auto._skipped-end in
    final_fault _ _ _ _ inv.0.0 _ _ _ _ _ (record { each = inv.0.2; taken = inv.0.3 })
    (omega (arith, inv.0.1, end)) c.in-Err-read_head.ensures.taken inv.2
    c.in-Err-read_head.ensures.none

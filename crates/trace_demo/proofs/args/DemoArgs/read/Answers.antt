use Rattle.std.proofs.Common.{◌≡◌, ◌∙◌, arith, codes, refl, rules}
use Rattle.std.specs.Prelude.{IfErr}
use Rattle.std.proofs.lemmas.Grind.{common_steps}
use Rattle.program_args.specs.Words as given
use Rattle.program_args.specs.Words.{IsSetBy, number_in}
use Rattle.trace_demo.specs.Command.{batch_in, command, queue_in}
use Rattle.trace_demo.proofs.Causes.{cause-of, cause-of-batch, large-batch}
use Rattle.trace_demo.proofs.args.DemoArgs.read.Goals as goal

pub returns-in_err-found-clause-refused : goal.returns-in_err-found-clause-refused
returns-in_err-found-clause-refused c =
    let cause : IfErr c.from_residual.result (given.IsCause command c.args.words.now) =
    first_of (search rules, grind (arith, common_steps)) in
    cause-of c.args.words.now c.from_residual.result cause

pub returns-clause-refused : goal.returns-clause-refused
returns-clause-refused c =
    let words = c.args.words.now in
    let within = c.in_ok-found.ensures.within in
    let t : c.index-3.result.now ≡ number_in command (codes "threads") 4 words =
    first_of (search rules, grind (arith, common_steps)) in
    let s : c.index-2.result.now ≡ number_in command (codes "spans") 1000 words =
    first_of (search rules, grind (arith, common_steps)) in
    let q : c.index-4.result.now ≡ queue_in words =
    first_of (search rules, grind (arith, common_steps)) in
    let b : c.index-5.result.now ≡ batch_in words =
    first_of (search rules, grind (arith, common_steps)) in
    cause-of-batch words c.large_batch.result c.large_batch.ensures
    (large-batch words c.index-3.result.now c.index-2.result.now c.index-4.result.now
    c.index-5.result.now
    (c.in-None.ensures.refused.0 refl) c.in_ok-found.ensures.taken t s q b
    within.1.0 within.1.1.0 within.1.1.1.0 within.1.1.1.1.0)

pub returns-in-Some-clause-values : goal.returns-in-Some-clause-values
returns-in-Some-clause-values c =
    let words = c.args.words.now in
    let found = c.in_ok-found.ensures.numbers in
    let made = c.in-Some.ensures.value in
    let i = c.index.ensures in
    let e : c.index.result.now ≡ number_in command (codes "seed") 1 words =
    first_of (search rules, grind (arith, common_steps)) in
    let i-2 = c.index-2.ensures in
    let s : c.index-2.result.now ≡ number_in command (codes "spans") 1000 words =
    first_of (search rules, grind (arith, common_steps)) in
    let i-3 = c.index-3.ensures in
    let t : c.index-3.result.now ≡ number_in command (codes "threads") 4 words =
    first_of (search rules, grind (arith, common_steps)) in
    let i-4 = c.index-4.ensures in
    let q : c.index-4.result.now ≡ queue_in words =
    first_of (search rules, grind (arith, common_steps)) in
    let i-5 = c.index-5.ensures in
    let b : c.index-5.result.now ≡ batch_in words =
    first_of (search rules, grind (arith, common_steps)) in
    let i-6 = c.index-in-Some.ensures in
    let o : c.index-in-Some.result.now ≡ number_in command (codes "soak") 0 words =
    first_of (search rules, grind (arith, common_steps)) in
    let i-7 = c.index-in-Some-2.ensures in
    let k : c.index-in-Some-2.result.now ≡ number_in command (codes "slack") 2048 words =
    first_of (search rules, grind (arith, common_steps)) in
    let v : IsSetBy command (codes "verbose") words c.in_ok-found.found.is_set =
    first_of (search rules, grind (arith, common_steps)) in
    record {
      seed = made.0 ∙ e;
      threads = made.1 ∙ t;
      spans = made.2 ∙ s;
      queue = made.3 ∙ q;
      batch = made.4 ∙ b;
      soak = o;
      slack = k;
      verbose = v;
    }

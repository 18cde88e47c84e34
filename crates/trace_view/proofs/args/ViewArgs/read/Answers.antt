use Rattle.std.proofs.Common.{rules, ◌≡◌, arith, codes, false, inl, inr, subst}
use Rattle.std.specs.Prelude.{IfErr}
use Rattle.std.proofs.lemmas.Grind.{common_steps}
use Rattle.program_args.specs.Words as given
use Rattle.program_args.specs.Words.{texts_given, texts_of}
use Rattle.trace_view.specs.Command.{IsNoAddress, are_origins, command}
use Rattle.trace_view.proofs.Causes.{cause-of, cause-of-text}
use Rattle.trace_view.proofs.args.ViewArgs.read.Goals as goal

pub returns-in_err-found-clause-refused : goal.returns-in_err-found-clause-refused
returns-in_err-found-clause-refused c =
    let cause : IfErr c.from_residual.result (given.IsCause command c.args.words.now) =
    first_of (search rules, grind (arith, common_steps)) in
    cause-of c.args.words.now c.from_residual.result cause

pub returns-in_default-clause-refused : goal.returns-in_default-clause-refused
returns-in_default-clause-refused c =
    let same : texts_of c.as_slice.result.now
    ≡ texts_given command (codes "address") c.args.words.now =
    first_of (search rules, grind (arith, common_steps)) in
    let none : IsNoAddress (texts_given command (codes "address") c.args.words.now) =
    subst IsNoAddress same c.in_default.ensures in
    cause-of-text c.args.words.now c.no_address.result c.no_address.ensures
    (inl (c.in_ok-found.ensures.taken, none))

pub returns-then-not-are_origins-clause-refused : goal.returns-then-not-are_origins-clause-refused
returns-then-not-are_origins-clause-refused c =
    let same : texts_of c.as_slice-2.result.now
    ≡ texts_given command (codes "allow-origin") c.args.words.now =
    first_of (search rules, grind (arith, common_steps)) in
    let bad : are_origins (texts_of c.as_slice-2.result.now) ≡ false = search rules in
    let none : are_origins (texts_given command (codes "allow-origin") c.args.words.now) ≡ false =
    subst (λ texts. are_origins texts ≡ false) same bad in
    cause-of-text c.args.words.now c.no_origin.result c.no_origin.ensures
    (inr (c.in_ok-found.ensures.taken, none))

use Rattle.std.proofs.Common.{◌≡◌, ◌++◌, OnOk, subst, sym}
use Rattle.view_json.specs.Lists.{pending_member}
use Rattle.view_json.proofs.list.push_pending.Goals as goal

pub returns-in-Some-clause-tokens : goal.returns-in-Some-clause-tokens
unfolding pending_member
returns-in-Some-clause-tokens g c =
    subst (λ bytes. OnOk c.push_number.result
    (c.push_number.new.out.tokens ≡ c.args.out.now.tokens ++ pending_member bytes))
    (sym c.in-Some.is) c.push_number.ensures.tokens

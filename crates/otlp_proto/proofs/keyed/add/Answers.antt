use Rattle.std.proofs.Common.{◌∙◌, ap, rules}
use Rattle.std.specs.Option.{unwrap_or}
use Rattle.otlp_proto.proofs.Adding.{added-after, added-by-entry}
use Rattle.otlp_proto.proofs.keyed.add.Goals as goal

pub returns-in-Some : goal.returns-in-Some
returns-in-Some g c =
    added-after g.K.PartialEq.eq c.args.groups.now.entries c.args.key c.args.item c.in-Some.index
    c.index_mut.result.now c.push.new.self c.in-Some.ensures c.index_mut.ensures.value
    c.in_ok-push.ensures.items

pub returns : goal.returns
returns g c =
    added-by-entry g.K.PartialEq.eq c.args.groups.now.entries c.args.key c.args.item c.new.result
    c.or_insert.result.now c.push-2.new.self _ c.new.ensures.items
    (c.or_insert.ensures.value ∙ ap (λ o. unwrap_or o c.new.result) c.in_ok-groups.ensures.value)
    c.in_ok-push-2.ensures.items (search (rules, c.in_ok-groups.ensures.update.1))

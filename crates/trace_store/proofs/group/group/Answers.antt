use Rattle.std.proofs.Common.{◌∷◌, [], ◌∙◌, append_assoc, sym}
use Rattle.trace_store.proofs.Yielded.{ended, next_of}
use Rattle.trace_store.proofs.Groups.{closed, closed_empty, is_none, one_more, some_there}
use Rattle.trace_store.proofs.group.group.Goals as goal

pub loop-key-preserved : goal.loop-key-preserved
loop-key-preserved g c =
    let whole =
    next_of c.loop-key.yielded c.loop-key.key-iterator.rest.items c.next.new.self.rest.items
    c.args.spans.items
    (c.in-Some.key, c.in-Some.span) c.loop-key.invariant.rest c.in-Some.ensures.steps.0 in
    record {
      rest =
          append_assoc c.loop-key.yielded
          ((c.in-Some.key, c.in-Some.span) ∷ []) c.next.new.self.rest.items
          ∙ whole;
      open_parts =
          one_more c.args.spans.items c.loop-key.yielded c.next.new.self.rest.items
          c.loop-key.parts.items c.put.new.parts.items c.loop-key.last c.put.new.last c.in-Some.key
          c.in-Some.span c.requires whole c.loop-key.invariant.open_parts c.in_ok-put.ensures;
    }

pub returns-then-is_empty : goal.returns-then-is_empty
returns-then-is_empty g c =
    let ends =
    ended c.loop-key.yielded c.loop-key.key-iterator.rest.items c.args.spans.items
    c.loop-key.key-iterator.rest.len c.loop-key.invariant.rest c.in-None.ensures.steps.0
    c.loop-key.key-iterator.rest.ok.0 in
    closed_empty c.args.spans.items c.loop-key.yielded c.loop-key.parts.items c.loop-key.last.0
    c.loop-key.last.1 ends
    (is_none c.loop-key.last.1 (sym c.is_empty.ensures ∙ c.if-is_empty.true))
    c.loop-key.invariant.open_parts

pub returns : goal.returns
returns g c =
    let ends =
    ended c.loop-key.yielded c.loop-key.key-iterator.rest.items c.args.spans.items
    c.loop-key.key-iterator.rest.len c.loop-key.invariant.rest c.in-None.ensures.steps.0
    c.loop-key.key-iterator.rest.ok.0 in
    closed c.args.spans.items c.loop-key.yielded c.loop-key.parts.items c.push.new.self.items
    c.loop-key.last ends
    (some_there c.loop-key.last.1 (sym c.is_empty.ensures ∙ c.if-is_empty.false))
    c.in_ok-push.ensures.items c.loop-key.invariant.open_parts

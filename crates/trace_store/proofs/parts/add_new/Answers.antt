use Rattle.std.proofs.Common.{◌∷◌, [], ◌∙◌, ap, arith, sym}
use Rattle.std.proofs.lemmas.List.{length-append}
use Rattle.trace_store.proofs.PartLemmas.{on_err, on_ok, one_other, one_partway, taken_back}
use Rattle.trace_store.proofs.PartLemmas.{yields_step}
use Rattle.trace_store.proofs.parts.add_new.Goals as goal

pub returns-then-is_err-clause-err : goal.returns-then-is_err-clause-err
returns-then-is_err-clause-err g c =
    let inv = c.loop-part.invariant in
    let same =
    on_err _ c.add_part.result
    (sym c.is_err.ensures.value ∙ c.if-is_err.true) c.add_part.ensures.err in
    taken_back c.args.traces.now c.add_part.new.traces c.take_back.new.traces inv.partway.news
    c.len-then-is_err.result c.len-before.result
    (ap (λ x. x.entries) same ∙ inv.partway.in_front) (c.add_part.ensures.cap ∙ inv.cap)
    c.len-then-is_err.ensures.len c.len-before.ensures.len c.take_back.ensures

pub loop-part-preserved : goal.loop-part-preserved
loop-part-preserved g c =
    let inv = c.loop-part.invariant in
    let next = c.in-Some.ensures.steps.0 in
    let adds =
    on_ok _ c.add_part.result
    (sym c.is_err.ensures.value ∙ c.if-is_err.false) c.add_part.ensures.ok in
    record {
      rest =
          yields_step c.loop-part.yielded c.loop-part.part-iterator.rest.items
          c.next.new.self.rest.items c.args.parts.items c.in-Some.part inv.rest next;
      room =
          omega (
            arith,
            inv.room,
            one_other c.loop-part.traces.entries c.add_part.new.traces.entries
                c.loop-part.others.items c.add_part.new.others.items c.in-Some.part adds,
            length-append c.loop-part.yielded (c.in-Some.part ∷ []),
          );
      capacity = omega (arith, inv.capacity, c.add_part.ensures.room);
      partway =
          one_partway c.args.traces.now.entries c.loop-part.yielded c.loop-part.traces.entries
          c.add_part.new.traces.entries c.loop-part.others.items c.add_part.new.others.items
          c.in-Some.part inv.partway adds;
      cap = c.add_part.ensures.cap ∙ inv.cap;
    }

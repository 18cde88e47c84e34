use Rattle.std.proofs.Common.{◌≡◌, ◌∙◌, ◌+◌, ◌++◌, ◌∷◌, add-one, ap, arith, length, option_to_list}
use Rattle.std.proofs.Common.{sym}
use Rattle.model_span.specs.Dropped.{entry_of}
use Rattle.otlp_span.specs.Dropped.{reason_view}
use Rattle.batch_desk.proofs.Names.{names-first}
use Rattle.batch_desk.proofs.named.names_of.Goals as goal

pub loop-preserved : goal.loop-preserved
loop-preserved g c =
    let rest = c.pop_front.new.self.items in let span = c.unwrap-span.result in
    let first : c.loop.run.items ≡ span ∷ rest =
    c.pop_front.ensures.first ∙ ap (λ o. option_to_list o ++ rest) c.unwrap-span.ensures in
    let fewer : length c.loop.run.items ≡ length rest + 1 =
    ap length first ∙ sym (add-one (length rest)) in
    let more : length c.name_span.new.ledger ≡ length c.loop.newest_first + 1 =
    ap length c.name_span.ensures ∙ sym (add-one (length c.loop.newest_first)) in
    record {
      ledger =
          names-first (entry_of (reason_view c.args.reason)) c.loop.run.items rest span
          c.loop.newest_first c.name_span.new.ledger first c.name_span.ensures
          ∙ c.loop.invariant.ledger;
      room = c.pop_front.ensures.room ∙ c.loop.invariant.room;
      named = omega (arith, more, c.loop.invariant.named);
      left = omega (arith, fewer, c.loop.invariant.left);
    }

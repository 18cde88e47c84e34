use Rattle.std.proofs.Common.{arith, ap, sym, ◌∙◌, ◌+◌, ◌≤◌, true, Some, length}
use Rattle.std.specs.Prelude.{option_map}
use Rattle.std.proofs.lemmas.Grind.{common_steps}
use Rattle.model_desk.specs.Desks.{is_loss, out_size}
use Rattle.retry_core.specs.Retries.{fate_view}
use Rattle.batch_desk.specs.Desk.{out_state}
use Rattle.batch_desk.specs.Views.{out_view}
use Rattle.batch_desk.proofs.Histories.{is_with_exporter-state, lost-fits, settled_follows}
use Rattle.batch_desk.proofs.desk.Desk.settle_named.Goals as goal

pub invariant_of-self : goal.invariant_of-self
invariant_of-self g c =
    let d = c.self.inside in
    let b = c.batch.inside in
    let fits : d.lost_count + length b.names ≤ d.handed =
    lost-fits (option_map out_view d.out) b.number (length b.names) d.lost_count d.handed
    (is_loss (fate_view b.fate))
    (ap out_state c.self.view_is ∙ c.requires.out
    ∙ ap (λ x. Some (x.number, true)) (sym c.batch.view_is))
    (λ e. ap (λ x. length x.entries) c.batch.view_is
    ∙ c.requires.whole (ap (λ x. is_loss x.fate) (sym c.batch.view_is) ∙ e)
    ∙ ap (λ x. out_size x.out) (sym c.self.view_is))
    (λ e. ap length (c.batch.invariant.1 e)) c.self.invariant.counts.lost_handed in
    record {
      run_out = grind (arith, common_steps);
      counts = record {
        within = grind (arith, common_steps);
        tickets = grind (arith, common_steps);
        last_ticket = grind (arith, common_steps);
        admits = grind (arith, common_steps);
        asked = grind (arith, common_steps);
        taken = grind (arith, common_steps);
        out = grind (arith, common_steps);
        ledger = grind (arith, common_steps);
        lost = grind (arith, common_steps);
        lost_handed = grind (arith, common_steps, fits, c.len.ensures);
        batches = grind (arith, common_steps);
        fates = grind (arith, common_steps);
      };
    }

pub returns-clause-history : goal.returns-clause-history
returns-clause-history g c spans same =
    settled_follows _ _ _ _ spans (is_with_exporter-state _ c.args.batch.number c.requires.out) same
    (grind (arith, common_steps))

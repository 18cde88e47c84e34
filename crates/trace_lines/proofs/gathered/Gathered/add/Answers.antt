use Rattle.std.proofs.Common.{◌∙◌, ap, subst, sym}
use Rattle.trace_lines.specs.Services.{AreServices, services_of, with_name}
use Rattle.trace_lines.specs.Times.{frame_with}
use Rattle.trace_lines.proofs.Gathers.{frame_more}
use Rattle.trace_lines.proofs.Names.{services_more}
use Rattle.trace_lines.proofs.gathered.Gathered.add.Goals as goal

pub returns : goal.returns
returns g c spans h at =
    let span = c.args.span.now in
    record {
      uses = c.in_ok-add_use.ensures spans span h.uses c.deref.ensures.value at;
      services =
          subst (λ l. AreServices l c.add_name.new.places)
          (ap (with_name (services_of spans)) (c.as_bytes.ensures.value ∙ c.service_of.ensures)
          ∙ sym (services_more spans span))
          (c.in_ok-add_name.ensures (services_of spans) h.services);
      frame =
          c.frame_with-self.ensures
          ∙ ap (λ f. frame_with f span.span) h.frame
          ∙ sym (frame_more spans span);
    }

use Rattle.std.proofs.Common.{◌∙◌, ap, map}
use Rattle.relay_queue.specs.Lost.{lost_view}
use Rattle.relay_service.specs.Lost.{list_tokens}
use Rattle.relay_service.proofs.show.Viewer.show_lost.Goals as goal

pub returns : goal.returns
returns g c = (
  map lost_view c.in_ok-spans.spans.items,
  c.in_ok-body.body.items,
  c.in_ok-spans.ensures.names,
  c.in_ok-body.ensures ∙ ap (λ l. list_tokens (map lost_view l)) c.as_slice.ensures.value,
  c.in_ok-fill_page.ensures,
)

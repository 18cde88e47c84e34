use Rattle.view_service.proofs.receive.read_parts.Goals as goal

pub returns-in-Ok-take_apart-clause-parts : goal.returns-in-Ok-take_apart-clause-parts
returns-in-Ok-take_apart-clause-parts c =
    let apart = c.in-Ok-take_apart.ensures in (
      c.in-Ok.request,
      c.in-Ok.ensures.read,
      record { spans = apart.spans; traces = apart.traces; order = apart.order },
    )

use Rattle.view_service.proofs.service.ViewServiceService.call.Goals as goal

pub returns-clause-ok : goal.returns-clause-ok
returns-clause-ok g c = (c.args.room, c.in_ok-rest.ensures.answers, c.in_ok-rest.ensures.counted)

use Rattle.view_json.proofs.value.push_truth.Goals as goal

pub returns-clause-seen : goal.returns-clause-seen
returns-clause-seen g c = c.push_bool.ensures.seen

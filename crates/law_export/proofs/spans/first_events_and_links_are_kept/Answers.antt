use Rattle.law_export.proofs.Called.{events-kept, links-kept}
use Rattle.law_export.proofs.spans.first_events_and_links_are_kept.Goals as goal

pub returns : goal.returns
returns c = record {
  events = events-kept;
  links = links-kept;
}

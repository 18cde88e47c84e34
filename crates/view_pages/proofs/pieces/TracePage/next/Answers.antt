use Rattle.std.proofs.Common.{append-nil, sym, []}
use Rattle.view_pages.proofs.Stages.{page_planned}
use Rattle.view_pages.proofs.pieces.TracePage.next.Goals as goal

pub returns-clause-piece : goal.returns-clause-piece
returns-clause-piece g c = (
  [],
  sym (append-nil c.args.out.now.items),
  page_planned c.args.self.now c.go_on.new.self c.go_on.ensures.spans c.go_on.ensures.comes,
)

use Rattle.std.proofs.Common.{[], sym}
use Rattle.std.proofs.lemmas.List.{append-nil}
use Rattle.test_view.proofs.tests.peers.NoPiecesPieces.next.Goals as goal

pub returns-clause-goes_on : goal.returns-clause-goes_on
returns-clause-goes_on c = ([], sym (append-nil c.args.arg2.now.items), λ more writes. tt)

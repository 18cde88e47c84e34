use Rattle.std.proofs.Common.{refl, subst}
use Rattle.relay_service.specs.Receives.{ReceivesContent}
use Rattle.relay_service.proofs.receive.keep_content.Goals as goal

pub returns-then-recall : goal.returns-then-recall
returns-then-recall g c =
    ReceivesContent.recalled (c.recall.ensures.readable c.if-recall.true)
    (c.recall.ensures.kept c.if-recall.true) refl

pub returns : goal.returns
returns g c =
    subst (λ keeper. ReceivesContent g.K.BodyKeeper.keeps g.K.BodyKeeper.lacks_room
    g.K.BodyKeeper.fails keeper c.args.content.now c.args.room c.args.alone c.keep_alone.result
    c.keep_alone.new.keeper)
    (c.recall.ensures.same c.if-recall.false) c.keep_alone.ensures

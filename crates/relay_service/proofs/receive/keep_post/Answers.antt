use Rattle.std.proofs.Common.{◌≡◌, ◌∙◌, Ok, ap, refl, subst, sym}
use Rattle.http.specs.Request.{body_of}
use Rattle.otlp_receiver.specs.Reads.{room_alone}
use Rattle.relay_service.specs.Receives.{Receives, ReceivesContent}
use Rattle.relay_service.specs.declared.receive.Outcome.TheVariants as outcomes
use Rattle.relay_service.proofs.receive.keep_post.Goals as goal

pub returns-in-Ok-None : goal.returns-in-Ok-None
returns-in-Ok-None g c =
    let same : c.as_slice-body.result.now ≡ body_of c.args.request.now =
    c.as_slice-body.ensures ∙ c.body.ensures in
    let alone = c.room_alone-alone.ensures ∙ ap (room_alone c.args.bounds.max_pending) same in
    let has = rw c.in-Ok-None.field-0-is at c.in-Ok-None.ensures.content in
    Receives.received _ (has.0, has.1 ∙ ap Ok (sym same))
    (subst (λ n. ReceivesContent g.K.BodyKeeper.keeps g.K.BodyKeeper.lacks_room
    g.K.BodyKeeper.fails c.args.keeper.now c.as_slice-body.result.now c.args.room n
    c.keep_content.result c.keep_content.new.keeper) alone c.keep_content.ensures)

pub returns-in-Ok-Some : goal.returns-in-Ok-Some
returns-in-Ok-Some g c =
    let same : c.as_slice-body.result.now ≡ body_of c.args.request.now =
    c.as_slice-body.ensures ∙ c.body.ensures in
    let alone = c.room_alone-alone.ensures ∙ ap (room_alone c.args.bounds.max_pending) same in
    let has = rw c.in-Ok-Some.field-0-is at c.in-Ok-Some.ensures.content in
    Receives.received _ (has.0, has.1 ∙ ap Ok (sym c.as_slice-content.ensures.value))
    (subst (λ n. ReceivesContent g.K.BodyKeeper.keeps g.K.BodyKeeper.lacks_room
    g.K.BodyKeeper.fails c.args.keeper.now c.as_slice-content.result.now c.args.room n
    c.keep_content-in-Ok-Some.result c.keep_content-in-Ok-Some.new.keeper) alone
    c.keep_content-in-Ok-Some.ensures)

pub returns-in-Err-Denied : goal.returns-in-Err-Denied
returns-in-Err-Denied g c =
    Receives.denied _ (rw c.in-Err-Denied.field-0-is at c.in-Err-Denied.ensures.none)
    (ap outcomes.Denied c.in-Err-Denied.denial-is) refl

pub returns-in-Err-OutOfMemory : goal.returns-in-Err-OutOfMemory
returns-in-Err-OutOfMemory g c =
    Receives.no_memory (rw c.in-Err-OutOfMemory.field-0-is at c.in-Err-OutOfMemory.ensures.none)
    refl refl

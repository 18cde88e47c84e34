use Rattle.std.proofs.Common.{◌≡◌, ◌∙◌, Ok, ap, refl, sym}
use Rattle.http.specs.Request.{body_of}
use Rattle.otlp_receiver.specs.Reads.{room_alone}
use Rattle.view_service.proofs.Received.{is_denied, is_read, is_undecoded}
use Rattle.view_service.proofs.receive.receive.Goals as goal

pub returns-in_ok-receive_content-in-Ok-None-clause-received :
    goal.returns-in_ok-receive_content-in-Ok-None-clause-received
returns-in_ok-receive_content-in-Ok-None-clause-received g c =
    let same : c.as_slice-body.result.now ≡ body_of c.args.request.now =
    c.as_slice-body.ensures ∙ c.body.ensures in
    let alone = c.room_alone-alone.ensures ∙ ap (room_alone c.args.bounds.max_pending) same in
    let has = rw c.in-Ok-None.field-0-is at c.in-Ok-None.ensures.content in
    is_read _ _ _ _ c.args.request.now _ _ _ _ _ c.denial_format-format.ensures _
    (has.0, has.1 ∙ ap Ok (sym same)) _ alone c.in_ok-receive_content-in-Ok-None.ensures.received

pub returns-in_ok-receive_content-in-Ok-Some-clause-received :
    goal.returns-in_ok-receive_content-in-Ok-Some-clause-received
returns-in_ok-receive_content-in-Ok-Some-clause-received g c =
    let same : c.as_slice-body.result.now ≡ body_of c.args.request.now =
    c.as_slice-body.ensures ∙ c.body.ensures in
    let alone = c.room_alone-alone.ensures ∙ ap (room_alone c.args.bounds.max_pending) same in
    let has = rw c.in-Ok-Some.field-0-is at c.in-Ok-Some.ensures.content in
    let value = rw c.in-Ok-Some.field-0-is at c.as_slice-content.ensures.value in
    is_read _ _ _ _ c.args.request.now _ _ _ _ _ c.denial_format-format.ensures _
    (has.0, has.1 ∙ ap Ok (sym value)) _ alone
    c.in_ok-receive_content-in-Ok-Some.ensures.received

pub returns-in_ok-fill_denial-in-Err-Denied-clause-received :
    goal.returns-in_ok-fill_denial-in-Err-Denied-clause-received
returns-in_ok-fill_denial-in-Err-Denied-clause-received g c =
    let why = c.in-Err-Denied.ensures.none in
    is_denied _ _ _ _ c.args.request.now _ _ _ _ _ c.denial_format-format.ensures _
    (rw c.in-Err-Denied.field-0-is at why)
    (rw c.in-Err-Denied.denial-is at c.in_ok-fill_denial-in-Err-Denied.ensures) refl

pub returns-in-Err-OutOfMemory-clause-received : goal.returns-in-Err-OutOfMemory-clause-received
returns-in-Err-OutOfMemory-clause-received g c =
    let why = rw c.in-Err-OutOfMemory.field-0-is at c.in-Err-OutOfMemory.ensures.none in
    is_undecoded _ _ _ _ c.args.request.now _ _ _ _ _ c.denial_format-format.ensures why.0 why.1
    c.in_ok-busy.ensures c.make_room.ensures

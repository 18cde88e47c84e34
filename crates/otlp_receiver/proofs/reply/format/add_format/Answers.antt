use Rattle.std.proofs.Common.{◌∙◌, ◌++◌, ap, sym}
use Rattle.http_server.specs.Response.{fields_of}
use Rattle.otlp_receiver.proofs.Fields.{add_two}
use Rattle.otlp_receiver.proofs.Safety.{safe_unless}
use Rattle.otlp_receiver.proofs.reply.format.add_format.Goals as goal

pub returns-in_ok-add_safety-in_default : goal.returns-in_ok-add_safety-in_default
returns-in_ok-add_safety-in_default c =
    let first = c.in_ok-add_field.ensures in
    let rest = c.in_ok-add_safety-in_default.ensures in
    let kind = rw c.media_type.ensures.value at first.fields in
    record {
      fields = add_two _ _ _ _ _ kind rest.fields
          ∙ ap (λ l. fields_of c.args.response.now ++ l)
          (sym (safe_unless c.args.format c.in_default.not-Protobuf));
      status = rest.status ∙ first.status;
      body = rest.body ∙ first.body;
    }

use Rattle.std.proofs.Common.{◌∙◌, ap, map, string_bytes}
use Rattle.otlp_receiver.specs.Hosts.{allows, is_same_word}
use Rattle.otlp_receiver.proofs.Known.{any_of_images}
use Rattle.otlp_receiver.proofs.reply.hosts.Hosts.allows.Goals as goal

pub returns : goal.returns
returns c =
    c.has_host.ensures
    ∙ any_of_images string_bytes (λ known. is_same_word known c.args.host.now) c.deref.result.now
    ∙ ap (λ texts. allows (map string_bytes texts) c.args.host.now) c.deref.ensures.value
    ∙ ap (λ hosts. allows hosts c.args.host.now) c.self.view_is

use Rattle.std.proofs.Common.{ap}
use Rattle.program_args.specs.Words.{each_texts}
use Rattle.otlp_relay.proofs.Six.{six}
use Rattle.otlp_relay.proofs.args.Texts.of.Goals as goal

pub returns : goal.returns
returns c = ap each_texts (six _ _ _ _ _ _ _ _ _ _ _ _ c.requires
    c.remove-hosts.ensures.value c.remove-hosts.ensures.items
    c.remove-names.ensures.value c.remove-names.ensures.items
    c.remove-headers.ensures.value c.remove-headers.ensures.items
    c.remove-spool.ensures.value c.remove-spool.ensures.items
    c.remove-address.ensures.value c.remove-address.ensures.items
    c.remove-to.ensures.value)

use Rattle.std.proofs.Common.{◌≡◌, [], ◌++◌, map, string_bytes}
use Rattle.otlp_receiver.specs.Hosts.{as_given, host_text, with_port}
use Rattle.otlp_receiver.proofs.Fields.{add_five}
use Rattle.otlp_receiver.proofs.Known.{all_of_images}
use Rattle.otlp_receiver.proofs.reply.hosts.Hosts.new.Goals as goal

pub returns : goal.returns
returns c =
    let own = with_port c.args.port (host_text c.args.address) in
    let first : map string_bytes c.add_with_port.new.texts.items ≡ [] ++ own
    =
    rw (c.new-texts.ensures.items, c.as_str.ensures.value, c.in_ok-own.ensures) at
    c.in_ok-add_with_port.ensures in
    let names =
    rw (all_of_images string_bytes (as_given c.args.port) c.args.names.now) at
    c.in_ok-add_names.ensures in
    add_five [] _ _ _ _ _ own _ _ _ _ first c.in_ok-add_with_port-2.ensures
    c.in_ok-add_with_port-3.ensures c.in_ok-add_with_port-4.ensures names

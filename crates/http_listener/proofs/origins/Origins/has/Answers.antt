use Rattle.std.proofs.Common.{◌∙◌, ap, bytes_eq, map, string_bytes}
use Rattle.http_listener.specs.Origins.{has_origin}
use Rattle.http_listener.proofs.Images.{any_of_map}
use Rattle.http_listener.proofs.origins.Origins.has.Goals as goal

pub returns : goal.returns
returns c =
    c.has_text.ensures
    ∙ any_of_map string_bytes (λ known. bytes_eq known c.args.origin.now) c.deref.result.now
    ∙ ap (λ texts. has_origin (map string_bytes texts) c.args.origin.now) c.deref.ensures.value
    ∙ ap (λ origins. has_origin origins c.args.origin.now) c.self.view_is

use Rattle.std.proofs.Common.{option_copied, refl}
use Rattle.http_connection.specs.Heads.{head_in}
use Rattle.http_listener.proofs.cors.CorsService.refuse.Goals as goal

pub returns-clause-ok : goal.returns-clause-ok
returns-clause-ok g c = (
  c.refuse.new.response,
  head_in (option_copied c.args.head),
  c.in_ok-refuse.ensures.ok,
  c.allow.ensures,
  record { origins = refl; path = refl },
)

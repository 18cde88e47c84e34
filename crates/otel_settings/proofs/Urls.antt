-- What methods of texts say of the parts of a URL.
use Rattle.std.proofs.Common.{◌≡◌, ℕ, ◌==◌, List, [], ◌∷◌, length, drop, true, false, Option, Some}
use Rattle.std.proofs.Common.{None, refl, sym, ap, ◌∙◌, eqb}
use Rattle.std.specs.Prelude.{Bool, if◌then◌else◌, option_map, option_and_then, MatchOption}
use Rattle.std.specs.List.{starts_with, before_first, after_first}
use Rattle.std.specs.Str.Pattern.{FindsTextPrefix, StripsPrefix}
use Rattle.std.proofs.lemmas.Str.Pattern.{starts_text}
use denote.Ref.{Bor}
use Rattle.otel_settings.specs.Endpoints.{after_scheme, allowed, authority_of, endpoint, host_of}
use Rattle.otel_settings.specs.Endpoints.{path_of, place_of, port_in, query_of, target_path}

-- What follows a text at the front of a list is the list without as many bytes.
pub stripped : (n s : List ℕ) (r : Option (Bor (List ℕ)))
    → MatchOption r (FindsTextPrefix n s None) (λ x. StripsPrefix (FindsTextPrefix n) s x.now)
    → option_map (λ t. t.now) r ≡ (if starts_with eqb s n then Some (drop (length n) s) else None)
stripped n s None lacks = rw (← starts_text false n s lacks) refl
stripped n s (Some x) (k, found, rest, lengths) =
    rw (← starts_text true n s (k, found, rw found.0 found.2))
    (ap Some (rest ∙ ap (λ i. drop i s) found.0))

-- the place of a URL whose port is read
at_port : (is_base : Bool) (rest : List ℕ) (port : ℕ) → Some port ≡ port_in (authority_of rest)
    → place_of is_base rest
    ≡ allowed (record {
      host = host_of (authority_of rest);
      port = port;
      path = target_path is_base (path_of rest) (query_of rest);
      fields = [];
    })
at_port is_base rest port read = rw (← read) refl

-- The parts of a URL, found one by one, make the endpoint of the URL.
pub by_parts : (is_base : Bool) (url rest place query authority tail host path : List ℕ) (port : ℕ)
    → Some rest ≡ after_scheme url
    → place ≡ before_first (λ b. b == 63) rest → query ≡ after_first (λ b. b == 63) rest
    → authority ≡ before_first (λ b. b == 47) place → tail ≡ after_first (λ b. b == 47) place
    → Some port ≡ port_in authority → host ≡ host_of authority
    → path ≡ target_path is_base (47 ∷ tail) query
    → allowed (record { host = host; port = port; path = path; fields = [] })
    ≡ endpoint is_base url
unfolding endpoint
by_parts is_base url rest place query authority tail host path port scheme place_is query_is
    authority_is tail_is port_is host_is path_is =
    let within : authority ≡ authority_of rest =
    authority_is ∙ ap (before_first (λ b. b == 47)) place_is in
    let read : Some port ≡ port_in (authority_of rest) = port_is ∙ ap port_in within in
    rw (path_is, tail_is, query_is, place_is, host_is, within)
    (sym (ap (option_and_then (place_of is_base)) (sym scheme) ∙ at_port is_base rest port read))

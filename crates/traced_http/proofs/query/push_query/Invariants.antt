use Rattle.std.proofs.Common.{◌≡◌, ◌++◌, ◌∷◌, flat_map, map, string_bytes, take}
use Rattle.traced_http.specs.Queries.{redacted_parameter}
use Rattle.traced_http.proofs.query.push_query.Given as goal

-- the parameters so far, each of the others after an `&`
abbrev pub invariant-loop-parameter : goal.invariant-loop-parameter
invariant-loop-parameter l =
    string_bytes l.text
    ≡ string_bytes l.initial.text
    ++ flat_map (λ p. 38 ∷ redacted_parameter p)
    (map (λ p. p.now) (take l.parameter-index l.others))

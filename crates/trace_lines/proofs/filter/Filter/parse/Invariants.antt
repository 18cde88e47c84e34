use Rattle.std.proofs.Common.{◌≡◌, List, ℕ, length, map, fold, string_bytes, nat_lt, codes}
use Rattle.std.specs.List.{AllByRecursion}
use Rattle.form_urlencoded.specs.Parse.{pairs_left}
use Rattle.trace_lines.specs.Queries.{IsRightPair, IsRightQuery, decoded, latest, least_of}
use Rattle.trace_lines.specs.Queries.{pairs_of}
use Rattle.trace_lines.specs.Queries.{value_in}
use Rattle.trace_lines.proofs.filter.Filter.parse.Given as goal

-- the filter, and then the pairs that are left, ask for what the query asks for
abbrev pub invariant-loop-pair : goal.invariant-loop-pair
invariant-loop-pair g l = record {
  can_next : (goal.iterator-loop-pair g).can_next l.pair-iterator;
  is_finite : (goal.iterator-loop-pair g).is_finite l.pair-iterator;
  search : fold (latest (codes "q")) (string_bytes l.filter.search)
      (map decoded (pairs_left l.pair-iterator))
      ≡ value_in (codes "q") (pairs_of l.query);
  after : fold (latest (codes "after")) (string_bytes l.filter.after)
      (map decoded (pairs_left l.pair-iterator))
      ≡ value_in (codes "after") (pairs_of l.query);
  service : fold (latest (codes "service")) (string_bytes l.filter.service)
      (map decoded (pairs_left l.pair-iterator))
      ≡ value_in (codes "service") (pairs_of l.query);
  name : fold (latest (codes "name")) (string_bytes l.filter.name)
      (map decoded (pairs_left l.pair-iterator))
      ≡ value_in (codes "name") (pairs_of l.query);
  least : (text : List ℕ) × (l.filter.least_ms ≡ least_of text)
      × (fold (latest (codes "least")) text (map decoded (pairs_left l.pair-iterator))
      ≡ value_in (codes "least") (pairs_of l.query));
  errors : (text : List ℕ) × (l.filter.errors_only ≡ nat_lt 0 (length text))
      × (fold (latest (codes "errors")) text (map decoded (pairs_left l.pair-iterator))
      ≡ value_in (codes "errors") (pairs_of l.query));
  right : AllByRecursion IsRightPair (map decoded (pairs_left l.pair-iterator))
      → IsRightQuery l.query;
  wrong : IsRightQuery l.query
      → AllByRecursion IsRightPair (map decoded (pairs_left l.pair-iterator));
}

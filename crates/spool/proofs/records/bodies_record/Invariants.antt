use Rattle.std.proofs.Common.{◌≡◌, map, take}
use Rattle.std.specs.List.{AllByRecursion}
use Rattle.spool.specs.Records.{IsContent, spelled, body_content}
use Rattle.spool.proofs.records.bodies_record.Given as goal

abbrev pub invariant-loop-body : goal.invariant-loop-body
invariant-loop-body l = record {
  written : l.out.items
      ≡ spelled (map body_content (map (λ body. body.items) (take l.body-index l.bodies)));
  fits : AllByRecursion IsContent
      (map body_content (map (λ body. body.items) (take l.body-index l.bodies)));
}

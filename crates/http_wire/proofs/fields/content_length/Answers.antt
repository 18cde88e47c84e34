use Rattle.std.proofs.Common.{◌≡◌, ◌&&◌, ◌∷◌, cond, sym, ap, ◌∙◌, bytes_eq, codes, Some, Ok, Err}
use Rattle.std.specs.List.{list_all}
use Rattle.std.specs.Str.Parse.{digits_value}
use Rattle.http_header.specs.HeaderMap.{get_all}
use Rattle.http_wire.specs.declared.fault.HttpFault.TheVariants.{BadLength}
use Rattle.http_wire.specs.Fields.{is_length}
use Rattle.http_wire.proofs.LengthLemmas.{length_of, length_some}
use Rattle.http_wire.proofs.fields.content_length.Goals as goal

pub returns-then-not-are_all : goal.returns-then-not-are_all
returns-then-not-are_all c =
    let v = c.in-Some.first.now in
    let is : get_all c.args.kept.now (codes "content-length") ≡ v ∷ c.next.new.self =
    sym c.get_all.ensures.value ∙ sym c.iter-values.ensures ∙ c.in-Some.ensures.steps in
    let all =
    c.are_all.ensures
    ∙ ap (λ t. list_all (λ w. bytes_eq t w.bytes) c.next.new.self) c.as_bytes-first.ensures.value in
    sym (length_of _ v c.next.new.self c.are_all.result is all
    ∙ ap (λ b. cond (b && is_length v.bytes) (Ok (Some (digits_value 10 v.bytes))) (Err BadLength))
    c.if-not-are_all.true)

pub returns-in-Some-read_length : goal.returns-in-Some-read_length
returns-in-Some-read_length c =
    let v = c.in-Some.first.now in
    let is : get_all c.args.kept.now (codes "content-length") ≡ v ∷ c.next.new.self =
    sym c.get_all.ensures.value ∙ sym c.iter-values.ensures ∙ c.in-Some.ensures.steps in
    let all =
    c.are_all.ensures
    ∙ ap (λ t. list_all (λ w. bytes_eq t w.bytes) c.next.new.self) c.as_bytes-first.ensures.value in
    let read : Some c.in-Some-read_length.n
    ≡ cond (is_length v.bytes) (Some (digits_value 10 v.bytes)) _ =
    c.in-Some-read_length.ensures
    ∙ ap (λ t. cond (is_length t) (Some (digits_value 10 t)) _) c.as_bytes-first.ensures.value in
    length_some (is_length v.bytes) _ _ read
    ∙ sym (length_of _ v c.next.new.self c.are_all.result is all
    ∙ ap (λ b. cond (b && is_length v.bytes) (Ok (Some (digits_value 10 v.bytes))) (Err BadLength))
    c.if-not-are_all.false)

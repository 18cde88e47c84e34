-- How far bodies go.
use Rattle.std.proofs.Common.{◌≡◌, ℕ, Bool, cond, List, length, map, sym, ap, ◌∙◌, codes}
use Rattle.std.specs.Prelude.{nat_lt}
use Rattle.std.proofs.lemmas.List.{length-map}
use Rattle.http_header.specs.FieldValue.{FieldValue}
use Rattle.http_header.specs.HeaderMap.{Entries, get_all}
use Rattle.http_wire.specs.Bodies.{Framing, framing_by_coding, framing_by_length, framing_by_fields}
use Rattle.http_wire.specs.Fields.{NameAndValue, KeepsFields, values_of, content_length}

-- A field is among the kept ones just if it is among those of the head.
pub stands_kept : (name : List ℕ) (kept : Entries FieldValue) (fields : List NameAndValue)
    (stands : Bool)
    → KeepsFields kept fields → stands ≡ nat_lt 0 (length (get_all kept name))
    → nat_lt 0 (length (values_of name fields)) ≡ stands
stands_kept name kept fields stands keeps is =
    ap (λ n. nat_lt 0 n)
    (ap length (sym (keeps.values name)) ∙ length-map (get_all kept name) (λ v. v.bytes))
    ∙ sym is

-- The kept fields say how far the body goes, as those of the head do.
pub framing_kept : (otherwise : Framing) (kept : Entries FieldValue) (fields : List NameAndValue)
    (coded : Bool)
    → KeepsFields kept fields
    → coded ≡ nat_lt 0 (length (get_all kept (codes "transfer-encoding")))
    → framing_by_fields otherwise fields
    ≡ cond coded (framing_by_coding (map (λ v. v.bytes) (get_all kept (codes "transfer-encoding"))))
    (framing_by_length otherwise
    (content_length (map (λ v. v.bytes) (get_all kept (codes "content-length")))))
framing_kept otherwise kept fields coded keeps is =
    let by : Bool → List (List ℕ) → List (List ℕ) → Framing =
    λ stands codings lengths. cond stands (framing_by_coding codings)
    (framing_by_length otherwise (content_length lengths)) in
    ap (λ stands. by stands (values_of (codes "transfer-encoding") fields)
    (values_of (codes "content-length") fields))
    (stands_kept (codes "transfer-encoding") kept fields coded keeps is)
    ∙ ap (λ codings. by coded codings (values_of (codes "content-length") fields))
    (sym (keeps.values (codes "transfer-encoding")))
    ∙ ap
    (λ lengths. by coded (map (λ v. v.bytes) (get_all kept (codes "transfer-encoding"))) lengths)
    (sym (keeps.values (codes "content-length")))

use Rattle.std.proofs.Common.{◌≡◌, ◌-◌, ◌*◌, ◌+◌, ◌++◌, length, take, drop, Ok, List, ℕ, sym, ap}
use Rattle.std.proofs.Common.{◌∙◌}
use Rattle.std.proofs.Common.{append_assoc, arith, length-append, length-drop}
use Rattle.model_message.specs.Wire.{varint}
use Rattle.model_message.specs.Canon.{payload_bytes}
use Rattle.otlp_json.proofs.Spelled.{brought, headed}
use Rattle.otlp_json.proofs.walk.close.Goals as goal

pub returns : goal.returns
returns g c =
    let o : List ℕ = c.args.out.now.items in
    let s : ℕ = c.args.start in
    let tag = payload_bytes (varint (c.args.number * 8 + 2)) in
    let size = payload_bytes (varint (c.len-end.result - s)) in
    let all : c.as_mut_slice.result.now ≡ o ++ (tag ++ size) =
    c.as_mut_slice.ensures.value ∙ c.in_ok-write_varint-2.ensures.canonical
    ∙ ap (λ bs. bs ++ size) c.in_ok-write_varint.ensures.canonical ∙ append_assoc o tag size in
    let longer : length c.as_mut_slice.result.now ≡ length o + length (tag ++ size) =
    ap length all ∙ length-append o (tag ++ size) in
    let count : c.len.result - c.len-end.result ≡ length (tag ++ size) =
    omega (arith, c.len.ensures, c.len-end.ensures, c.as_mut_slice.ensures.len, longer) in
    let moved =
    brought s _ _ o (tag ++ size) _ _ _
    (omega arith) count all c.as_mut_slice.ensures.len c.rotate_right.ensures.after in
    let left : c.len-end.result - s ≡ length (drop s o) =
    omega (arith, length-drop s o, c.len-end.ensures) in
    ap Ok (sym (moved ∙ ap (λ bs. take s o ++ bs)
    (ap (λ n. (tag ++ payload_bytes (varint n)) ++ drop s o) left
    ∙ headed c.args.number (drop s o))))

use Rattle.std.proofs.Common.{◌≡◌, ◌<◌, length, arith, ap, sym, ◌∙◌, String, string_bytes, Some}
use Rattle.std.proofs.Common.{None}
use Rattle.otlp_http.specs.Fields.{refusal}
use Rattle.otel_settings.proofs.HeaderSteps.{none_left, pushed_one, refused_one}
use Rattle.otel_settings.proofs.headers.push_pairs.Goals as goal

pub returns-in-Some-clause-refusal : goal.returns-in-Some-clause-refusal
returns-in-Some-clause-refusal g c =
    let inside : c.loop-name.name-index < length c.args.pairs.now = omega arith in
    let item = c.loop-name-item.is in
    let name = c.as_str.ensures.value ∙ ap (λ (p : String _ × String _). string_bytes p.0) item in
    let value =
    c.as_str-in-loop-name.ensures.value ∙ ap (λ (p : String _ × String _). string_bytes p.1) item in
    let copy : string_bytes c.in_ok-from_str.field-0 ≡ c.as_str.result.now =
    c.in_ok-from_str.ensures.ok ∙ c.as_str-in-Some.ensures.value ∙ sym c.as_str.ensures.value in
    let some : refusal c.loop-name.fields (c.as_str.result.now, c.as_str-in-loop-name.result.now)
    ≡ Some c.in-Some.fault = sym c.in_ok-fault.ensures.fault ∙ c.in-Some.is in
    refused_one c.args.fields.now c.args.pairs.now c.loop-name.fields c.loop-name.name-index _
    c.as_str.result.now c.as_str-in-loop-name.result.now (string_bytes c.in_ok-from_str.field-0)
    c.in-Some.fault inside name value some copy
    c.loop-name.invariant

pub loop-name-preserved : goal.loop-name-preserved
loop-name-preserved g c =
    let inside : c.loop-name.name-index < length c.args.pairs.now = omega arith in
    let item = c.loop-name-item.is in
    let name = c.as_str.ensures.value ∙ ap (λ (p : String _ × String _). string_bytes p.0) item in
    let value =
    c.as_str-in-loop-name.ensures.value ∙ ap (λ (p : String _ × String _). string_bytes p.1) item in
    let none : refusal c.loop-name.fields (c.as_str.result.now, c.as_str-in-loop-name.result.now)
    ≡ None = sym c.in_ok-fault.ensures.fault ∙ c.in_default.is in
    pushed_one c.args.fields.now c.args.pairs.now c.loop-name.fields c.push_field.new.fields
    c.loop-name.name-index _ c.as_str.result.now c.as_str-in-loop-name.result.now inside name value
    none (c.in_ok-fault.ensures.pushed c.in_default.is) c.loop-name.invariant

pub returns-clause-refusal : goal.returns-clause-refusal
returns-clause-refusal g c =
    none_left c.args.fields.now c.args.pairs.now c.loop-name.fields c.loop-name.name-index
    (omega arith) c.loop-name.invariant

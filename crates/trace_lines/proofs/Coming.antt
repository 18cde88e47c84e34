-- What the plan of a trace's rows may come to, step after step.
use Rattle.std.proofs.Common.{◌≡◌, refl, sym, ap, subst, ◌∙◌, true, Option, Some, None, List}
use Rattle.std.specs.Prelude.{is_none, Vec}
use Rattle.trace_tree.specs.declared.draw.Frame.{Frame}
use Rattle.trace_lines.specs.Comes.{MayHave, MayHaveBy, is_planned}
use Rattle.trace_lines.specs.Parts.{IsPartOf}
use Rattle.trace_lines.specs.Plans.{IsPlan}
use Rattle.trace_lines.specs.declared.line.Line.{Line}
use Rattle.trace_lines.specs.declared.planning.Planning.{Planning}
use Rattle.trace_lines.specs.declared.rows.TraceLines.{TraceLines}

has_by : {A : Type 0} (rows : TraceLines A) (o : Option (Planning A)) (lines : List Line)
    (frame : Frame)
    → is_none o ≡ true → MayHaveBy rows o lines frame
    → (lines ≡ rows.lines.items) × (frame ≡ rows.frame)
has_by rows None lines frame planned h = h
has_by rows (Some p) lines frame planned h = cc

by_has : {A : Type 0} (rows : TraceLines A) (o : Option (Planning A))
    → is_none o ≡ true → MayHaveBy rows o rows.lines.items rows.frame
by_has rows None planned = (refl, refl)
by_has rows (Some p) planned = cc

-- Once all is planned, it comes to the lines and the time that it has, and to no others.
pub planned_has : {A : Type 0} (rows : TraceLines A) (lines : List Line) (frame : Frame)
    → is_planned rows ≡ true → MayHave rows lines frame
    → (lines ≡ rows.lines.items) × (frame ≡ rows.frame)
planned_has rows lines frame planned h = has_by rows rows.planning lines frame planned h

-- Once all is planned, it comes to the lines and the time that it has.
pub has_planned : {A : Type 0} (rows : TraceLines A)
    → is_planned rows ≡ true → MayHave rows rows.lines.items rows.frame
has_planned rows planned = by_has rows rows.planning planned

module _ {A : Type 0} (old new : TraceLines A) where
  -- Where all is planned, no step changes what it comes to.
  pub comes_same : old.planning ≡ None → new.planning ≡ None
      → new.lines ≡ old.lines → new.frame ≡ old.frame
      → (lines : List Line) (frame : Frame) → MayHave new lines frame → MayHave old lines frame
  comes_same was is same time lines frame h =
      let has : (lines ≡ new.lines.items) × (frame ≡ new.frame) =
      subst (λ o. MayHaveBy new o lines frame) is h in
      subst (λ o. MayHaveBy old o lines frame) (sym was)
      (has.0 ∙ ap (λ (v : Vec Line A). v.items) same, has.1 ∙ time)

  module _ (planning : Planning A) (was : old.planning ≡ Some planning) where
    -- A step that leads to another part of the plan.
    pub comes_more : (part : Planning A) → new.planning ≡ Some part
        → new.spans ≡ old.spans
        → (IsPartOf old.spans.items planning → IsPartOf old.spans.items part)
        → (lines : List Line) (frame : Frame) → MayHave new lines frame → MayHave old lines frame
    comes_more part is same right lines frame h =
        let to : IsPartOf new.spans.items part → IsPlan new.spans.items lines frame =
        subst (λ o. MayHaveBy new o lines frame) is h in
        subst (λ o. MayHaveBy old o lines frame) (sym was)
        (λ begun. subst (λ s. IsPlan s lines frame) (ap (λ v. v.items) same)
        (to (subst (λ s. IsPartOf s part) (sym (ap (λ v. v.items) same)) (right begun))))

    -- A step that leads to the plan.
    pub comes_done : new.planning ≡ None
        → (IsPartOf old.spans.items planning → IsPlan old.spans.items new.lines.items new.frame)
        → (lines : List Line) (frame : Frame) → MayHave new lines frame → MayHave old lines frame
    comes_done is right lines frame h =
        let has : (lines ≡ new.lines.items) × (frame ≡ new.frame) =
        subst (λ o. MayHaveBy new o lines frame) is h in
        subst (λ o. MayHaveBy old o lines frame) (sym was)
        (λ begun. subst (λ l. IsPlan old.spans.items l frame) (sym has.0)
        (subst (λ f. IsPlan old.spans.items new.lines.items f) (sym has.1) (right begun)))

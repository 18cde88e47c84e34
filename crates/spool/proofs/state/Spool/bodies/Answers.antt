use Rattle.std.proofs.Common.{◌≡◌, ℕ, ap, ◌∙◌, List, ◌++◌, max}
use Rattle.std.specs.Prelude.{Some, slice_get}
use Rattle.std.specs.Option.{option_to_list}
use Rattle.spool.specs.Spools.{done_to}
use Rattle.spool.specs.Settled.{segment_of}
use Rattle.spool.specs.declared.state.Segment.{Segment}
use Rattle.spool.proofs.SurveyLaws.{segment-at, bodies-waiting}
use Rattle.spool.proofs.state.Spool.bodies.Goals as goal

pub returns-clause-bodies : goal.returns-clause-bodies
returns-clause-bodies g c = λ known file at.
    let s = c.requires known in
    let disk = g.D.Device.files c.args.self.now.device in
    let segments =
    ap (λ (l : List Segment). l ++ option_to_list c.args.self.now.growing) c.deref.ensures.value
    ∙ s.segments in
    let found =
    ap (λ (l : List Segment). slice_get l c.args.index) segments
    ∙ segment-at disk c.args.index file at in
    let some : Some c.in-Some.segment ≡ Some (segment_of file) = c.in-Some.ensures ∙ found in
    let same : c.in-Some.segment ≡ segment_of file = cc in
    let number : c.in-Some.segment.number ≡ file.number = ap (λ (x : Segment). x.number) same in
    let start : c.max-start.result ≡ max (done_to disk) c.args.from =
    c.max-start.ensures ∙ ap (λ (n : ℕ). max n c.args.from) s.done in
    let bytes = c.deref-2.ensures.value ∙ c.in_ok-bytes.ensures.bytes known file at in
    bodies-waiting (max (done_to disk) c.args.from) c.max-start.result c.in-Some.segment.number file
    _ _ start number bytes c.in_ok-bodies.ensures.bodies

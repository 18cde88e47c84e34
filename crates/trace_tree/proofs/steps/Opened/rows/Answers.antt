use Rattle.std.proofs.Common.{subst, sym}
use Rattle.std.proofs.lemmas.Result.{IfOk-weaker}
use Rattle.trace_tree.specs.Order.{places_of}
use Rattle.trace_tree.specs.Rows.{AreRowsOf}
use Rattle.trace_tree.specs.Steps.{AreArranged, AreOrdered}
use Rattle.trace_tree.proofs.Stepping.{arranged}
use Rattle.trace_tree.proofs.steps.Opened.rows.Goals as goal

pub rows_of-requires : goal.rows_of-requires
rows_of-requires g c =
    rw (c.deref.ensures.value, c.deref-2.ensures.value, c.deref-3.ensures.value) (record {
      in_list = c.self.invariant.in_list;
      places = c.self.invariant.as_many;
      order = c.self.invariant.each_once;
      ends = c.self.invariant.ends;
    })

pub returns : goal.returns
returns g c spans old =
    let tree = c.self.inside.tree.items in
    let places = c.self.inside.places.items in
    let starts = c.self.inside.starts.items in
    IfOk-weaker c.rows_of.result
    (λ rows.
    AreRowsOf c.deref.result.now c.deref-2.result.now (places_of c.deref-3.result.now) rows.items)
    (λ rows. AreArranged spans rows.items)
    (λ rows made. arranged spans (record { tree = tree; places = places; starts = starts })
    rows.items (subst (AreOrdered spans) (sym c.self.view_is) old)
    (subst (λ t. AreRowsOf t places (places_of starts) rows.items) c.deref.ensures.value
    (subst (λ p. AreRowsOf c.deref.result.now p (places_of starts) rows.items)
    c.deref-2.ensures.value
    (subst
    (λ s. AreRowsOf c.deref.result.now c.deref-2.result.now (places_of s) rows.items)
    c.deref-3.ensures.value made))))
    c.rows_of.ensures

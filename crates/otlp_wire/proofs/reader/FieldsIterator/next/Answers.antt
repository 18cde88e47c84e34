use Rattle.std.proofs.Common.{sym, ◌∙◌, refl}
use Rattle.std.proofs.lemmas.Bool.{eqb-true}
use Rattle.otlp_wire.proofs.RowSteps.{row-none, row-first, row-fault, fewer-fields, fewer-faults}
use Rattle.otlp_wire.proofs.RowSteps.{some-byte}
use Rattle.otlp_wire.proofs.reader.FieldsIterator.next.Goals as goal

pub returns-then-is_empty-clause-steps : goal.returns-then-is_empty-clause-steps
returns-then-is_empty-clause-steps c =
    let none =
    sym c.self.view_is
    ∙ row-none c.self.inside.unread.now (eqb-true _ 0 (sym c.if-is_empty.ensures)) in
    (none, none)

pub returns-in-Ok-clause-steps : goal.returns-in-Ok-clause-steps
returns-in-Ok-clause-steps c = sym c.self.view_is ∙ row-first _ _ _ c.in-Ok.ensures

pub returns-in-Ok-clause-goes : goal.returns-in-Ok-clause-goes
returns-in-Ok-clause-goes c = record {
  on = λ _. (tt, tt, fewer-fields _ _ _ (sym c.self.view_is ∙ row-first _ _ _ c.in-Ok.ensures));
  keeps = tt;
  rests = λ _. tt;
}

pub returns-in-Err-clause-steps : goal.returns-in-Err-clause-steps
returns-in-Err-clause-steps c = (
  sym c.self.view_is ∙ row-fault _ _ (some-byte _ (sym c.if-is_empty.ensures)) c.in-Err.ensures,
  row-none _ refl,
)

pub returns-in-Err-clause-goes : goal.returns-in-Err-clause-goes
returns-in-Err-clause-goes c = record {
  on = λ _. (
    tt,
    tt,
    fewer-faults _ _ _
        (sym c.self.view_is
        ∙ row-fault _ _ (some-byte _ (sym c.if-is_empty.ensures)) c.in-Err.ensures)
        (row-none _ refl),
  );
  keeps = tt;
  rests = λ _. tt;
}

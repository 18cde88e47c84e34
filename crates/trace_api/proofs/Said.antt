-- Calls on a span, one after the other.
use Rattle.std.proofs.Common.{refl, ap, ◌∙◌, sym, List, [], ◌∷◌, ◌++◌, append_assoc, Result}
use Rattle.std.proofs.Common.{Ok, Err, OnOk}
use Rattle.std.proofs.lemmas.List.{append-nil}
use Rattle.model_span.specs.Spans.{Call}
use Rattle.model_span.specs.Starts.{Does, HeldSpan, held_span}
use Rattle.trace_api.specs.ExtCalls.{DoesAll}

-- A held span on which no call is made stays as it is.
pub does-none : (h : HeldSpan) → DoesAll [] h h
does-none h =
    record { context = refl; value = λ s calls e. e ∙ ap (held_span s) (sym (append-nil calls)) }

-- One call on a held span is a list of one call.
pub does-one : (call : Call) (a b : HeldSpan) → Does call a b → DoesAll (call ∷ []) a b
does-one call a b f = record { context = f.context; value = f.value }

-- The calls of two lists, made one list after the other, are the calls of the joined list.
pub does-both : (xs ys : List Call) (a b c : HeldSpan) → DoesAll xs a b → DoesAll ys b c
    → DoesAll (xs ++ ys) a c
does-both xs ys a b c f g = record {
  context = g.context ∙ f.context;
  value =
      λ s calls e.
      g.value s (calls ++ xs) (f.value s calls e) ∙ ap (held_span s) (append_assoc calls xs ys);
}

-- Two calls, one after the other, are a list of two calls.
pub does-two : (x y : Call) (a b c : HeldSpan) → Does x a b → Does y b c → DoesAll (x ∷ y ∷ []) a c
does-two x y a b c f g = does-both (x ∷ []) (y ∷ []) a b c (does-one x a b f) (does-one y b c g)

-- What holds of a success carries over to whatever follows from it.
pub on-ok : {T E : Type 0} {A B : Type 0} (r : Result T E) → (A → B) → OnOk r A → OnOk r B
on-ok (Ok x) f h = f h
on-ok (Err e) f h = h

use Rattle.std.proofs.Common.{◌≡◌, sym, ap, ap₂, ◌∙◌, ℕ, List, Bool, true, false, Option, String}
use Rattle.std.proofs.Common.{string_bytes, nat_eq, arith}
use Rattle.std.specs.List.{position}
use Rattle.std.specs.String.{string_len}
use Rattle.std.proofs.lemmas.List.{length-map}
use Rattle.std.proofs.lemmas.Result.{err_from_is_err_and}
use Rattle.model_span.specs.Attributes.{Attribute, Value, has_key, is_empty}
use Rattle.otlp_value.specs.declared.Value as declared
use Rattle.otlp_value.specs.Value.{attribute_view, limits_view}
use Rattle.otlp_value.proofs.Setting.{is_empty-length, is-new, sets-full, sets-ignored, sets-new}
use Rattle.otlp_value.proofs.Setting.{sets-there}
use Rattle.otlp_value.proofs.AttributeList.set.Goals as goal

-- Pairs of the same key with equal values are equal.
with_value : (k : List ℕ) (v w : Value) → v ≡ w
    → ◌≡◌ {A = Attribute} (record { key = k; value = v }) (record { key = k; value = w })
with_value k v w e = ap (λ x. record { key = k; value = x }) e

-- The key is empty if the test of its length says so.
emptiness : {A : Type 0} (key : String A) (r t : Bool) → r ≡ nat_eq (string_len key) 0 → r ≡ t
    → is_empty (string_bytes key) ≡ t
emptiness key r t e h =
    is_empty-length (string_bytes key) t (ap (λ n. nat_eq n 0) (sym key.bytes.ok.0) ∙ sym e ∙ h)

-- What the look-up found is the place of the key among the pairs.
place : {A : Type 0} (key : String A) (pairs seen : List (String A × declared.Value A))
    (text : List ℕ) (r o : Option ℕ)
    → text ≡ string_bytes key → seen ≡ pairs →
    r ≡ position (λ p. has_key text (attribute_view p)) seen → r ≡ o
    → position (λ p. has_key (string_bytes key) (attribute_view p)) pairs ≡ o
place key pairs seen text r o k s e h =
    ap₂ (λ a b. position (λ p. has_key a (attribute_view p)) b) (sym k) (sym s) ∙ sym e ∙ h

pub returns-then-is_empty-clause-ok : goal.returns-then-is_empty-clause-ok
returns-then-is_empty-clause-ok g c =
    sets-ignored _ _ (emptiness c.args.key _ true c.is_empty.ensures c.if-is_empty.true)

pub returns-in-Some-clause-ok : goal.returns-in-Some-clause-ok
returns-in-Some-clause-ok g c =
    let l = c.self.inside in
    let named = emptiness c.args.key _ false c.is_empty.ensures c.if-is_empty.false in
    let at =
    place c.args.key _ _ _ _ _ c.deref-2.ensures c.deref.ensures.value c.position_of.ensures
    c.in-Some.is in
    rw (← c.self.view_is)
    (sets-there attribute_view (limits_view l.limits) l.pairs.items l.dropped
    (attribute_view (c.args.key, c.args.value)) named
    c.in-Some.index c.index_mut.result.now
    (c.index_mut.result.now.0, c.cut-value.result) at c.index_mut.ensures.value
    (with_value _ _ _ c.cut-value.ensures))

pub returns-in_ok-append-in-None-clause-ok : goal.returns-in_ok-append-in-None-clause-ok
returns-in_ok-append-in-None-clause-ok g c =
    let l = c.self.inside in
    let named = emptiness c.args.key _ false c.is_empty.ensures c.if-is_empty.false in
    let absent =
    place c.args.key _ _ _ _ _ c.deref-2.ensures c.deref.ensures.value c.position_of.ensures
    c.in-None.is in
    let counted = l.pairs.ok.0 in
    rw (← c.self.view_is, c.in_ok-append-in-None.ensures.ok)
    (sets-new attribute_view (limits_view l.limits) l.pairs.items l.dropped
    (attribute_view (c.args.key, c.args.value)) named absent
    (c.args.key, c.cut-value.result) (omega arith) (with_value _ _ _ c.cut-value.ensures))

pub returns-in_err-append-in-None-clause-refused_only_where_kept :
    goal.returns-in_err-append-in-None-clause-refused_only_where_kept
returns-in_err-append-in-None-clause-refused_only_where_kept g c =
    let l = c.self.inside in
    let named = emptiness c.args.key _ false c.is_empty.ensures c.if-is_empty.false in
    let absent =
    place c.args.key _ _ _ _ _ c.deref-2.ensures c.deref.ensures.value c.position_of.ensures
    c.in-None.is in
    let counted = l.pairs.ok.0 in
    let as_many = length-map l.pairs.items attribute_view in
    rw ((err_from_is_err_and c.from_residual.result c.from_residual.ensures.1).1, ← c.self.view_is)
    (record {
      named = named;
      new =
          is-new attribute_view (limits_view l.limits) l.pairs.items l.dropped
          (attribute_view (c.args.key, c.args.value)) named absent;
      room = omega arith;
    })

pub returns-in-None-2-clause-ok : goal.returns-in-None-2-clause-ok
returns-in-None-2-clause-ok g c =
    let l = c.self.inside in
    let named = emptiness c.args.key _ false c.is_empty.ensures c.if-is_empty.false in
    let absent =
    place c.args.key _ _ _ _ _ c.deref-2.ensures c.deref.ensures.value c.position_of.ensures
    c.in-None-2.is in
    let counted = l.pairs.ok.0 in
    rw (← c.self.view_is, c.saturating_add-self-inside.ensures)
    (sets-full attribute_view (limits_view l.limits) l.pairs.items l.dropped
    (attribute_view (c.args.key, c.args.value)) named absent (omega arith))

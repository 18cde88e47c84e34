-- Lost spans that `==` finds equal are the same.
use Rattle.std.proofs.Common.{◌≡◌, ap, ap₂, refl, true, List, [], ◌∷◌}
use Rattle.std.proofs.lemmas.Bool.{and_parts, eqb-true, false≢true}
use lib.Pointwise.{pointwise}
use Rattle.otlp_span.specs.declared.reason.Reason.{Reason}
use Rattle.otlp_span.specs.declared.reason.Reason.TheVariants as reasons
use Rattle.otlp_span.specs.contracts.reason.ReasonPartialEq.TheImpl as reason
use Rattle.trace_demo.specs.declared.soak.losses.Loss.{Loss}
use Rattle.trace_demo.specs.contracts.soak.losses.LossPartialEq.TheImpl as loss

same-reason : (a b : Reason) → reason.eq-value.it a b ≡ true → a ≡ b
same-reason reasons.QueueFull reasons.QueueFull e = refl
same-reason reasons.EncodeMemory reasons.EncodeMemory e = refl
same-reason reasons.TooLarge reasons.TooLarge e = refl
same-reason reasons.Abandoned reasons.Abandoned e = refl
same-reason (reasons.Refused m) (reasons.Refused n) e = ap reasons.Refused (eqb-true m n e)
same-reason reasons.BadReply reasons.BadReply e = refl
same-reason reasons.GivenUp reasons.GivenUp e = refl
same-reason reasons.LeftHanded reasons.LeftHanded e = refl
same-reason _ _ e = absurd (false≢true e)

same-loss : (a b : Loss) → loss.eq-value.it a b ≡ true → a ≡ b
same-loss a b e =
    let same = and_parts _ (reason.eq-value.it a.reason b.reason) e in
    ap₂ (λ n r. record { number = n; reason = r }) (eqb-true a.number b.number same.0)
    (same-reason a.reason b.reason same.1)

-- Lists that compare as equal, place by place, are equal.
pub same-losses : (xs ys : List Loss) → pointwise loss.eq-value.it xs ys ≡ true → xs ≡ ys
same-losses [] [] e = refl
same-losses [] (y ∷ ys) e = absurd (false≢true e)
same-losses (x ∷ xs) [] e = absurd (false≢true e)
same-losses (x ∷ xs) (y ∷ ys) e =
    let same = and_parts (loss.eq-value.it x y) (pointwise loss.eq-value.it xs ys) e in
    ap₂ (λ z zs. z ∷ zs) (same-loss x y same.0) (same-losses xs ys same.1)

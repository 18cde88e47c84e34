-- Where the reading of a head ends: it found one, or stopped.
use Rattle.std.proofs.Common.{◌≡◌, ℕ, ◌<◌, ◌≤◌, List, [], ◌∷◌, ◌++◌, length, sym, ap, ◌∙◌, subst}
use Rattle.std.proofs.Common.{arith, length-append, inr, Option}
use Rattle.httparse.specs.Grammar.{Field}
use Rattle.httparse.specs.declared.spans.HeaderSpan.{HeaderSpan}
use Rattle.http_wire.specs.declared.fault.HttpFault.{HttpFault}
use Rattle.http_wire.specs.declared.limits.HeadLimits.{HeadLimits}
use Rattle.http_wire.specs.Heads.{Covers, FindsSuchHead, HasNone, Within}
use Rattle.http_wire.specs.Heads.{LacksSuchHead, IsStoppedHead, unfinished, bad, over}
use Rattle.http_wire.proofs.HeadLemmas.{whole_now}

-- Where the reading of a head stopped, its answer is the cause that no head came.
pub stopped_lacks : (none may never : List ℕ → Type 0) (exceeds : ℕ → List ℕ → Type 0)
    (limits : HeadLimits) (text : List ℕ)
    (left : Option (List ℕ)) (failed : Type 0) (room : ℕ) (fault answer : HttpFault)
    → (none text × may text → LacksSuchHead none may never exceeds limits text left failed fault)
    → length text ≤ limits.head → room ≡ limits.fields
    → IsStoppedHead none may never exceeds text room fault answer
    → LacksSuchHead none may never exceeds limits text left failed answer
stopped_lacks none may never exceeds limits text left failed room fault answer cause short same
    (unfinished is e) =
    subst (LacksSuchHead none may never exceeds limits text left failed) (sym e) (cause is)
stopped_lacks none may never exceeds limits text left failed room fault answer cause short same
    (bad is e) =
    subst (LacksSuchHead none may never exceeds limits text left failed) (sym e) (is, short)
stopped_lacks none may never exceeds limits text left failed room fault answer cause short same
    (over many e) =
    subst (LacksSuchHead none may never exceeds limits text left failed) (sym e)
    (short, inr (subst (λ n. exceeds n text) same many))

-- What a parse finds at the byte that makes a head whole is the text's head.
pub found_whole : {Head Found : Type 0} (valid : Head → Type 0) (printed : Head → List ℕ)
    (fields_in : Head → List Field) (covers : Covers Head Found) (within : Within Found)
    → ((text : List ℕ) (spans : List HeaderSpan) (found : Found) (head : Head)
    → covers text spans found head
    → (rest : List ℕ) × (valid head × (text ≡ printed head ++ rest)))
    → ((text : List ℕ) (spans : List HeaderSpan) (found : Found) (head : Head)
    → covers text spans found head → length (fields_in head) ≤ length spans)
    → (limits : HeadLimits) (old text : List ℕ) (byte : ℕ) (spans : List HeaderSpan) (found : Found)
    → HasNone valid printed old → text ≡ old ++ byte ∷ [] → length old < limits.head
    → length spans ≡ limits.fields
    → (head : Head) × covers text spans found head × within text spans found
    → FindsSuchHead valid printed fields_in covers within limits text spans found
found_whole valid printed fields_in covers within begins fits limits old text byte spans found none
    is below room finds =
    let reads = begins text spans found finds.0 finds.1 in
    let now = subst (λ t. t ≡ printed finds.0 ++ reads.0) is reads.1.1 in
    let fit = fits text spans found finds.0 finds.1 in
    let long = ap length is ∙ length-append old (byte ∷ []) in (
      finds.0,
      (
        record {
          valid = reads.1.0;
          whole = is ∙ whole_now valid printed old byte finds.0 reads.0 none (reads.1.0, now);
          bytes = omega (arith, long, below);
          fields = omega (arith, fit, room);
        },
        finds.1,
        finds.2,
      ),
    )

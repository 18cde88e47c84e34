-- What a sender with its account does.
use Rattle.std.proofs.Common.{◌≡◌, ◌∙◌, ap, inl, inr, refl, subst, sym, ℕ, List, Option}
use Rattle.std.proofs.Common.{false}
use Rattle.std.specs.Prelude.{Result, Ok, Err, OnOk}
use Rattle.std.specs.Result.{is_err}
use Rattle.model_desk.specs.Retries.{Next, Outcome}
use Rattle.model_body.specs.Names.{LostSpan}
use Rattle.relay_queue.specs.Named as named
use Rattle.span_exporter.specs.Handed.{Handed, Gains, handing}
use Rattle.relay_queue.specs.Senders.{Sender, has_batch, names_after, to_send}
use Rattle.relay_queue.specs.Steps.{Attempts, IsJudged}
use Rattle.relay_store.specs.Accounts.{Said, sends, sent_in}
use Rattle.relay_store.specs.Handlers.{Finishes, IsHandler, IsNoted, SendsInHand}

-- What follows where there is no error.
pub at-ok : {T E A : Type 0} (r : Result T E) → is_err r ≡ false → OnOk r A → A
at-ok (Ok v) e a = a
at-ok (Err x) e a = absurd cc

-- An attempt hands on the bytes of the batch that the account has.
pub sends-in-hand : (outcome : Outcome) (s s' : Sender) (said : Said)
    (had has : Option (List Handed)) → IsHandler s said → s.stage ≡ to_send
    → Attempts outcome s s' had has
    → SendsInHand outcome (record { sender = s; sent = sent_in said })
    (record { sender = s'; sent = sent_in said }) had has
sends-in-hand outcome s s' said had has h ready a = record {
  handed =
      subst (λ body. Gains (handing s.number s'.attempts body outcome) had has)
      (h.body (ap has_batch ready)) a.handed;
  sent = refl;
  sender = a.sender;
}

noted-sends : (next : Next) (ended : List (List ℕ)) (said said' : Said)
    → IsNoted next ended said said' → said' ≡ sends (sent_in said')
noted-sends next ended said said' (inl n) =
    n.said_is ∙ ap (λ v. sends (sent_in v)) (sym n.said_is)
noted-sends next ended said said' (inr n) =
    n.said_is ∙ ap (λ v. sends (sent_in v)) (sym n.said_is)

-- An outcome is judged, noted, and what is lost by it is named.
pub finishes : (now word : ℕ) (s s' t : Sender) (said said' : Said) (next : Next)
    (ended : List (List ℕ)) (had has : Option (List LostSpan)) → IsHandler s said
    → IsJudged now word s next s' → t ≡ s' → IsNoted next ended said said'
    → named.Gains (names_after next ended) had has
    → Finishes now word (record { sender = s; sent = sent_in said }) next
    (record { sender = t; sent = sent_in said' }) had has
finishes now word s s' t said said' next ended had has h judged same noted names = record {
  judged = subst (λ (v : Sender). IsJudged now word s next v) (sym same) judged;
  ended = ended;
  noted =
      subst (λ v. IsNoted next ended v (sends (sent_in said'))) h.is_sends
      (subst (λ v. IsNoted next ended said v) (noted-sends next ended said said' noted) noted);
  names = names;
}

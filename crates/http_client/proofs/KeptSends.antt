-- A text that was sent over a link that was kept, or over a new one.
use Rattle.std.proofs.Common.{◌≡◌, ℕ, List, Bool, true, false, ap, refl, subst, ◌∙◌, Option}
use Rattle.std.proofs.Common.{Some, None, Result, Err}
use Rattle.http_exporter.specs.Attempts.{Shown}
use Rattle.http_exporter.specs.Kept.{IsReady}
use Rattle.otlp_http.specs.Address.{Address}
use Rattle.otlp_http.specs.Replies.{HttpReply}
use Rattle.http_client.specs.declared.fault.SendFault.{SendFault}
use Rattle.http_client.specs.Exchanges.{IsExchange}
use Rattle.http_client.specs.KeptLinks.{again, answered, anew, unanswered}
use Rattle.http_client.specs.KeptLinks.{IsSentAnew, IsSentKept, IsUnanswered, KeptDial, MayKeep}
use Rattle.http_client.specs.KeptLinks.{is_idempotent, link_to}

module _ {Dial Link : Type 0} (dials : Dial → List ℕ → ℕ → Option Link → Dial → Type 0)
    (renews : Link → Bool → Link → Type 0) (shown : Shown Link) (address : Address)
    (method text : List ℕ) (old mid : KeptDial Dial Link) (taken ready : Option Link) where
  -- Where no link is ready, the text is sent over a new one.
  pub sent-anew : (new : KeptDial Dial Link) (result : Result HttpReply SendFault)
      → taken ≡ link_to address old.kept → mid ≡ record { dial = old.dial; kept = None }
      → IsReady renews taken ready → ready ≡ None
      → IsSentAnew dials shown address method text mid.dial new result
      → IsSentKept dials renews shown address method text old new result
  sent-anew new result taken_is mid_is is_ready ready_is sent =
      anew (subst (λ k. IsReady renews k None) taken_is
      (subst (λ r. IsReady renews taken r) ready_is is_ready))
      (subst (λ d. IsSentAnew dials shown address method text d new result)
      (ap (λ k. k.dial) mid_is) sent)

  -- Where one is ready and an answer comes over it, that is the result.
  pub got-answer : (link spent : Link) (new : KeptDial Dial Link) (lasts : Bool)
      (result : Result HttpReply SendFault)
      → taken ≡ link_to address old.kept → mid ≡ record { dial = old.dial; kept = None }
      → IsReady renews taken ready → ready ≡ Some link
      → IsExchange shown method text link spent result lasts
      → MayKeep address lasts spent new.kept → new.dial ≡ mid.dial
      → IsSentKept dials renews shown address method text old new result
  got-answer link spent new lasts result taken_is mid_is is_ready ready_is exchange keeps dial =
      answered link spent lasts
      (subst (λ k. IsReady renews k (Some link)) taken_is
      (subst (λ r. IsReady renews taken r) ready_is is_ready))
      exchange (dial ∙ ap (λ k. k.dial) mid_is) keeps

  -- Where nothing comes over it, and the text may not be sent again, that is the end.
  pub got-nothing : (link spent : Link) (fault : SendFault)
      → taken ≡ link_to address old.kept → mid ≡ record { dial = old.dial; kept = None }
      → IsReady renews taken ready → ready ≡ Some link
      → IsUnanswered shown text link spent fault → is_idempotent method ≡ false
      → IsSentKept dials renews shown address method text old mid (Err fault)
  got-nothing link spent fault taken_is mid_is is_ready ready_is nothing is =
      unanswered link spent fault
      (subst (λ k. IsReady renews k (Some link)) taken_is
      (subst (λ r. IsReady renews taken r) ready_is is_ready))
      nothing is mid_is refl

  -- Where it may, it is sent once more, over a new link.
  pub sent-again : (link spent : Link) (fault : SendFault) (new : KeptDial Dial Link)
      (result : Result HttpReply SendFault)
      → taken ≡ link_to address old.kept → mid ≡ record { dial = old.dial; kept = None }
      → IsReady renews taken ready → ready ≡ Some link
      → IsUnanswered shown text link spent fault → is_idempotent method ≡ true
      → IsSentAnew dials shown address method text mid.dial new result
      → IsSentKept dials renews shown address method text old new result
  sent-again link spent fault new result taken_is mid_is is_ready ready_is nothing is sent =
      again link spent fault
      (subst (λ k. IsReady renews k (Some link)) taken_is
      (subst (λ r. IsReady renews taken r) ready_is is_ready))
      nothing is
      (subst (λ d. IsSentAnew dials shown address method text d new result)
      (ap (λ k. k.dial) mid_is) sent)

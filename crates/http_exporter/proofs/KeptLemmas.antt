-- Attempts over a link that is kept.
use Rattle.std.proofs.Common.{◌≡◌, ℕ, Bool, false, List, if◌then◌else◌, refl, sym, ap, subst, ◌∙◌}
use Rattle.std.proofs.Common.{Option, Some, None}
use Rattle.model_desk.specs.Retries.{Outcome, no_reply}
use Rattle.otlp_http.specs.Request.{text_in}
use Rattle.otlp_http.specs.declared.request.Connection.TheVariants.{KeepAlive}
use Rattle.http_exporter.specs.declared.failure.Failure.{Failure}
use Rattle.http_exporter.specs.declared.failure.Failure.TheVariants.{NoConnection}
use Rattle.http_exporter.specs.Attempts.{Exporting, Shown}
use Rattle.http_exporter.specs.Failures.{IsLast}
use Rattle.http_exporter.specs.Kept.{GetsLink, IsKeptAttempt, IsKeptPost, Keeping, linked, unlinked}

-- only the dial may have changed while the link was looked for, and then none is kept
abbrev pub IsAsked : {Dial Link : Type 0} → Keeping Dial Link → Keeping Dial Link → Type 0
IsAsked old mid =
    mid ≡ record { exporter = record old.exporter { dial = mid.exporter.dial }; link = None }

-- only the last failure may have changed then
abbrev pub IsNoted : {Dial : Type 0} → Exporting Dial → Exporting Dial → Type 0
IsNoted mid after = after ≡ record mid { last_failure = after.last_failure }

-- No link is left where none is kept.
pub none_left : {Dial Link : Type 0} (old mid seen : Keeping Dial Link) (lasts : Bool)
    (spent : Link)
    → seen ≡ mid → IsAsked old mid
    → lasts ≡ false → seen.link ≡ (if lasts then Some spent else None)
none_left old mid seen lasts spent same asked broken =
    rw broken (ap (λ k. k.link) same ∙ ap (λ k. k.link) asked)

module _ {Dial Link : Type 0} (dials : Dial → List ℕ → ℕ → Option Link → Dial → Type 0)
    (renews : Link → Bool → Link → Type 0) (shown : Shown Link) (body : List ℕ) where
  -- An attempt without a link ends as one without a reply, and notes that there was no connection.
  pub no_link : (old mid seen : Keeping Dial Link) (after : Exporting Dial) → seen ≡ mid
      → GetsLink dials renews old mid.exporter.dial None → IsAsked old mid
      → IsNoted seen.exporter after
      → IsLast (Some NoConnection) seen.exporter.last_failure after.last_failure
      → IsKeptAttempt dials renews shown body old
      (record { exporter = after; link = seen.link }) no_reply
  no_link old mid seen after same gets asked noted last =
      let dial_is : mid.exporter.dial ≡ after.dial =
      sym (ap (λ e. e.dial) noted ∙ ap (λ k. k.exporter.dial) same) in
      unlinked (subst (λ d. GetsLink dials renews old d None) dial_is gets) refl
      (ap (λ k. k.link) same ∙ ap (λ k. k.link) asked) last

  -- An attempt over one link, kept or fresh, ends as its post did, and keeps it where it lasts.
  pub one_link : (old mid seen : Keeping Dial Link) (after : Exporting Dial) (got spent : Link)
      (outcome : Outcome)
      (failure : Option Failure) (lasts : Bool) (left : Option Link) → seen ≡ mid
      → GetsLink dials renews old mid.exporter.dial (Some got) → IsAsked old mid
      → IsNoted seen.exporter after
      → IsKeptPost shown seen.exporter.limits seen.exporter.reads_after_a_stop
      (text_in seen.exporter.coding KeepAlive seen.exporter.target body) got spent outcome failure
      lasts
      → IsLast failure seen.exporter.last_failure after.last_failure
      → left ≡ (if lasts then Some spent else None)
      → IsKeptAttempt dials renews shown body old (record { exporter = after; link = left }) outcome
  one_link old mid seen after got spent outcome failure lasts left same gets asked noted posted last
      left_is =
      let dial_is : mid.exporter.dial ≡ after.dial =
      sym (ap (λ e. e.dial) noted ∙ ap (λ k. k.exporter.dial) same) in
      let exporter_is : seen.exporter ≡ record old.exporter { dial = mid.exporter.dial } =
      ap (λ k. k.exporter) same ∙ ap (λ k. k.exporter) asked in
      linked got spent failure lasts
      (subst (λ d. GetsLink dials renews old d (Some got)) dial_is gets)
      (subst (λ e. IsKeptPost shown e.limits e.reads_after_a_stop
      (text_in e.coding KeepAlive e.target body) got spent outcome failure lasts)
      exporter_is posted)
      left_is (subst (λ e. IsLast failure e.last_failure after.last_failure) exporter_is last)

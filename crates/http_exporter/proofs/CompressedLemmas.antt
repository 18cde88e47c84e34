-- An attempt to send the gzip file of a body.
use Rattle.std.proofs.Common.{◌≡◌, sym, ap, ap₂, subst, ◌∙◌, ℕ, List, Bool, true, Option}
use Rattle.std.proofs.Common.{Some}
use Rattle.model_desk.specs.Retries.{Outcome}
use Rattle.otlp_http.specs.declared.request.Coding.{Coding}
use Rattle.otlp_http.specs.declared.request.Coding.TheVariants.{Identity, Gzip}
use Rattle.gzip.specs.Streams.{IsFile}
use Rattle.http_exporter.specs.Compressed.{KeptFile, keeping, IsCompressedAttempt}
use Rattle.http_exporter.specs.Compressed.{in_gzip}

-- what is kept is this body, with its file
kept_is : (kept : Option KeptFile) (pair : KeptFile) (body file : List ℕ) → kept ≡ Some pair
    → kept ≡ keeping body file → pair ≡ record { body = body; file = file }
kept_is kept pair body file e f =
    let both : Some pair ≡ keeping body file = sym e ∙ f in cc

-- The file that is kept of a body was sent.
pub gzip_attempt : {E : Type 0} (attempts : E → List ℕ → Outcome → E → Type 0)
    (coded : E → Coding → E) (body : List ℕ) (exporter spent after : E) (is_on : Bool)
    (old new : Option KeptFile) (pair : KeptFile) (sent : List ℕ) (outcome : Outcome)
    → new ≡ Some pair → is_on ≡ true → (f : List ℕ) × (new ≡ keeping body f)
    → ((f : List ℕ) → is_on ≡ true → old ≡ keeping body f → new ≡ old)
    → sent ≡ pair.file → IsFile sent pair.body
    → attempts (coded exporter Gzip) sent outcome spent → after ≡ coded spent Identity
    → IsCompressedAttempt attempts coded body
    (record { exporter = exporter; is_on = is_on; kept = old })
    (record { exporter = after; is_on = is_on; kept = new }) outcome
gzip_attempt attempts coded body exporter spent after is_on old new pair sent outcome is on of_body
    same file_is is_file sending coded_back =
    let pair_is : pair ≡ record { body = body; file = of_body.0 } =
    kept_is new pair body of_body.0 is of_body.1 in
    let body_is : pair.body ≡ body = ap (λ k. k.body) pair_is in
    let sent_is : sent ≡ of_body.0 = file_is ∙ ap (λ k. k.file) pair_is in
    let kept : new ≡ keeping body sent = of_body.1 ∙ ap (keeping body) (sym sent_is) in
    in_gzip sent spent (subst (λ b. IsFile sent b) body_is is_file) on
    (λ before was.
    let same_file : record { body = body; file = of_body.0 }
    ≡ record { body = body; file = before } =
    kept_is new (record { body = body; file = of_body.0 }) body before of_body.1
    (same before on was ∙ was) in
    sym (ap (λ (k : KeptFile). k.file) same_file) ∙ sym sent_is)
    sending
    (ap₂ (λ e k. record { exporter = e; is_on = is_on; kept = k }) coded_back kept)

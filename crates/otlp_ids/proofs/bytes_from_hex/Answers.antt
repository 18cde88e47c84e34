use Rattle.otlp_ids.proofs.HexText.{IsOk-digits, IsOk-or_bad_digit, bad_digit-or_bad_digit}
use Rattle.otlp_ids.proofs.bytes_from_hex.Goals as goal

pub returns-clause-ok : goal.returns-clause-ok
returns-clause-ok g c =
    let len = c.if-text.false in
    let ok = IsOk-or_bad_digit _ (IsOk-digits _ _ len) in
    rw (c.or.ensures, c.from_hex.ensures) (λ h. (len, ok.0 h), λ both. ok.1 both.1)

pub returns-clause-digit : goal.returns-clause-digit
returns-clause-digit g c =
    let len = c.if-text.false in
    let bad = bad_digit-or_bad_digit _ (IsOk-digits _ _ len) in
    rw (c.or.ensures, c.from_hex.ensures) (λ h. (len, bad.0 h), λ both. bad.1 both.1)

use Rattle.std.proofs.Common.{◌≡◌, ◌∙◌, ◌++◌, [], ◌∷◌, ap, subst}
use Rattle.std.specs.Prelude.{None}
use Rattle.account_book.specs.Accounts.{Replaces}
use Rattle.relay_store.specs.Kept.{remaining_in}
use Rattle.relay_store.specs.Accounts.{closes, new_sent, posts, sends, sent_in, started_with}
use Rattle.relay_store.proofs.Book.{replaced_send, three}
use Rattle.relay_store.proofs.parts.RelayParts.new.Goals as goal

pub new-requires-clause-book : goal.new-requires-clause-book
new-requires-clause-book g c =
    let book : c.open-closes.new.self ≡ three [] new_sent None =
    c.open-closes.ensures.book
    ∙ ap (λ l. l ++ closes None ∷ []) (c.open-sends.ensures.book
    ∙ ap (λ l. l ++ sends new_sent ∷ []) (c.open-poster.ensures.book
    ∙ ap (λ l. l ++ posts [] ∷ []) c.named-book.ensures)) in
    let f =
    replaced_send [] new_sent None new_sent c.record.new.account c.record.new.self
    (subst (λ v. Replaces (three [] new_sent None) v c.record.new.account c.record.new.self)
    c.open-sends.ensures.account
    (subst (λ l. Replaces l c.open-sends.result c.record.new.account c.record.new.self) book
    c.record.ensures.book)) in
    f.new_is
    ∙ ap (λ w. posts [] ∷ w ∷ closes None ∷ [])
    (c.record.ensures.account
    ∙ (ap (λ v. sends (started_with (remaining_in g.D.Device.files c.of-seen.result.value)
    (sent_in v))) c.open-sends.ensures.account
    ∙ ap (λ k. sends (started_with (remaining_in g.D.Device.files k) new_sent)) c.of-seen.ensures))

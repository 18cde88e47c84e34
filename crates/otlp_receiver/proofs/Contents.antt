-- Why there is no content.
use Rattle.std.proofs.Common.{◌≡◌, ℕ, List, None, true, Ok, ap, ◌∙◌, inl, inr}
use Rattle.otlp_serve.specs.Posts.{HttpPost}
use Rattle.otlp_receiver.specs.Contents.{IsNoText, IsPacked, IsUndecoded, coding, coding_in}
use Rattle.otlp_receiver.specs.Contents.{decoded}
use Rattle.otlp_receiver.specs.Contents.{is_json_post, json, of_text, typed}
use Rattle.otlp_receiver.specs.Posts.{IsDenied, IsTurnedAway, refusal_of_post}
use Rattle.otlp_receiver.specs.declared.content.Undecoded.{Undecoded}
use Rattle.otlp_receiver.specs.declared.content.Undecoded.TheVariants as reasons

-- A body that isn't decoded has no content.
pub still_packed : (most : ℕ) (post : HttpPost) (why : Undecoded) → IsPacked most post why
    → IsUndecoded most post why
still_packed most post (reasons.Denied denial) h =
    (coding h.0, ap (typed (is_json_post post)) h.1, h.2)
still_packed most post reasons.OutOfMemory h = inl h

-- A text of JSON that isn't read has no content.
pub unread_text : (most : ℕ) (post : HttpPost) (text : List ℕ) (why : Undecoded)
    → is_json_post post ≡ true → decoded most (coding_in post) post.body ≡ Ok text
    → IsNoText text why → IsUndecoded most post why
unread_text most post text (reasons.Denied denial) is means h = (
  json h.0,
  ap (λ b. typed b (decoded most (coding_in post) post.body)) is ∙ ap (typed true) means
      ∙ ap of_text h.1,
  h.2,
)
unread_text most post text reasons.OutOfMemory is means h = inr is

-- A post that is for a collector and has no content is turned away.
pub turned_away : (most : ℕ) (post : HttpPost) (why : Undecoded) → refusal_of_post post ≡ None
    → IsUndecoded most post why → IsTurnedAway most post why
turned_away most post (reasons.Denied denial) none h = IsDenied.meaningless h.0 none h.1 h.2
turned_away most post reasons.OutOfMemory none h = (none, h)

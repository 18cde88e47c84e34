-- Bodies of JSON are read too.
use Rattle.std.proofs.Common.{◌≡◌, Bool, true, false, ◌&&◌, ◌||◌, not, Option, Some, None}
use Rattle.std.proofs.Common.{refl}
use Rattle.std.specs.Prelude.{if◌then◌else◌}
use Rattle.otlp_serve.specs.Answers.{plain_reply}
use Rattle.otlp_serve.specs.declared.reply.PostReply.{PostReply}
use Rattle.otlp_serve.specs.declared.status.ReplyStatus.TheVariants as statuses
use Rattle.otlp_receiver.specs.Posts.{unless_type}

-- why a request is refused, by three tests
abbrev chain : Bool → Bool → Bool → Option PostReply
chain elsewhere otherwise is_read =
    if elsewhere then Some (plain_reply statuses.NotFound)
    else if otherwise then Some (plain_reply statuses.MethodNotAllowed)
    else if not is_read then Some (plain_reply statuses.UnsupportedMediaType)
    else None

-- A body of JSON isn't refused for its type.
pub read_too : (json protobuf coded elsewhere otherwise : Bool) → (json && coded) ≡ true
    → unless_type (chain elsewhere otherwise (protobuf && coded))
    ≡ chain elsewhere otherwise ((json || protobuf) && coded)
read_too false p c a b e = cc
read_too true p false a b e = cc
read_too true p true true b e = refl
read_too true p true false true e = refl
read_too true true true false false e = refl
read_too true false true false false e = refl

-- Any other body is refused as before.
pub as_before : (json protobuf coded elsewhere otherwise : Bool) → (json && coded) ≡ false
    → chain elsewhere otherwise (protobuf && coded)
    ≡ chain elsewhere otherwise ((json || protobuf) && coded)
as_before false p c a b e = refl
as_before true true false a b e = refl
as_before true false false a b e = refl
as_before true p true a b e = cc

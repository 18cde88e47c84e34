-- A text that went out in two pieces, and the reply to it.
use Rattle.std.proofs.Common.{◌≡◌, ◌⊎◌, ℕ, ◌<◌, List, [], ◌++◌, ap, length, subst, append-nil}
use Rattle.std.proofs.Common.{Bool, Option, Some, None, Result, take}
use Rattle.std.specs.Io.KnownBytes.{Appends, Consumes, Keeps}
use Rattle.httparse.specs.Grammar.{ResponseHead, status_code}
use Rattle.http_wire.specs.Bodies.{IsBody}
use Rattle.http_wire.specs.Devices.{HasFailed, one_more}
use Rattle.http_exporter.specs.Attempts.{IsSent, IsStopped, Shown}
use Rattle.otlp_http.specs.Heads.{fields_of, IsHeadText, LacksHead}
use Rattle.otlp_http.specs.Replies.{framing_of, HttpReply, IsReply, RefusesHead}
use Rattle.http_client.specs.declared.fault.SendFault.{SendFault}
use Rattle.http_client.specs.declared.exchange.Came.{Came}
use Rattle.http_client.specs.declared.exchange.Came.TheVariants as parts
use Rattle.http_client.specs.Exchanges.{IsAnswered, limits_for, none, read, replied}
use Rattle.http_client.specs.KeptLinks.{ComesAfter, ComesTo, silent}

-- two pieces are the text
joined : (head body : List ℕ) → head ++ (body ++ []) ≡ head ++ body
joined head body = ap (λ t. head ++ t) (append-nil body)

module _ {Link : Type 0} (shown : Shown Link) (head body : List ℕ) (old new : Link) where
  -- A head and a body are sent once both are written and no further write has failed.
  pub sent-whole : Appends (shown.contents old) (shown.contents new) (head ++ (body ++ []))
      → shown.failed_writes new ≡ shown.failed_writes old
      → IsSent shown (head ++ body) old new
  sent-whole written counted = record {
    written = subst (Appends (shown.contents old) (shown.contents new)) (joined head body) written;
    counted = counted;
  }

  -- A write that stops within them stops in the text.
  pub stopped-within : (count : ℕ) → count < length (head ++ (body ++ []))
      → Appends (shown.contents old) (shown.contents new) (take count (head ++ (body ++ [])))
      → shown.failed_writes new ≡ one_more (shown.failed_writes old)
      → IsStopped shown (head ++ body) old new
  stopped-within count short written counted = record {
    count = count;
    short = subst (λ t. count < length t) (joined head body) short;
    written =
        subst (λ t. Appends (shown.contents old) (shown.contents new) (take count t))
        (joined head body) written;
    counted = counted;
  }

-- What is consumed of bytes that were kept is consumed of them.
kept-consumes : (old mid new : Option (List ℕ)) (bytes : List ℕ) → Keeps old mid
    → Consumes mid new bytes → Consumes old new bytes
kept-consumes None mid new bytes keeps more = tt
kept-consumes (Some xs) None new bytes keeps more = absurd keeps
kept-consumes (Some xs) (Some ys) new bytes keeps more =
    subst (λ zs. Consumes (Some zs) new bytes) keeps more

-- What a link gives after a look at it is what it gives.
pub answered-after : {Link : Type 0} (shown : Shown Link) (method : List ℕ) (sent mid new : Link)
    (result : Result HttpReply SendFault) (lasts : Bool)
    → Keeps (shown.remaining sent) (shown.remaining mid)
    → shown.failed_reads mid ≡ shown.failed_reads sent
    → IsAnswered shown method mid new result lasts → IsAnswered shown method sent new result lasts
answered-after shown method sent mid new result lasts keeps same (read reply is by_head says) =
    let after : IsReply (limits_for method) (shown.remaining sent) (shown.remaining new)
    (HasFailed (shown.failed_reads sent) (shown.failed_reads new)) reply =
    record {
      interims = is.interims;
      head = is.head;
      taken = is.taken;
      comes = record {
        each = is.comes.each;
        few = is.comes.few;
        taken = kept-consumes _ _ _ _ keeps is.comes.taken;
      };
      valid = is.valid;
      final = is.final;
      kept = is.kept;
      status = is.status;
      wait = is.wait;
      body =
          subst (λ n. IsBody (framing_of (status_code is.head) (fields_of is.head))
          (limits_for method) is.taken (shown.remaining new)
          (HasFailed n (shown.failed_reads new)) reply.body)
          same is.body;
    } in
    read reply after by_head says
answered-after shown method sent mid new result lasts keeps same (none fault is by_head says) =
    none fault
    (record {
      interims = is.interims;
      text = is.text;
      comes = record {
        each = is.comes.each;
        few = is.comes.few;
        taken = kept-consumes _ _ _ _ keeps is.comes.taken;
      };
      cause =
          subst (λ n. LacksHead (limits_for method) is.text (shown.remaining new)
          (HasFailed n (shown.failed_reads new)) fault
          ⊎ ((head : ResponseHead) × IsHeadText (limits_for method) is.text head
          × RefusesHead is.interims head fault))
          same is.cause;
    })
    by_head says

-- What a kept link gives after a text was sent over it is what came of the text.
pub comes-to : {Link : Type 0} (shown : Shown Link) (method text : List ℕ) (old sent new : Link)
    (came : Came) → IsSent shown text old sent → ComesAfter shown method sent new came
    → ComesTo shown method text old new came
comes-to shown method text old sent new (parts.Nothing fault) is after = silent sent is after
comes-to shown method text old sent new (parts.Answer result lasts) is after =
    replied sent is after

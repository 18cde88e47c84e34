-- The data of a chunk, and the CR LF after it.
use Rattle.std.proofs.Common.{◌≡◌, ℕ, ◌-◌, ◌≤◌, List, [], ◌∷◌, ◌++◌, length, replicate, refl, sym}
use Rattle.std.proofs.Common.{ap, subst, ◌∙◌, arith, append_assoc, length-append, Option, Err}
use Rattle.std.proofs.lemmas.List.{length-replicate}
use Rattle.std.specs.Io.KnownBytes.{Consumes}
use Rattle.std.proofs.KnownBytes.{Consumes-trans}
use Rattle.httparse.specs.Ascii.{crlf_bytes}
use Rattle.http_wire.specs.declared.fault.HttpFault.{HttpFault}
use Rattle.http_wire.specs.declared.fault.HttpFault.TheVariants as faults
use Rattle.http_wire.specs.Devices.{HasFailed}
use Rattle.http_wire.specs.Chunks.{MayBecomeData, LacksData}
use Rattle.http_wire.specs.Parses.{IsExactly, IsExpected}

-- Two fronts of one text that have the same length are equal.
pub fronts_same : (a b c d : List ℕ) → length a ≡ length b → a ++ c ≡ b ++ d → (a ≡ b) × (c ≡ d)
fronts_same [] [] c d same e = (refl, e)
fronts_same [] (y ∷ b) c d same e = absurd (omega (arith, same))
fronts_same (x ∷ a) [] c d same e = absurd (omega (arith, same))
fronts_same (x ∷ a) (y ∷ b) c d same e =
    let heads : x ≡ y = cc in
    let tails : a ++ c ≡ b ++ d = cc in
    let rest = fronts_same a b c d (omega (arith, same)) tails in
    (let fronts = rest.0 in cc, rest.1)

-- A text that is no longer than the data can become the data and CR LF.
pub becomes_data : (size : ℕ) (text : List ℕ) → length text ≤ size → MayBecomeData size text
becomes_data size text short =
    let fill = replicate (size - length text) 0 in
    let long = length-append text fill in
    let count : length fill ≡ size - length text = length-replicate (size - length text) 0 in (
      fill ++ crlf_bytes,
      text ++ fill,
      omega (arith, long, count, short),
      sym (append_assoc text fill crlf_bytes),
    )

-- The data, and after it a text that can become CR LF, can become the data and CR LF.
pub becomes_end : (size : ℕ) (front end : List ℕ) → length front ≡ size
    → (more : List ℕ) × (end ++ more ≡ crlf_bytes) → MayBecomeData size (front ++ end)
becomes_end size front end long may =
    (may.0, front, long, append_assoc front end may.0 ∙ ap (λ t. front ++ t) may.1)

-- Where the whole can become the data and CR LF, what comes after the data can become CR LF.
pub end_of : (size : ℕ) (front end : List ℕ) → length front ≡ size
    → MayBecomeData size (front ++ end) → (more : List ℕ) × (end ++ more ≡ crlf_bytes)
end_of size front end long may = (
  may.0,
  (fronts_same front may.1 (end ++ may.0) crlf_bytes (long ∙ sym may.2)
      (sym (append_assoc front end may.0) ∙ may.3)).1,
)

-- Where fewer bytes than the data came, the data didn't come, for that fault.
pub data_lacks : (size : ℕ) (taken : List ℕ) (left : Option (List ℕ)) (failed : Type 0)
    (fault : HttpFault)
    → IsExactly size taken left failed (Err fault) → LacksData size taken left failed fault
data_lacks size taken left failed faults.Ended x =
    let short = x.1 in
    (x.0, becomes_data size taken (omega (arith, short)), omega (arith, short))
data_lacks size taken left failed faults.Device x = let short = x.1 in (x.0, omega (arith, short))
data_lacks size taken left failed faults.OutOfMemory x = x
data_lacks size taken left failed faults.BadChunk x = absurd x
data_lacks size taken left failed faults.BadHead x = absurd x
data_lacks size taken left failed faults.BadLength x = absurd x
data_lacks size taken left failed faults.TooLarge x = absurd x

-- Where no CR came after the data, the data and its CR LF didn't come, for that fault.
pub return_lacks : (size : ℕ) (front taken : List ℕ) (left : Option (List ℕ)) (failed : Type 0)
    (fault : HttpFault)
    → length front ≡ size → IsExpected 13 taken left failed (Err fault)
    → LacksData size (front ++ taken) left failed fault
return_lacks size front taken left failed faults.Ended long x =
    let all = length-append front taken in
    let none = ap length x.1 in (
      x.0,
      becomes_end size front taken long (crlf_bytes, ap (λ t. t ++ crlf_bytes) x.1),
      omega (arith, all, none, long),
    )
return_lacks size front taken left failed faults.Device long x =
    let all = length-append front taken in
    let none = ap length x.1 in
    (x.0, omega (arith, all, none, long))
return_lacks size front taken left failed faults.BadChunk long x =
    let all = length-append front taken in
    let one = ap length x.1 in (
      λ may.
          let end = end_of size front taken long may in
          let first : x.0 ∷ end.0 ≡ 13 ∷ 10 ∷ [] = ap (λ t. t ++ end.0) (sym x.1) ∙ end.1 in
          x.2 cc,
      omega (arith, all, one, long),
    )
return_lacks size front taken left failed faults.OutOfMemory long x = absurd x
return_lacks size front taken left failed faults.BadHead long x = absurd x
return_lacks size front taken left failed faults.BadLength long x = absurd x
return_lacks size front taken left failed faults.TooLarge long x = absurd x

-- Where no line feed came after the data and CR, the data and its CR LF didn't come, for that
-- fault.
pub feed_lacks : (size : ℕ) (front taken : List ℕ) (left : Option (List ℕ)) (failed : Type 0)
    (fault : HttpFault)
    → length front ≡ size → IsExpected 10 taken left failed (Err fault)
    → LacksData size (front ++ (13 ∷ taken)) left failed fault
feed_lacks size front taken left failed faults.Ended long x =
    let all = length-append front (13 ∷ taken) in
    let none = ap length x.1 in (
      x.0,
      becomes_end size front (13 ∷ taken) long (10 ∷ [], ap (λ t. 13 ∷ t ++ 10 ∷ []) x.1),
      omega (arith, all, none, long),
    )
feed_lacks size front taken left failed faults.Device long x =
    let all = length-append front (13 ∷ taken) in
    let none = ap length x.1 in
    (x.0, omega (arith, all, none, long))
feed_lacks size front taken left failed faults.BadChunk long x =
    let all = length-append front (13 ∷ taken) in
    let one = ap length x.1 in (
      λ may.
          let end = end_of size front (13 ∷ taken) long may in
          let first : 13 ∷ x.0 ∷ end.0 ≡ 13 ∷ 10 ∷ [] =
          ap (λ t. 13 ∷ t ++ end.0) (sym x.1) ∙ end.1 in
          x.2 cc,
      omega (arith, all, one, long),
    )
feed_lacks size front taken left failed faults.OutOfMemory long x = absurd x
feed_lacks size front taken left failed faults.BadHead long x = absurd x
feed_lacks size front taken left failed faults.BadLength long x = absurd x
feed_lacks size front taken left failed faults.TooLarge long x = absurd x

-- Where a reader gave the data without a failure and then no CR, the data and its CR LF didn't
-- come, for that fault.
pub return_came : (old mid new : Option (List ℕ)) (size : ℕ) (front taken : List ℕ)
    (first before after : ℕ) (fault : HttpFault)
    → Consumes old mid front → length front ≡ size → before ≡ first
    → Consumes mid new taken → IsExpected 13 taken new (HasFailed before after) (Err fault)
    → Consumes old new (front ++ taken)
    × LacksData size (front ++ taken) new (HasFailed first after) fault
return_came old mid new size front taken first before after fault consumes long same more x = (
  Consumes-trans old mid new front taken consumes more,
  return_lacks size front taken new _ fault long
      (subst (λ f. IsExpected 13 taken new (HasFailed f after) (Err fault)) same x),
)

-- Where a reader gave the data and CR without a failure and then no line feed, the data and its CR
-- LF didn't come, for that fault.
pub feed_came : (old mid later new : Option (List ℕ)) (size : ℕ) (front return taken : List ℕ)
    (first before after : ℕ) (fault : HttpFault)
    → Consumes old mid front → length front ≡ size → Consumes mid later return → return ≡ 13 ∷ []
    → before ≡ first
    → Consumes later new taken → IsExpected 10 taken new (HasFailed before after) (Err fault)
    → Consumes old new (front ++ (13 ∷ taken))
    × LacksData size (front ++ (13 ∷ taken)) new (HasFailed first after) fault
feed_came old mid later new size front return taken first before after fault consumes long
    then is same more x =
    let end : Consumes mid new (13 ∷ taken) =
    Consumes-trans mid later new (13 ∷ []) taken (subst (Consumes mid later) is then) more in (
      Consumes-trans old mid new front (13 ∷ taken) consumes end,
      feed_lacks size front taken new _ fault long
          (subst (λ f. IsExpected 10 taken new (HasFailed f after) (Err fault)) same x),
    )

-- A reader that gave the data, a CR and a line feed in three steps has given the data and CR LF.
pub end_came : (old mid later new : Option (List ℕ)) (front return feed : List ℕ)
    → Consumes old mid front → Consumes mid later return → return ≡ 13 ∷ []
    → Consumes later new feed → feed ≡ 10 ∷ []
    → Consumes old new (front ++ crlf_bytes)
end_came old mid later new front return feed consumes then is more also =
    Consumes-trans old mid new front crlf_bytes consumes
    (Consumes-trans mid later new (13 ∷ []) (10 ∷ []) (subst (Consumes mid later) is then)
    (subst (Consumes later new) also more))

-- A text that goes out in two pieces.
use Rattle.std.proofs.Common.{◌≡◌, ◌⊎◌, inl, inr, ℕ, ◌+◌, ◌-◌, ◌<◌, ◌≤◌, List, ◌++◌, length, take}
use Rattle.std.proofs.Common.{drop, refl, sym, ap, subst, ◌∙◌, arith, length-append}
use Rattle.std.proofs.Common.{append-nil, take-append-drop}
use Rattle.std.proofs.lemmas.List.{length-drop, drop_at, drop-drop}
use Rattle.std.proofs.Math.Seq.{take-length}
use Rattle.std.specs.Prelude.{decimal, []}
use Rattle.std.specs.Io.KnownBytes.{Appends}
use Rattle.otlp_http.specs.Address.{Address}
use Rattle.http_wire.specs.Devices.{one_more}
use Rattle.otlp_http.specs.Fields.{field_lines}
use Rattle.otlp_http.specs.Request.{coding_line, connection_line, head_in, gzip_head}
use Rattle.otlp_http.specs.Request.{kept_head, request_head}
use Rattle.otlp_http.specs.declared.request.Coding.{Coding}
use Rattle.otlp_http.specs.declared.request.Coding.TheVariants.{Identity, Gzip}
use Rattle.otlp_http.specs.declared.request.Connection.{Connection}
use Rattle.otlp_http.specs.declared.request.Connection.TheVariants.{Close, KeepAlive}
use Rattle.http_exporter.specs.Attempts.{Shown, IsSent, IsStopped}

-- The head of a request has this length.
pub length-head_in : (coding : Coding) (connection : Connection) (address : Address) (size : ℕ)
    → length (head_in coding connection address size)
    ≡ 83
    + (length address.path
    + (length address.host
    + (length (decimal address.port)
    + (length (decimal size)
    + (length (coding_line coding)
    + (length (connection_line connection) + length (field_lines address.fields)))))))
unfolding request_head kept_head gzip_head
length-head_in Identity Close address size = simp length-append (omega arith)
length-head_in Identity KeepAlive address size = simp length-append (omega arith)
length-head_in Gzip Close address size = simp length-append (omega arith)
length-head_in Gzip KeepAlive address size = simp length-append (omega arith)

-- A first piece that has the whole head leaves the rest of the body as the second piece.
pub rest_of_body : (head body front : List ℕ) → front ≡ take (length front) (head ++ body)
    → length head ≤ length front
    → head ++ body ≡ front ++ drop (length front - length head) body
rest_of_body head body front is reaches =
    let n = length front in
    let past : drop n (head ++ body) ≡ drop (n - length head) body =
    ap (λ m. drop m (head ++ body)) (omega (arith, reaches))
    ∙ sym (drop-drop (n - length head) (length head) (head ++ body))
    ∙ ap (drop (n - length head)) (drop_at head body (length head) refl) in
    sym (take-append-drop n (head ++ body)) ∙ ap (λ l. l ++ drop n (head ++ body)) (sym is)
    ∙ ap (λ l. front ++ l) past

-- two pieces are the text
joined : (text front rest : List ℕ) → text ≡ front ++ rest → front ++ (rest ++ []) ≡ text
joined text front rest is = ap (λ t. front ++ t) (append-nil rest) ∙ sym is

module _ {Link : Type 0} {shown : Shown Link} (text front rest : List ℕ) (old new : Link)
    (is : text ≡ front ++ rest) where
  -- A text is sent once its two pieces are.
  pub sent_both : Appends (shown.contents old) (shown.contents new) (front ++ (rest ++ []))
      → shown.failed_writes new ≡ shown.failed_writes old → IsSent shown text old new
  sent_both written counted = record {
    written =
        subst (Appends (shown.contents old) (shown.contents new)) (joined text front rest is)
        written;
    counted = counted;
  }

  -- A write that stops within its two pieces stops in the text.
  pub stopped_within : (count : ℕ) → count < length (front ++ (rest ++ []))
      → Appends (shown.contents old) (shown.contents new) (take count (front ++ (rest ++ [])))
      → shown.failed_writes new ≡ one_more (shown.failed_writes old)
      → IsStopped shown text old new
  stopped_within count short written counted = record {
    count = count;
    short = subst (λ t. count < length t) (joined text front rest is) short;
    written =
        subst (λ t. Appends (shown.contents old) (shown.contents new) (take count t))
        (joined text front rest is) written;
    counted = counted;
  }

-- A front that has all of the text, or is full, has the whole head, where there is room for it.
pub reaches : (head body front : List ℕ) (size failures : ℕ) → size ≡ length head → size ≤ 1024
    → (front ≡ head ++ body) ⊎ (0 < failures) → (failures ≡ 0) ⊎ (length front ≡ 1024)
    → length head ≤ length front
reaches head body front size failures is room (inl whole) full =
    let all = ap length whole ∙ length-append head body in omega (arith, all)
reaches head body front size failures is room (inr failed) (inl none) =
    absurd (omega (arith, failed, none))
reaches head body front size failures is room (inr failed) (inr full) =
    omega (arith, is, room, full)

-- A text is its front, and the slice of the body after what the front has of it.
pub front_and_rest : (head body taken front : List ℕ) (size failures : ℕ) → size ≡ length head
    → size ≤ 1024
    → taken ≡ take (length taken) (head ++ body) → (taken ≡ head ++ body) ⊎ (0 < failures)
    → front ≡ taken
    → (failures ≡ 0) ⊎ (length front ≡ 1024)
    → head ++ body
    ≡ front ++ take (length body - (length front - size)) (drop (length front - size) body)
front_and_rest head body taken front size failures is room beginning whole same full =
    let beginning' : front ≡ take (length front) (head ++ body) =
    subst (λ t. t ≡ take (length t) (head ++ body)) (sym same) beginning in
    let enough =
    reaches head body front size failures is room
    (subst (λ t. (t ≡ head ++ body) ⊎ (0 < failures)) (sym same) whole) full in
    let rest = rest_of_body head body front beginning' enough in
    let n = length front - size in
    let slice : take (length body - n) (drop n body) ≡ drop n body =
    subst (λ m. take m (drop n body) ≡ drop n body) (length-drop n body)
    (take-length (drop n body)) in
    rest ∙ ap (λ m. front ++ drop (length front - m) body) (sym is)
    ∙ ap (λ l. front ++ l) (sym slice)

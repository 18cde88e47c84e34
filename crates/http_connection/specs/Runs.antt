-- What a connection does with its service, and the bytes that it puts out for it.
use Rattle.std.specs.Prelude.{◌≡◌, ℕ, ◌≤◌, ◌⊎◌, Bool, false, List, [], ◌∷◌, ◌++◌, length}
use Rattle.std.specs.Prelude.{flat_map, Option, Some, None, if◌then◌else◌}
use Rattle.http.specs.declared.request.Parts.{Parts}
use Rattle.http.specs.declared.request.Request.{Request}
use Rattle.http.specs.Request.{body_of, head_of}
use Rattle.http1.specs.declared.server.Server.{Server}
use Rattle.http1.specs.Framing.{method_kind}
use Rattle.http1.specs.Server as http1
use Rattle.http_server.specs.declared.response.Response.{Response}
use Rattle.http_server.specs.Encoding.{final_text}
use Rattle.http_connection.specs.Texts.{continue_text, refusal_text, opening_text, piece_text}
use Rattle.http_connection.specs.Turns.{Turn, Admitted, Rejected, Answered, Refused}

-- it awaits a request, has let one in by this head and kept this part of its body, writes the
-- rest of an answer by pieces, or is over: it answers nothing more
pub data Place (P : Type 0) : Type 0 where
  Awaits : Place P
  Takes : Parts → List ℕ → Place P
  Writes : P → Place P
  Over : Place P

-- the service did this, with the bytes that were put out for it; more of a body was kept; or the
-- pieces of an answer went on from one state to another with these bytes, with what was put out
pub data Act (P : Type 0) : Type 0 where
  Took : Turn P → List ℕ → Act P
  Kept : List ℕ → Act P
  Wrote : P → List ℕ → Bool → P → List ℕ → Act P

-- the bytes that were put out
abbrev pub text_of : {P : Type 0} → Act P → List ℕ
text_of (Took turn text) = text
text_of (Kept piece) = []
text_of (Wrote old piece more new text) = text

-- those of several
abbrev pub texts_of : {P : Type 0} → List (Act P) → List ℕ
texts_of acts = flat_map text_of acts

-- the method is `HEAD`
abbrev pub asks_head : Request (List ℕ) → Bool
asks_head r = http1.is_head (method_kind (head_of r).method)

-- the pieces of an answer that was begun; to `HEAD` none goes out
abbrev pub place_after : {P : Type 0} → Bool → Option P → Place P
place_after head None = Awaits
place_after head (Some p) = if head then Awaits else Writes p

-- the bytes that begin an answer: the whole of it, or what comes before its pieces
abbrev pub answer_text : {P : Type 0} → Request (List ℕ) → Response → Option P → Server → List ℕ
answer_text request r None s = final_text (asks_head request) s r
answer_text request r (Some p) s = opening_text (asks_head request) s r

-- a request is awaited or was let in
abbrev pub IsOpen : {P : Type 0} → Place P → Type 0
IsOpen Awaits = Unit {0}
IsOpen (Takes head body) = Unit {0}
IsOpen (Writes p) = ⊥
IsOpen Over = ⊥

-- the bytes for a turn of the service, from one place to the next, where a body has at most this
-- many bytes
abbrev pub IsPutOut : {P : Type 0} → ℕ → Place P → Turn P → List ℕ → Place P → Type 0
IsPutOut most place (Admitted head) text after =
    (place ≡ Awaits) × (after ≡ Takes (head_of head) []) × ((text ≡ []) ⊎ (text ≡ continue_text))
IsPutOut most place (Rejected head r) text after =
    (place ≡ Awaits) × (after ≡ Over) × (text ≡ refusal_text (asks_head head) r)
IsPutOut most place (Answered request r pieces) text after =
    (place ≡ Takes (head_of request) (body_of request))
    × (after ≡ place_after (asks_head request) pieces)
    × (length (body_of request) ≤ most)
    × ((s : Server) × (text ≡ answer_text request r pieces s))
IsPutOut most place (Refused why r) text after =
    IsOpen place × (after ≡ Over) × ((head : Bool) × (text ≡ refusal_text head r))

-- the piece is the next of what these pieces write, and where no more follow, that is all
pub record IsPiece {P : Type 0} (writes : P → List ℕ → Type 0) (old : P) (piece : List ℕ)
    (more : Bool) (new : P) : Type 0 where
  pub goes_on : (rest : List ℕ) → writes new rest → writes old (piece ++ rest)
  pub ends : more ≡ false → writes new []

-- one act, from a state of the service and a place to the next ones
abbrev pub Does : {S P : Type 0} → (S → Turn P → S → Type 0) → (P → List ℕ → Type 0) → ℕ
    → S → Place P → Act P → S → Place P → Type 0
Does answers writes most s place (Took turn text) t after =
    answers s turn t × IsPutOut most place turn text after
Does answers writes most s place (Kept piece) t after =
    (t ≡ s)
    × ((head : Parts) × (body : List ℕ) × (place ≡ Takes head body)
    × (after ≡ Takes head (body ++ piece)))
Does answers writes most s place (Wrote old piece more new text) t after =
    (place ≡ Writes old) × (t ≡ s) × (after ≡ (if more then Writes new else Awaits))
    × IsPiece writes old piece more new
    × ((server : Server) × (text ≡ piece_text more server piece))

-- The acts lead from one state and place to another, one after another. Only at the end may the
-- connection be over besides.
abbrev pub Chain : {S P : Type 0} → (S → Turn P → S → Type 0) → (P → List ℕ → Type 0) → ℕ
    → S → Place P → List (Act P) → S → Place P → Type 0
Chain answers writes most s place [] t after = (t ≡ s) × ((after ≡ place) ⊎ (after ≡ Over))
Chain {S} {P} answers writes most s place (act ∷ acts) t after =
    (m : S) × (p : Place P) × Does answers writes most s place act m p
    × Chain answers writes most m p acts t after

-- From one state of the service, place and bytes that wait, to another: by acts of which the bytes
-- were added, unless memory was refused.
pub record Runs {S P : Type 0} (answers : S → Turn P → S → Type 0) (writes : P → List ℕ → Type 0)
    (most : ℕ) (s : S) (place : Place P) (before : List ℕ) (t : S) (after : Place P)
    (now : List ℕ) (aborted : Bool) : Type 0 where
  pub acts : List (Act P)
  pub chain : Chain answers writes most s place acts t after
  pub text : aborted ≡ false → now ≡ before ++ texts_of acts

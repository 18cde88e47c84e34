-- How spans that are lost are listed, in JSON. (profile)
use Rattle.std.specs.Prelude.{ℕ, List, [], ◌∷◌, ◌++◌, codes}
use Rattle.std.specs.List.{flat_map}
use Rattle.json.specs.Token.{Token, begin_array, begin_object, end_array, end_object, key}
use Rattle.model_body.specs.Names.{LostSpan as LostName}
use Rattle.model_desk.specs.Retries.{Fate}
use Rattle.otlp_json.specs.Seen.{hex_member, number_member, text_member}

-- why a span was lost, in a word
abbrev pub reason_of : Fate → List ℕ
reason_of (Fate.refused status) = codes "refused"
reason_of Fate.bad_reply = codes "bad-reply"
reason_of Fate.given_up = codes "attempts"
reason_of _ = codes "abandoned"

-- with which status a span was refused, where it was
abbrev pub status_member : Fate → List Token
status_member (Fate.refused status) = number_member (codes "status") status
status_member _ = []

-- a lost span
unfoldable pub lost_tokens : LostName → List Token
lost_tokens lost = begin_object ∷ (hex_member (codes "traceId") lost.trace
    ++ hex_member (codes "spanId") lost.span
    ++ text_member (codes "reason") (reason_of lost.fate)
    ++ status_member lost.fate ++ end_object ∷ [])

-- the list of them
unfoldable pub list_tokens : List LostName → List Token
list_tokens spans = begin_object ∷ key (codes "lost") ∷ begin_array
    ∷ (flat_map lost_tokens spans ++ end_array ∷ end_object ∷ [])

-- A thing that is lacking lacks for one cause, and trailers that are there aren't lacking.
use Rattle.std.proofs.Common.{◌≡◌, ◌≢◌, ℕ, Bool, ◌+◌, ◌<◌, ◌≤◌, ◌⊎◌, List, [], ◌∷◌, ◌++◌, length}
use Rattle.std.proofs.Common.{refl, sym, ap, subst, ◌∙◌, inl, inr, true, false, arith, append_assoc}
use Rattle.std.proofs.Common.{append-nil, length-append, Some}
use Rattle.std.proofs.lemmas.Bool.{cases_lt, cond-false, false≢true, ne_eqb}
use Rattle.std.specs.Prelude.{All}
use Rattle.std.specs.List.{flat_map}
use Rattle.std.proofs.lemmas.List.Elements.{All-head, All-tail}
use Rattle.httparse.specs.Grammar.{LineEnd, crlf, lf, print_end, Field, IsField, print_field}
use Rattle.httparse.specs.Grammar.{is_token_byte, is_value_byte, AllPass, NeverHasSection}
use Rattle.httparse.specs.Grammar.{MayBecomeSection}
use Rattle.httparse.proofs.GrammarLemmas.{cons-append}
use Rattle.http_wire.specs.declared.fault.HttpFault.{HttpFault}
use Rattle.http_wire.specs.declared.fault.HttpFault.TheVariants as faults
use Rattle.http_wire.specs.declared.limits.HeadLimits.{HeadLimits}
use Rattle.http_wire.specs.Chunks.{Trailers, print_trailers, IsTrailers, HasNoTrailers}
use Rattle.http_wire.specs.Chunks.{LacksTrailers, ended_lines}
use Rattle.http_wire.proofs.ChunkLemmas.{ended_lines-append, trailers_end}
use Rattle.law_export.proofs.Lacks.{front_of}

-- Something is lacking: the bytes ended in a text that it can begin with, or it can't begin with
-- the text.
pub data Lacking (Open Bad : List ℕ → Type 0) (text left : List ℕ)
    (fault : HttpFault) : Type 0 where
  ended : fault ≡ faults.Ended → left ≡ [] → Open text → Lacking Open Bad text left fault
  bad : fault ≡ faults.BadChunk → Bad text → Lacking Open Bad text left fault

-- The bytes ended in no text that has a bad front.
ended_not : (Open Bad : List ℕ → Type 0)
    → ((front rest : List ℕ) → Bad front → Open (front ++ rest) → ⊥)
    → (text left front rest : List ℕ) → left ≡ [] → Open text → Bad front
    → text ++ left ≡ front ++ rest → ⊥
ended_not Open Bad clash text left front rest none unfinished never e =
    clash front rest never
    (subst Open (sym (append-nil text) ∙ ap (λ l. text ++ l) (sym none) ∙ e) unfinished)

-- The same bytes lack a thing for one cause.
pub lacking_one : (Open Bad : List ℕ → Type 0)
    → ((front rest : List ℕ) → Bad front → Open (front ++ rest) → ⊥)
    → (text left other_text other_left : List ℕ) (fault other : HttpFault)
    → Lacking Open Bad text left fault → Lacking Open Bad other_text other_left other
    → text ++ left ≡ other_text ++ other_left → other ≡ fault
lacking_one Open Bad clash text left other_text other_left fault other (ended is _ _)
    (ended also _ _) e =
    also ∙ sym is
lacking_one Open Bad clash text left other_text other_left fault other (ended is none unfinished)
    (bad _ never) e =
    absurd (ended_not Open Bad clash text left other_text other_left none unfinished never e)
lacking_one Open Bad clash text left other_text other_left fault other (bad _ never)
    (ended _ none unfinished) e =
    absurd (ended_not Open Bad clash other_text other_left text left none unfinished never (sym e))
lacking_one Open Bad clash text left other_text other_left fault other (bad is _) (bad also _) e =
    also ∙ sym is

-- ---- trailers

abbrev pub OpenTrailers : HeadLimits → List ℕ → Type 0
OpenTrailers limits text =
    HasNoTrailers limits text × MayBecomeSection text × (length text < limits.head)
    × (ended_lines text ≤ limits.fields)

abbrev pub BadTrailers : HeadLimits → List ℕ → Type 0
BadTrailers limits text =
    HasNoTrailers limits text
    × (NeverHasSection text ⊎ (length text ≡ limits.head) ⊎ (limits.fields < ended_lines text))

-- Trailers lack since the bytes ended or went wrong, if no read failed and no memory was refused.
pub trailers_lacking : (limits : HeadLimits) (text left : List ℕ) (failed : Type 0)
    (fault : HttpFault)
    → LacksTrailers limits text (Some left) failed fault
    → ¬ failed → fault ≢ faults.OutOfMemory
    → Lacking (OpenTrailers limits) (BadTrailers limits) text left fault
trailers_lacking limits text left failed faults.Ended x sound ample =
    ended refl x.0 (x.1, x.2, x.3, x.4)
trailers_lacking limits text left failed faults.Device x sound ample = absurd (sound x.0)
trailers_lacking limits text left failed faults.BadChunk x sound ample = bad refl (x.1, x.2)
trailers_lacking limits text left failed faults.OutOfMemory x sound ample = absurd (ample refl)
trailers_lacking limits text left failed faults.BadHead x sound ample = absurd x
trailers_lacking limits text left failed faults.BadLength x sound ample = absurd x
trailers_lacking limits text left failed faults.TooLarge x sound ample = absurd x

-- A text that went wrong as trailers is no front of a text that trailers can begin with.
pub trailers_clash : (limits : HeadLimits) (front rest : List ℕ) → BadTrailers limits front
    → OpenTrailers limits (front ++ rest) → ⊥
trailers_clash limits front rest never unfinished = elim never.1 [
  | inl none ↦
      let may = unfinished.1 in
      none (rest ++ may.0) may.1 may.2 [] (may.3.0, sym (append_assoc front rest may.0) ∙ may.3.1)
  | inr more ↦ elim more [
    | inl full ↦
        let long = length-append front rest in
        let short = unfinished.2 in
        omega (arith, full, long, short)
    | inr many ↦
        let lines = ended_lines-append front rest in
        let few = unfinished.3 in
        omega (arith, many, lines, few)
  ]
]

-- Bytes that pass a test which a line feed fails end no line.
no_lines : (test : ℕ → Bool) (text : List ℕ) → test 10 ≡ false → AllPass test text
    → ended_lines text ≡ 0
no_lines test [] fails all = refl
no_lines test (b ∷ text) fails all =
    let other : b ≢ 10 =
    λ e. false≢true (sym fails ∙ ap test (sym e) ∙ All-head (λ b. test b ≡ true) b text all) in
    let none = cond-false {A = ℕ} _ 1 0 (ne_eqb b 10 other) in
    let rest = no_lines test text fails (All-tail (λ b. test b ≡ true) b text all) in
    omega (arith, none, rest)

end_line : (end : LineEnd) → ended_lines (print_end end) ≡ 1
end_line crlf = refl
end_line lf = refl

-- A name has no line feed.
token_feed : is_token_byte 10 ≡ false
unfolding is_token_byte
token_feed = refl

-- A field ends one line.
field_line : (field : Field) → IsField field → ended_lines (print_field field) ≡ 1
field_line field valid =
    let parts = ap ended_lines (regroup field.name field.raw (print_end field.end)) in
    let name = ended_lines-append field.name (58 ∷ (field.raw ++ print_end field.end)) in
    let raw = ended_lines-append field.raw (print_end field.end) in
    let end = end_line field.end in
    let in_name = no_lines is_token_byte field.name token_feed valid.name.1 in
    let in_raw = no_lines is_value_byte field.raw refl valid.raw in
    omega (arith, parts, name, raw, end, in_name, in_raw)
  where
    regroup : (a b c : List ℕ) → a ++ 58 ∷ b ++ c ≡ a ++ (58 ∷ (b ++ c))
    regroup a b c = simp (append_assoc, cons-append)

-- Fields end as many lines as they are.
fields_lines : (fields : List Field) → All IsField fields
    → ended_lines (flat_map print_field fields) ≡ length fields
fields_lines [] all = refl
fields_lines (field ∷ fields) all =
    let both = ended_lines-append (print_field field) (flat_map print_field fields) in
    let one = field_line field (All-head IsField field fields all) in
    let rest = fields_lines fields (All-tail IsField field fields all) in
    omega (arith, both, one, rest)

-- Trailers end one line more than they have fields.
trailers_lines : (limits : HeadLimits) (trailers : Trailers) → IsTrailers limits trailers
    → ended_lines (print_trailers trailers) ≡ length trailers.fields + 1
trailers_lines limits trailers valid =
    let both =
    ended_lines-append (flat_map print_field trailers.fields) (print_end trailers.last) in
    let fields = fields_lines trailers.fields valid.valid in
    let last = end_line trailers.last in
    omega (arith, both, fields, last)

-- A text that goes on after a front ends with the last byte of what goes on.
last_goes_on : (front : List ℕ) (more : List ℕ) (b : ℕ) (before : List ℕ)
    → front ++ more ≡ before ++ b ∷ [] → 0 < length more
    → (rest : List ℕ) × (more ≡ rest ++ b ∷ [])
last_goes_on [] more b before e some = (before, e)
last_goes_on (x ∷ front) more b [] e some =
    let size = ap length e in
    let both = length-append front more in
    absurd (omega (arith, size, both, some))
last_goes_on (x ∷ front) more b (y ∷ before) e some =
    let tails : front ++ more ≡ before ++ b ∷ [] = cc in
    last_goes_on front more b before tails some

-- A proper front of trailers has ended no more lines than the trailers have fields.
front_lines : (limits : HeadLimits) (trailers : Trailers) (front more : List ℕ)
    → IsTrailers limits trailers → print_trailers trailers ≡ front ++ more
    → 0 < length more → ended_lines front ≤ length trailers.fields
front_lines limits trailers front more valid e some =
    let end = trailers_end trailers in
    let last = last_goes_on front more 10 end.0 (sym e ∙ end.1) some in
    let all = trailers_lines limits trailers valid in
    let both = ap ended_lines e ∙ ended_lines-append front more in
    let tail = ap ended_lines last.1 ∙ ended_lines-append last.0 (10 ∷ []) in
    omega (arith, all, both, tail)

-- No trailers are where trailers are lacking.
pub trailers_stand : (limits : HeadLimits) (text left : List ℕ) (fault : HttpFault)
    (trailers : Trailers) (rest : List ℕ)
    → Lacking (OpenTrailers limits) (BadTrailers limits) text left fault
    → IsTrailers limits trailers → text ++ left ≡ print_trailers trailers ++ rest → ⊥
trailers_stand limits text left fault trailers rest (ended _ none unfinished) valid e =
    unfinished.0 trailers rest (valid, sym (append-nil text) ∙ ap (λ l. text ++ l) (sym none) ∙ e)
trailers_stand limits text left fault trailers rest (bad _ never) valid e =
    elim (cases_lt (length text) (length (print_trailers trailers))) [
      | inr within ↦
          let front = front_of text left (print_trailers trailers) rest e within in
          never.0 trailers front.0 (valid, front.1)
      | inl over ↦
          let front =
          front_of (print_trailers trailers) rest text left (sym e) (omega (arith, over)) in
          let size = ap length front.1 ∙ length-append text front.0 in
          let bytes = valid.bytes in
          elim never.1 [
            | inl none ↦ none left trailers.fields trailers.last rest (valid.valid, e)
            | inr more ↦ elim more [
              | inl full ↦ omega (arith, full, size, bytes, over)
              | inr many ↦
                  let lines =
                  front_lines limits trailers text front.0 valid front.1
                  (omega (arith, size, over)) in
                  let few = valid.few in
                  omega (arith, lines, few, many)
            ]
          ]
    ]

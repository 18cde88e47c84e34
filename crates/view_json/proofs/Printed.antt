-- What a writer of JSON wrote: tokens that can be printed, so that texts may stand one after
-- another.
use Rattle.std.proofs.Common.{◌≡◌, ◌<◌, refl, sym, ap, ◌∙◌, subst, ℕ, Bool, true, false, List, []}
use Rattle.std.proofs.Common.{◌∷◌, ◌++◌, append_assoc, fold, length, arith, length-append, drop}
use Rattle.std.proofs.Common.{get_or}
use Rattle.std.proofs.lemmas.Bool.{true≢false}
use Rattle.std.proofs.lemmas.List.{map-append}
use Rattle.std.specs.Prelude.{⊤, Option, cond}
use Rattle.std.specs.Float.{Float, binary64}
use Rattle.std.specs.List.{list_any}
use Rattle.fast_float.specs.Parse.{parse_float}
use Rattle.json.specs.Align.{is_good}
use Rattle.json.specs.Lex.{Lexeme, token, comma, colon, lex, between, Place, fresh, after_value}
use Rattle.json.specs.Lex.{after_comma, after_key, begins_colon, may_begin, may_close, if_allowed}
use Rattle.json.specs.Lex.{place_token, punctuate, tokens}
use Rattle.json.specs.Print.{ArePrintable, ArePrintableOrBad, IsPrintable, IsPrintableOrBad, ends}
use Rattle.json.specs.Print.{print, print_from}
use Rattle.json.specs.Token.{Token, begin_object, end_object, begin_array, end_array, key, string}
use Rattle.json.specs.Token.{number, boolean, null, bad}
use Rattle.std.specs.Str.{IsUtf8}
use Rattle.std.proofs.lemmas.Str.{IsUtf8-append, IsUtf8-nil}
use Rattle.json.proofs.Printed.Utf8.{IsUtf8-are_ascii}
use Rattle.json.proofs.Numbered.{ArePrintableOrBad-tokens}
use Rattle.json.proofs.Printed.Tokens.{tokens-print, print_from-append, ends_push}
use Rattle.otlp_json.specs.Seen.{Seen, Other, Number, braces, is_mark, seen, seen_of}
use Rattle.view_json.specs.Pieces.{IsJsonText, IsPieceBetween, comma_if}

-- ---- after a bad token comes none

abbrev EndsAtBad : List Token → Type 0
EndsAtBad [] = ⊤
EndsAtBad (t ∷ ts) = (is_good t ≡ false → ts ≡ []) × EndsAtBad ts

allowed : (b : Bool) (t : Token) (k : Place → List Token) (next : Place) → is_good t ≡ true
    → EndsAtBad (k next) → EndsAtBad (if_allowed b t k next)
allowed true t k next good rest = (λ e. absurd (true≢false (sym good ∙ e)), rest)
allowed false t k next good rest = (λ e. refl, tt)

placed : (p : Place) (t : Token) (b : Bool) (k : Place → List Token)
    → ((n : Place) → EndsAtBad (k n)) → EndsAtBad (place_token p t b k)
placed p begin_object b k h = allowed (may_begin p) begin_object k fresh refl (h fresh)
placed p end_object b k h = allowed (may_close p) end_object k after_value refl (h after_value)
placed p begin_array b k h = allowed (may_begin p) begin_array k fresh refl (h fresh)
placed p end_array b k h = allowed (may_close p) end_array k after_value refl (h after_value)
placed p (key s) b k h = (λ e. refl, tt)
placed p (string s) true k h = allowed (may_begin p) (key s) k after_key refl (h after_key)
placed p (string s) false k h = allowed (may_begin p) (string s) k after_value refl (h after_value)
placed p (number s) b k h = allowed (may_begin p) (number s) k after_value refl (h after_value)
placed p (boolean v) b k h = allowed (may_begin p) (boolean v) k after_value refl (h after_value)
placed p null b k h = allowed (may_begin p) null k after_value refl (h after_value)
placed p bad b k h = (λ e. refl, tt)

ends_at_bad : (ls : List Lexeme) (p : Place) → EndsAtBad (punctuate p ls)
unfolding punctuate
ends_at_bad [] fresh = tt
ends_at_bad [] after_value = tt
ends_at_bad [] after_comma = (λ e. refl, tt)
ends_at_bad [] after_key = (λ e. refl, tt)
ends_at_bad (token t ∷ ls) p = placed p t (begins_colon ls) (λ n. punctuate n ls) (ends_at_bad ls)
ends_at_bad (comma ∷ ls) fresh = (λ e. refl, tt)
ends_at_bad (comma ∷ ls) after_value = ends_at_bad ls after_comma
ends_at_bad (comma ∷ ls) after_comma = (λ e. refl, tt)
ends_at_bad (comma ∷ ls) after_key = (λ e. refl, tt)
ends_at_bad (colon ∷ ls) fresh = (λ e. refl, tt)
ends_at_bad (colon ∷ ls) after_value = (λ e. refl, tt)
ends_at_bad (colon ∷ ls) after_comma = (λ e. refl, tt)
ends_at_bad (colon ∷ ls) after_key = ends_at_bad ls fresh

-- ---- so what is read back and ends well can be printed

printable : (t : Token) → IsPrintableOrBad t → is_good t ≡ true → IsPrintable t
printable begin_object h good = tt
printable end_object h good = tt
printable begin_array h good = tt
printable end_array h good = tt
printable (key s) h good = tt
printable (string s) h good = tt
printable (number s) h good = h
printable (boolean b) h good = tt
printable null h good = tt
printable bad h good = absurd (true≢false (sym good))

not_last : (b : Bool) (ts : List Token) (z : Token) → (b ≡ false → ts ++ z ∷ [] ≡ []) → b ≡ true
not_last true ts z h = refl
not_last false ts z h = absurd (omega (arith, ap length (h refl), length-append ts (z ∷ [])))

all_printable : (ts : List Token) (z : Token) → ArePrintableOrBad (ts ++ z ∷ [])
    → EndsAtBad (ts ++ z ∷ []) → is_good z ≡ true → ArePrintable (ts ++ z ∷ [])
unfolding ArePrintable
all_printable [] z h e good = (printable z h.0 good, tt)
all_printable (t ∷ ts) z h e good =
    (printable t h.0 (not_last (is_good t) ts z e.0), all_printable ts z h.1 e.1 good)

read_back : (ts : List Token) (z : Token) → is_good z ≡ true
    → tokens (print (ts ++ z ∷ [])) ≡ ts ++ z ∷ [] → ArePrintable (ts ++ z ∷ [])
read_back ts z good e =
    let back = tokens (print (ts ++ z ∷ [])) in
    all_printable ts z (subst ArePrintableOrBad e (ArePrintableOrBad-tokens (print (ts ++ z ∷ []))))
    (subst EndsAtBad e (ends_at_bad (lex between (print (ts ++ z ∷ []))) fresh)) good

both_printable : (ts us : List Token) → ArePrintable ts → ArePrintable us → ArePrintable (ts ++ us)
unfolding ArePrintable
both_printable [] us h k = k
both_printable (t ∷ ts) us h k = (h.0, both_printable ts us h.1 k)

-- ---- an object, by what is seen of it

number_is : (b : Bool) (s : List ℕ) (x : Option Float) (u : Token)
    → cond b (Number x) (Other (number s)) ≡ Other u → number s ≡ u
number_is true s x u e = cc
number_is false s x u e = cc

token_is : (t u : Token) → seen_of t ≡ Other u → t ≡ u
token_is begin_object u e = cc
token_is end_object u e = cc
token_is begin_array u e = cc
token_is end_array u e = cc
token_is (key s) u e = cc
token_is (string s) u e = cc
token_is (number s) u e = number_is (list_any is_mark s) s (parse_float binary64 s) u e
token_is (boolean b) u e = cc
token_is null u e = cc
token_is bad u e = cc

first_is : (ts : List Token) (u : Token) (m : List Seen) → seen ts ≡ Other u ∷ m
    → (rest : List Token) × (ts ≡ u ∷ rest)
first_is [] u m e = cc
first_is (t ∷ ts) u m e = (ts, ap (λ y. y ∷ ts) (token_is t u (ap (λ l. get_or l 0 (Other u)) e)))

last_is : (ts : List Token) (m : List Seen) (u : Token) → seen ts ≡ m ++ Other u ∷ []
    → (front : List Token) × (ts ≡ front ++ u ∷ [])
last_is [] [] u e = cc
last_is [] (x ∷ m) u e = cc
last_is (t ∷ []) [] u e = ([], ap (λ y. y ∷ []) (token_is t u (ap (λ l. get_or l 0 (Other u)) e)))
last_is (t ∷ v ∷ ts) [] u e = cc
last_is (t ∷ ts) (x ∷ m) u e =
    let left = last_is ts m u (ap (drop 1) e) in (t ∷ left.0, ap (λ l. t ∷ l) left.1)

after_comma_if : (is_after : Bool) (rest : List Token)
    → print_from is_after (begin_object ∷ rest) ≡ comma_if is_after ++ print (begin_object ∷ rest)
unfolding print_from
after_comma_if true rest = refl
after_comma_if false rest = refl

-- Tokens of an object are written in at least one byte.
pub some_bytes : (ts : List Token) (m : List Seen) → seen ts ≡ braces m → 0 < length (print ts)
unfolding print_from
some_bytes ts m is =
    let begin = first_is ts begin_object (m ++ Other end_object ∷ []) is in
    subst (λ l. 0 < length (print l)) (sym begin.1) (omega arith)

comma_utf8 : (is_after : Bool) → IsUtf8 (comma_if is_after)
comma_utf8 true = IsUtf8-are_ascii (44 ∷ []) refl
comma_utf8 false = IsUtf8-nil

-- what a writer wrote that a reader sees as an object
module _ (is_after : Bool) (ts : List Token) (m : List Seen) (back : tokens (print ts) ≡ ts)
    (is : seen ts ≡ braces m) where
  can_be_printed : ArePrintable ts
  can_be_printed =
      let end = last_is ts (Other begin_object ∷ m) end_object is in
      subst ArePrintable (sym end.1)
      (read_back end.0 end_object refl (subst (λ l. tokens (print l) ≡ l) end.1 back))

  a_value_ends : fold (λ _ t. ends t) is_after ts ≡ true
  a_value_ends =
      let end = last_is ts (Other begin_object ∷ m) end_object is in
      ap (fold (λ _ t. ends t) is_after) end.1 ∙ ends_push is_after end.0 end_object

  has_comma : print_from is_after ts ≡ comma_if is_after ++ print ts
  has_comma =
      let begin = first_is ts begin_object (m ++ Other end_object ∷ []) is in
      ap (print_from is_after) begin.1 ∙ after_comma_if is_after begin.0
      ∙ ap (λ l. comma_if is_after ++ print l) (sym begin.1)

  -- An object, after a comma where one is due, is a piece of a text of more of them.
  pub object_piece : IsUtf8 (print ts) → (left : List Seen)
      → IsPieceBetween (IsJsonText is_after (braces m ++ left)) (IsJsonText true left)
      (comma_if is_after ++ print ts)
  object_piece utf8 left more h = record {
    tokens = ts ++ h.tokens;
    are_printable = both_printable ts h.tokens can_be_printed h.are_printable;
    printed =
        ap (λ l. l ++ more) (sym has_comma)
        ∙ ap (λ l. print_from is_after ts ++ l)
        (h.printed ∙ ap (λ b. print_from b h.tokens) (sym a_value_ends))
        ∙ sym (print_from-append is_after ts h.tokens);
    seen_is =
        map-append seen_of ts h.tokens ∙ ap (λ l. l ++ seen h.tokens) is
        ∙ ap (λ l. braces m ++ l) h.seen_is;
    utf8 =
        IsUtf8-append (comma_if is_after ++ print ts) more
        (IsUtf8-append (comma_if is_after) (print ts) (comma_utf8 is_after) utf8) h.utf8;
  }

then_piece : (P Q R : List ℕ → Type 0) (a b : List ℕ) → IsPieceBetween P Q a → IsPieceBetween Q R b
    → IsPieceBetween P R (a ++ b)
then_piece P Q R a b first then more h =
    subst P (sym (append_assoc a b more)) (first (b ++ more) (then more h))

-- a text that has grown by a piece
pub grown : (P Q R : List ℕ → Type 0) (old new piece : List ℕ) → IsPieceBetween P Q old
    → new ≡ old ++ piece → IsPieceBetween Q R piece → IsPieceBetween P R new
grown P Q R old new piece first is then =
    subst (IsPieceBetween P R) (sym is) (then_piece P Q R old piece first then)

-- the whole text is read
pub whole_read : (what : List Seen) (text : List ℕ) → IsJsonText false what text
    → seen (tokens text) ≡ what
whole_read what text h =
    ap (λ l. seen (tokens l)) h.printed ∙ ap seen (tokens-print h.tokens h.are_printable)
    ∙ h.seen_is

-- What the query of a list asks for. (URL Standard, 5: application/x-www-form-urlencoded)
use Rattle.std.specs.Prelude.{◌≡◌, ℕ, ◌^◌, ◌<◌, ◌⊎◌, nat_lt, if◌then◌else◌, List, [], fold, map}
use Rattle.std.specs.Prelude.{true, length, codes, string_bytes}
use Rattle.std.specs.List.{AllByRecursion}
use Rattle.std.specs.Str.{bytes_eq}
use Rattle.std.specs.Str.Lossy.{utf8_lossy}
use Rattle.std.specs.Str.Parse.{IsNumeral, digits_value, without_leading_plus}
use Rattle.form_urlencoded.specs.Form.{decode, raw_pairs}
use Rattle.trace_lines.specs.declared.filter.Filter.{Filter}

-- a name and a value, decoded; what isn't UTF-8 becomes U+FFFD
abbrev pub decoded : List ℕ × List ℕ → List ℕ × List ℕ
decoded p = (utf8_lossy (decode p.0), utf8_lossy (decode p.1))

-- the names and the values of a query, in order
abbrev pub pairs_of : List ℕ → List (List ℕ × List ℕ)
pairs_of query = map decoded (raw_pairs query)

-- the value of a name in some pairs: that of the last pair with the name, or else the empty text
abbrev pub latest : List ℕ → List ℕ → List ℕ × List ℕ → List ℕ
latest name value p = if bytes_eq p.0 name then p.1 else value

abbrev pub value_in : List ℕ → List (List ℕ × List ℕ) → List ℕ
value_in name pairs = fold (latest name) [] pairs

-- a text is a least duration: it is empty, or digits of a number below 2^64, of which a plus may
-- come first
abbrev pub IsLeast : List ℕ → Type 0
IsLeast text =
    (text ≡ []) ⊎ (IsNumeral 10 (without_leading_plus text)
    × (digits_value 10 (without_leading_plus text) < 2 ^ 64))

-- the least duration that a text says: 0 where it is empty
abbrev pub least_of : List ℕ → ℕ
least_of text = digits_value 10 (without_leading_plus text)

-- a pair is no wrong least duration
abbrev pub IsRightPair : List ℕ × List ℕ → Type 0
IsRightPair p = bytes_eq p.0 (codes "least") ≡ true → IsLeast p.1

-- each pair of a query can be read
abbrev pub IsRightQuery : List ℕ → Type 0
IsRightQuery query = AllByRecursion IsRightPair (pairs_of query)

-- The filter is what these pairs ask for.
pub record AsksFor {A : Type 0} (pairs : List (List ℕ × List ℕ)) (filter : Filter A) : Type 0 where
  pub search_is : string_bytes filter.search ≡ value_in (codes "q") pairs
  pub after_is : string_bytes filter.after ≡ value_in (codes "after") pairs
  pub service_is : string_bytes filter.service ≡ value_in (codes "service") pairs
  pub name_is : string_bytes filter.name ≡ value_in (codes "name") pairs
  pub least_is : filter.least_ms ≡ least_of (value_in (codes "least") pairs)
  pub errors_are : filter.errors_only ≡ nat_lt 0 (length (value_in (codes "errors") pairs))

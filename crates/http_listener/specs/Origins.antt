-- Origins as texts. (RFC 6454, section 6.2; Fetch standard, "Origin" header)
use Rattle.std.specs.Prelude.{ℕ, ◌==◌, ◌&&◌, ◌||◌, nat_lt, bytes_eq, Bool, List, codes, length}
use Rattle.std.specs.Prelude.{take, drop}
use Rattle.std.specs.Char.{is_ascii_alphanumeric}
use Rattle.std.specs.List.{list_all, list_any}

-- A byte of a host and its port: a letter, a digit, `-`, `.`, `:`, `[`, `]` or `_`. (RFC 3986,
-- section 3.2.2)
abbrev pub is_host_byte : ℕ → Bool
is_host_byte b = is_ascii_alphanumeric b
    || (b == 45 || (b == 46 || (b == 58 || (b == 91 || (b == 93 || b == 95)))))

abbrev pub is_host : List ℕ → Bool
is_host host = nat_lt 0 (length host) && list_all is_host_byte host

-- the text is this beginning, and a host
abbrev pub is_host_after : List ℕ → List ℕ → Bool
is_host_after front text =
    bytes_eq (take (length front) text) front && is_host (drop (length front) text)

-- The text is the origin of a page: its scheme, `http` or `https`, and its host, with a port if it
-- isn't the scheme's own, without a path. (RFC 6454, section 6.2; only these two schemes: profile)
abbrev pub is_origin : List ℕ → Bool
is_origin text = is_host_after (codes "https://") text || is_host_after (codes "http://") text

-- One of the origins is this one. They are compared byte by byte, as browsers write them. (RFC
-- 6454, section 6.2)
abbrev pub has_origin : List (List ℕ) → List ℕ → Bool
has_origin origins origin = list_any (λ known. bytes_eq known origin) origins

-- What the path of a request names. (profile)
use Rattle.std.specs.Prelude.{◌≡◌, ℕ, if◌then◌else◌, List, [], ◌++◌, length, codes, bytes_eq}
use Rattle.std.specs.Prelude.{Ok, Option, Some, None}
use Rattle.std.specs.List.{AllPass}
use Rattle.hex.specs.Hex.{decode_of, is_hex_digit}
use Rattle.otlp_ids.specs.declared.TraceId.{TraceId}
use Rattle.view_service.specs.declared.route.Route.{Route}
use Rattle.view_service.specs.declared.route.Route.TheVariants as routes

-- the paths that are always the same
unfoldable pub fixed_route : List ℕ → Option Route
fixed_route path =
    if bytes_eq path (codes "/") then Some routes.List
    else if bytes_eq path (codes "/style.css") then Some routes.Style
    else if bytes_eq path (codes "/view.js") then Some routes.Script
    else if bytes_eq path (codes "/healthz") then Some routes.Health
    else if bytes_eq path (codes "/metrics") then Some routes.Metrics
    else if bytes_eq path (codes "/api/traces") then Some routes.ApiTraces
    else if bytes_eq path (codes "/api/stats") then Some routes.ApiStats
    else None

-- 32 hexadecimal digits, in either case
abbrev pub AreTraceDigits : List ℕ → Type 0
AreTraceDigits digits = (length digits ≡ 32) × AllPass is_hex_digit digits

-- the path is this, the digits of a trace, and this
pub record NamesTrace (front end path : List ℕ) (trace : TraceId) : Type 0 where
  pub digits : List ℕ
  pub is : path ≡ front ++ (digits ++ end)
  pub are_digits : AreTraceDigits digits
  pub spells : decode_of digits ≡ Ok trace.0

-- it isn't so
abbrev pub NamesNone : List ℕ → List ℕ → List ℕ → Type 0
NamesNone front end path =
    (digits : List ℕ) → path ≡ front ++ (digits ++ end) → ¬ AreTraceDigits digits

-- no path that has a trace's digits
pub record NamesNoTrace (path : List ℕ) : Type 0 where
  pub page : NamesNone (codes "/trace/") [] path
  pub text : NamesNone (codes "/trace/") (codes ".txt") path
  pub api : NamesNone (codes "/api/trace/") [] path

-- the path names this
pub data Names (path : List ℕ) (route : Route) : Type 0 where
  fixed : fixed_route path ≡ Some route → Names path route
  page : (trace : TraceId) → NamesTrace (codes "/trace/") [] path trace
      → route ≡ routes.Trace trace → Names path route
  text : (trace : TraceId) → NamesTrace (codes "/trace/") (codes ".txt") path trace
      → route ≡ routes.TraceText trace → Names path route
  api : (trace : TraceId) → NamesTrace (codes "/api/trace/") [] path trace
      → route ≡ routes.ApiTrace trace → Names path route
  unknown : fixed_route path ≡ None → NamesNoTrace path → route ≡ routes.Unknown
      → Names path route

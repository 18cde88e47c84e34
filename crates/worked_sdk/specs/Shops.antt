-- Where the request of the examples goes, and what it carries.
use Rattle.std.specs.Prelude.{ℕ, List, [], ◌∷◌, codes, false, None, Result}
use Rattle.http_wire.specs.declared.fault.HttpFault.{HttpFault}
use Rattle.model_span.specs.Spans.{Context}
use Rattle.otlp_http.specs.Address.{Address}
use Rattle.otlp_http.specs.Replies.{HttpReply}
use Rattle.http_client.specs.Requests.{Request}

-- a shop, and a path with a query
abbrev pub shop : Address
shop = record {
  host = codes "shop.example";
  port = 8080;
  path = codes "/items?page=2";
  fields = [];
}

-- a span's context: a sampled one, with a trace state
abbrev pub context : Context
context = record {
  trace = 0x4b ∷ 0xf9 ∷ 0x2f ∷ 0x35 ∷ 0x77 ∷ 0xb3 ∷ 0x4d ∷ 0xa6 ∷ 0xa3 ∷ 0xce ∷ 0x92 ∷ 0x9d
      ∷ 0x0e ∷ 0x0e ∷ 0x47 ∷ 0x36 ∷ [];
  span = 0x00 ∷ 0xf0 ∷ 0x67 ∷ 0xaa ∷ 0x0b ∷ 0xa9 ∷ 0x02 ∷ 0xb7 ∷ [];
  flags = 1;
  remote = false;
  state = codes "shop=7";
}

-- a reply of this status, with this body
abbrev pub replied : ℕ → Result (List ℕ) HttpFault → HttpReply
replied status body = record { status = status; retry_after = None; body = body }

-- a request with two fields and a body
abbrev pub order : Request
order = record {
  method = codes "POST";
  fields = (codes "Content-Type", codes "text/plain") ∷ (codes "X-Shop", codes "7") ∷ [];
  body = codes "two teas";
}

-- a request of this method without fields and without a body
abbrev pub bare : List ℕ → Request
bare method = record { method = method; fields = []; body = [] }

-- In what an answer is written, and the fields that say so. (RFC 9110, section 8.3; Content
-- Security Policy Level 3; Referrer Policy; which fields: profile)
use Rattle.std.specs.Prelude.{ℕ, List, [], ◌∷◌, ◌++◌, codes}
use Rattle.http1.specs.Fields.{Header}
use Rattle.otlp_receiver.specs.declared.reply.format.Format.{Format}
use Rattle.otlp_receiver.specs.declared.reply.format.Format.TheVariants as formats

abbrev pub type_of : Format → List ℕ
type_of formats.Html = codes "text/html; charset=utf-8"
type_of formats.Css = codes "text/css; charset=utf-8"
type_of formats.JavaScript = codes "text/javascript; charset=utf-8"
type_of formats.Text = codes "text/plain; charset=utf-8"
type_of formats.Json = codes "application/json"
type_of formats.Prometheus = codes "text/plain; version=0.0.4; charset=utf-8"
type_of formats.Protobuf = codes "application/x-protobuf"

-- What a page may load and do: no more than the style and the script of this service, and the
-- styles that are in its own markup, by which it places its bars. No page of another site may frame
-- it, and no markup may change where its links go.
abbrev pub policy : List ℕ
policy =
    codes "default-src 'none'; style-src 'self' 'unsafe-inline'; "
    ++ codes "script-src 'self'; form-action 'self'; "
    ++ codes "frame-ancestors 'none'; base-uri 'none'"

-- what a browser may do with the answer; no other site learns which page a link was on
abbrev pub safety_fields : List Header
safety_fields =
    (codes "x-content-type-options", codes "nosniff")
    ∷ (codes "content-security-policy", policy)
    ∷ (codes "referrer-policy", codes "no-referrer") ∷ []

-- The fields of an answer in this format. What is written for an exporter goes to no browser.
abbrev pub format_fields : Format → List Header
format_fields formats.Protobuf = (codes "content-type", type_of formats.Protobuf) ∷ []
format_fields format = (codes "content-type", type_of format) ∷ safety_fields

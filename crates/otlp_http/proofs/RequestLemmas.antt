-- The text of a request.
use Rattle.std.proofs.Common.{◌≡◌, ℕ, ◌+◌, List, [], ◌∷◌, ◌++◌, length, ap, ◌∙◌, codes, arith}
use Rattle.std.proofs.Common.{append_assoc, append-nil, length-append, ◌≤◌, leb-true, refl, subst}
use Rattle.std.specs.Prelude.{decimal}
use Rattle.std.specs.List.{concat}
use Rattle.otlp_http.specs.Address.{Address}
use Rattle.otlp_http.specs.Fields.{field_lines}
use Rattle.otlp_http.specs.Request.{connection_line, coding_line, request_head, kept_head}
use Rattle.otlp_http.specs.Request.{gzip_head, text_in}
use Rattle.otlp_http.specs.declared.request.Coding.{Coding}
use Rattle.otlp_http.specs.declared.request.Coding.TheVariants.{Identity, Gzip}
use Rattle.otlp_http.specs.declared.request.Connection.{Connection}
use Rattle.otlp_http.specs.declared.request.Connection.TheVariants.{Close, KeepAlive}

-- The parts of six lines, of further ones and of an empty one, one after the other, are the lines.
lines_of_parts :
    (post path version host_name host colon port type size_name size close own end body : List ℕ)
    → post
    ++ (path ++ (version ++ (end ++ (host_name ++ (host ++ (colon ++ (port ++ (end ++ (type ++ (end
    ++ (size_name ++ (size ++ (end ++ (close ++ (end ++ (own ++ (end ++ body)))))))))))))))))
    ≡ ((post ++ path ++ version) ++ end) ++ ((host_name ++ host ++ colon ++ port) ++ end)
    ++ (type ++ end)
    ++ ((size_name ++ size) ++ end) ++ (close ++ end) ++ own ++ end ++ body
lines_of_parts post path version host_name host colon port type size_name size close own end body =
    simp append_assoc

-- The same with one line more.
lines_of_more :
    (post path version host_name host colon port type size_name size coded close own end body
    : List ℕ)
    → post
    ++ (path ++ (version ++ (end ++ (host_name ++ (host ++ (colon ++ (port ++ (end ++ (type ++ (end
    ++ (size_name ++ (size ++ (end ++ (coded ++ (end ++ (close ++ (end ++ (own ++ (end
    ++ body)))))))))))))))))))
    ≡ ((post ++ path ++ version) ++ end) ++ ((host_name ++ host ++ colon ++ port) ++ end)
    ++ (type ++ end)
    ++ ((size_name ++ size) ++ end) ++ (coded ++ end) ++ (close ++ end) ++ own ++ end ++ body
lines_of_more post path version host_name host colon port type size_name size coded close own end
    body =
    simp append_assoc

-- The pieces that are written are the request.
pub concat_request : (coding : Coding) (connection : Connection) (address : Address) (body : List ℕ)
    → concat (codes "POST " ∷ address.path ∷ codes " HTTP/1.1\r\nHost: " ∷ address.host ∷ codes ":"
    ∷ decimal address.port
    ∷ codes "\r\nContent-Type: application/x-protobuf\r\nContent-Length: " ∷ decimal (length body)
    ∷ codes "\r\n" ∷ coding_line coding ∷ connection_line connection ∷ field_lines address.fields
    ∷ codes "\r\n"
    ∷ body ∷ []) ≡ text_in coding connection address body
unfolding request_head kept_head gzip_head
concat_request Identity Close address body =
    lines_of_parts (codes "POST ") address.path (codes " HTTP/1.1") (codes "Host: ") address.host
    (codes ":")
    (decimal address.port) (codes "Content-Type: application/x-protobuf") (codes "Content-Length: ")
    (decimal (length body)) (codes "Connection: close") (field_lines address.fields)
    (codes "\r\n") (body ++ [])
    ∙ ap (λ rest. request_head address (length body) ++ rest) (append-nil body)
concat_request Identity KeepAlive address body =
    lines_of_parts (codes "POST ") address.path (codes " HTTP/1.1") (codes "Host: ") address.host
    (codes ":")
    (decimal address.port) (codes "Content-Type: application/x-protobuf") (codes "Content-Length: ")
    (decimal (length body)) (codes "Connection: keep-alive") (field_lines address.fields)
    (codes "\r\n") (body ++ [])
    ∙ ap (λ rest. kept_head address (length body) ++ rest) (append-nil body)
concat_request Gzip Close address body =
    lines_of_more (codes "POST ") address.path (codes " HTTP/1.1") (codes "Host: ") address.host
    (codes ":")
    (decimal address.port) (codes "Content-Type: application/x-protobuf") (codes "Content-Length: ")
    (decimal (length body)) (codes "Content-Encoding: gzip")
    (codes "Connection: close") (field_lines address.fields)
    (codes "\r\n") (body ++ [])
    ∙ ap (λ rest. gzip_head Close address (length body) ++ rest) (append-nil body)
concat_request Gzip KeepAlive address body =
    lines_of_more (codes "POST ") address.path (codes " HTTP/1.1") (codes "Host: ") address.host
    (codes ":")
    (decimal address.port) (codes "Content-Type: application/x-protobuf") (codes "Content-Length: ")
    (decimal (length body)) (codes "Content-Encoding: gzip")
    (codes "Connection: keep-alive") (field_lines address.fields)
    (codes "\r\n") (body ++ [])
    ∙ ap (λ rest. gzip_head KeepAlive address (length body) ++ rest) (append-nil body)

-- The line that says what a request asks of its connection has at most 24 bytes.
connection_line_short : (connection : Connection) → length (connection_line connection) ≤ 24
connection_line_short Close = leb-true 19 24 refl
connection_line_short KeepAlive = leb-true 24 24 refl

-- The line that says the body's coding has at most 24 bytes.
coding_line_short : (coding : Coding) → length (coding_line coding) ≤ 24
coding_line_short Identity = leb-true 0 24 refl
coding_line_short Gzip = leb-true 24 24 refl

-- The request is no longer than 131 bytes and the parts that vary.
pub length-text_in : (coding : Coding) (connection : Connection) (address : Address)
    (body : List ℕ)
    → length (text_in coding connection address body)
    ≤ 131
    + (length address.path
    + (length address.host
    + (length (field_lines address.fields)
    + (length (decimal address.port) + (length (decimal (length body)) + length body)))))
length-text_in coding connection address body =
    let short = connection_line_short connection in
    let coded = coding_line_short coding in
    subst (λ t. length t
    ≤ 131
    + (length address.path
    + (length address.host
    + (length (field_lines address.fields)
    + (length (decimal address.port) + (length (decimal (length body)) + length body))))))
    (concat_request coding connection address body)
    (simp (length-append, append-nil) (omega (arith, short, coded)))

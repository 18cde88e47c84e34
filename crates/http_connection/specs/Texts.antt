-- The bytes that answer, in the words of `http1`.
use Rattle.std.specs.Prelude.{ℕ, Bool, List, [], ◌++◌, codes, length, if◌then◌else◌}
use Rattle.http1.specs.declared.conn.BodySize.TheVariants.{Unknown}
use Rattle.http1.specs.declared.conn.Limits.{Limits}
use Rattle.http1.specs.declared.error.ReadError.TheVariants.{UnexpectedEof}
use Rattle.http1.specs.declared.server.Server.{Server}
use Rattle.http1.specs.Conn.{after_data, data_text, finish_text}
use Rattle.http1.specs.Head.{response_text}
use Rattle.http1.specs.Server.{after_response, failed_server, new_server, planned_response, writing}
use Rattle.http1_typed.specs.Parts.{reason_of}
use Rattle.http_server.specs.declared.response.Response.{Response}
use Rattle.http_server.specs.Encoding.{after_head, size_of}
use Rattle.http_server.specs.Response.{fields_of}

-- what lets a body come (RFC 9110, section 10.1.1)
abbrev pub continue_text : List ℕ
continue_text = response_text 1 100 (codes "Continue") []

-- how long the parts of a message may be that aren't its body
abbrev pub part_limits : Limits
part_limits = record { max_head_len = 16384; max_extensions_len = 16384; max_trailers_len = 16384 }

-- a server that reads nothing more, so that its response says `connection: close`
abbrev pub refusing : Server
refusing = failed_server (new_server part_limits) UnexpectedEof

-- the whole answer to a request that is refused, without the body to `HEAD`
abbrev pub refusal_text : Bool → Response → List ℕ
refusal_text head r =
    planned_response refusing r.status (reason_of r.status) (size_of r) (fields_of r)
    ++ (if head then [] else data_text (writing (after_head refusing r)) r.body.items)

-- a server that has written the head of a response whose body comes in pieces
abbrev pub opened : Server → Response → Server
opened s r = after_response s r.status Unknown (fields_of r)

-- the head of a response whose body comes in pieces; to `HEAD` the whole response
abbrev pub opening_text : Bool → Server → Response → List ℕ
opening_text head s r =
    planned_response s r.status (reason_of r.status) Unknown (fields_of r)
    ++ (if head then finish_text (writing (opened s r)) [] else [])

-- a piece, and the end of the response where no more follow
abbrev pub piece_text : Bool → Server → List ℕ → List ℕ
piece_text more s piece =
    data_text (writing s) piece
    ++ (if more then [] else finish_text (after_data (writing s) (length piece)) [])

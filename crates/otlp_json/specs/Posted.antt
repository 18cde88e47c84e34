-- What a text means that may have surrogates alone.
use Rattle.std.specs.Prelude.{List, ℕ, Result, Err}
use Rattle.otlp_json.specs.Bodies.{body_bytes}
use Rattle.otlp_json.specs.Mended.{mended}
use Rattle.otlp_json.specs.declared.fault.JsonFault.{JsonFault}
use Rattle.otlp_json.specs.declared.fault.JsonFault.TheVariants as faults

-- what a text means, or where it is no JSON, what it means with U+FFFD for each surrogate alone
abbrev pub or_mended : Result (List ℕ) JsonFault → List ℕ → Result (List ℕ) JsonFault
or_mended (Err faults.Malformed) text = body_bytes (mended text)
or_mended meaning text = meaning

-- The bytes that a text means which is posted. A text of JSON means what it says; of one that is
-- none (a surrogate that is alone is no JSON either), each surrogate that is alone is read as
-- U+FFFD. (profile)
abbrev pub posted_bytes : List ℕ → Result (List ℕ) JsonFault
posted_bytes text = or_mended (body_bytes text) text

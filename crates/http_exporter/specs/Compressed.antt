-- Attempts to send bodies as gzip files. (RFC 9110, section 8.4.1.3; OTLP Specification, OTLP/HTTP
-- Request; one file for all attempts of a body: profile)
use Rattle.std.specs.Prelude.{◌≡◌, ℕ, Bool, true, false, List, Option, Some}
use Rattle.model_desk.specs.Retries.{Outcome}
use Rattle.otlp_http.specs.declared.request.Coding.{Coding}
use Rattle.otlp_http.specs.declared.request.Coding.TheVariants.{Identity, Gzip}
use Rattle.gzip.specs.Streams.{IsFile}

-- whether bodies in this coding are gzip files
abbrev pub is_gzip : Coding → Bool
is_gzip Identity = false
is_gzip Gzip = true

-- a body, and its gzip file
pub record KeptFile : Type 0 where
  pub body : List ℕ
  pub file : List ℕ

-- this body and this file
abbrev pub keeping : List ℕ → List ℕ → Option KeptFile
keeping body file = Some (record { body = body; file = file })

-- an exporter, whether it compresses bodies, and the last body with its file, if it has one
pub record Compressing (Exporter : Type 0) : Type 0 where
  pub exporter : Exporter
  pub is_on : Bool
  pub kept : Option KeptFile

-- The outcome of an attempt. Either the exporter attempted the gzip file of the body, once, in
-- requests that say so; the file is kept, and it is the one that was kept of this body before. Or
-- it attempted the body as it is, and no file of it was kept, or it doesn't compress.
pub data IsCompressedAttempt {Exporter : Type 0}
    (attempts : Exporter → List ℕ → Outcome → Exporter → Type 0)
    (coded : Exporter → Coding → Exporter)
    (body : List ℕ) (old new : Compressing Exporter) (outcome : Outcome) : Type 0 where
  in_gzip : (file : List ℕ) (spent : Exporter) → IsFile file body → old.is_on ≡ true
      → ((before : List ℕ) → old.kept ≡ keeping body before → before ≡ file)
      → attempts (coded old.exporter Gzip) file outcome spent
      → new ≡ record old { exporter = coded spent Identity; kept = keeping body file }
      → IsCompressedAttempt attempts coded body old new outcome
  as_it_is : ((before : List ℕ) → old.is_on ≡ true → ¬ (old.kept ≡ keeping body before))
      → attempts old.exporter body outcome new.exporter → new.is_on ≡ old.is_on
      → IsCompressedAttempt attempts coded body old new outcome

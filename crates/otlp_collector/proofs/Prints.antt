-- What is known of an output while connections are printed.
use Rattle.std.proofs.Common.{◌≡◌, ◌≢◌, refl, sym, ap, subst, ◌∙◌, ℕ, ◌+◌, suc, List, [], ◌∷◌, ◌++◌}
use Rattle.std.proofs.Common.{length, take, Option, arith, append_assoc, append-nil, length-append}
use Rattle.std.proofs.Math.Seq.{take-append-add}
use Rattle.std.proofs.lemmas.List.{take-append-le}
use Rattle.std.specs.Io.KnownBytes.{Appends}
use Rattle.std.proofs.KnownBytes.{Appends-nil, Appends-trans}
use Rattle.std.specs.Prelude.{None, Some, Ok, Err, Result, OnErr, OnOk}
use Rattle.std.proofs.lemmas.List.Elements.{All-nil, All-push}
use Rattle.http_wire.specs.declared.limits.HeadLimits.{HeadLimits}
use Rattle.std.specs.Option.{option_map_or}
use Rattle.model_message.specs.Messages.{triples}
use Rattle.model_message.specs.Tables
use Rattle.model_message.specs.Tables.{Message}
use Rattle.otlp_collector.specs.Lines.{spans_text}
use Rattle.otlp_collector.specs.Printed.{AppendsFront}
use Rattle.otlp_collector.specs.Served.{Outcome, MayBecome, PrintsAll, PrintsConnections, PrintsOne}
use Rattle.otlp_collector.specs.Served.{PrintsServed, collector_limits, connection_text}
use Rattle.otlp_collector.specs.Served.{connections_text, listening_line, no_outcome, nothing}
use Rattle.otlp_collector.specs.Served.{served}

-- ---- fronts

-- An output that gained a front of a text's first part gained a front of the whole text.
pub front-first : (old new : Option (List ℕ)) (first rest : List ℕ) → AppendsFront old new first
    → AppendsFront old new (first ++ rest)
front-first old new first rest h = (
  h.0,
  omega (arith, h.1, length-append first rest),
  subst (Appends old new) (sym (take-append-le h.0 first rest h.1)) h.2,
)

-- An output that gained a text's first part and a front of its rest gained a front of the whole.
pub front-rest : (old now new : Option (List ℕ)) (first rest : List ℕ) → Appends old now first
    → AppendsFront now new rest → AppendsFront old new (first ++ rest)
front-rest old now new first rest f r = (
  length first + r.0,
  omega (arith, r.1, length-append first rest),
  subst (Appends old new) (sym (take-append-add first rest r.0))
      (Appends-trans old now new first (take r.0 rest) f r.2),
)

-- ---- one connection after another

-- Before the first connection, no connection is printed.
pub none-yet : (limits : HeadLimits) (old : Option (List ℕ)) → PrintsConnections limits 0 old old
none-yet limits old = record {
  outcomes = [];
  many = refl;
  each = All-nil (MayBecome limits);
  gained = Appends-nil old;
}

more-text : (number : ℕ) (outcomes : List Outcome) (last : Outcome)
    → connections_text number (outcomes ++ last ∷ [])
    ≡ connections_text number outcomes ++ connection_text (number + length outcomes) last
more-text number [] last =
    let same : number + 0 ≡ number = omega arith in
    append-nil (connection_text number last) ∙ ap (λ n. connection_text n last) (sym same)
more-text number (o ∷ outcomes) last =
    let same : number + 1 + length outcomes ≡ number + suc (length outcomes) = omega arith in
    ap (λ t. connection_text number o ++ t)
    (more-text (number + 1) outcomes last
    ∙ ap (λ n. connections_text (number + 1) outcomes ++ connection_text n last) same)
    ∙ sym (append_assoc (connection_text number o) (connections_text (number + 1) outcomes)
    (connection_text (number + suc (length outcomes)) last))

-- After one more connection is printed, the connections so far are printed.
pub one-more : (limits : HeadLimits) (n : ℕ) (old now new : Option (List ℕ))
    → PrintsConnections limits n old now → PrintsOne limits (n + 1) now new
    → PrintsConnections limits (n + 1) old new
one-more limits n old now new h one =
    let last = one.outcome in
    let more = one.gained in
    let number : 1 + length h.outcomes ≡ n + 1 = rw h.many (omega arith) in
    let text =
    more-text 1 h.outcomes last
    ∙ ap (λ k. connections_text 1 h.outcomes ++ connection_text k last) number in
    record {
      outcomes = h.outcomes ++ last ∷ [];
      many = length-append h.outcomes (last ∷ []) ∙ ap (λ k. k + 1) h.many;
      each = All-push (MayBecome limits) h.outcomes last h.each one.is;
      gained =
          rw text
          (Appends-trans old now new (connections_text 1 h.outcomes)
          (connection_text (n + 1) last) h.gained more);
    }

-- After the line of the port and the lines of the connections, the whole output is printed.
pub all-printed : (port told count max_body : ℕ) (old now new : Option (List ℕ))
    → (port ≢ 0 → told ≡ port) → Appends old now (listening_line told)
    → PrintsConnections (collector_limits max_body) count now new
    → PrintsAll port count max_body old new
all-printed port told count max_body old now new named line h = record {
  told = told;
  named = named;
  outcomes = h.outcomes;
  many = h.many;
  each = h.each;
  gained =
      Appends-trans old now new (listening_line told) (connections_text 1 h.outcomes) line h.gained;
}

-- ---- the line of a connection, and the spans of its request

-- what is printed after the line
abbrev pub spans_part : Option (Message Tables.request) → List ℕ
spans_part request = option_map_or (λ r. spans_text (triples r)) request []

-- A fact that holds anyway holds in the case of an error.
pub on-err : {T E : Type 0} (r : Result T E) (P : Type 0) → P → OnErr r P
on-err (Ok x) P p = tt
on-err (Err e) P p = p

-- What holds of a success carries over to whatever follows from it.
pub ok-weaker : {T E : Type 0} (r : Result T E) (P Q : Type 0) → (P → Q) → OnOk r P → OnOk r Q
ok-weaker (Ok x) P Q f p = f p
ok-weaker (Err e) P Q f p = tt

-- What holds of an error carries over to whatever follows from it.
pub err-weaker : {T E : Type 0} (r : Result T E) (P Q : Type 0) → (P → Q) → OnErr r P → OnErr r Q
err-weaker (Ok x) P Q f p = tt
err-weaker (Err e) P Q f p = f p

-- An output that gained the line and then the spans of a request has both printed.
pub both-printed : {T E : Type 0} (r : Result T E) (old now new : Option (List ℕ)) (line : List ℕ)
    (o : Option (Message Tables.request)) (m : Message Tables.request)
    → o ≡ Some m → Appends old now line
    → OnOk r (Appends now new (spans_text (triples m)))
    → OnOk r (Appends old new (line ++ spans_part o))
both-printed (Ok x) old now new line o m e first rest =
    rw e (Appends-trans old now new line (spans_text (triples m)) first rest)
both-printed (Err x) old now new line o m e first rest = tt

-- An output that gained the line and a front of the spans gained a front of both.
pub both-begun : {T E : Type 0} (r : Result T E) (old now new : Option (List ℕ)) (line : List ℕ)
    (o : Option (Message Tables.request)) (m : Message Tables.request)
    → o ≡ Some m → Appends old now line
    → OnErr r (AppendsFront now new (spans_text (triples m)))
    → OnErr r (AppendsFront old new (line ++ spans_part o))
both-begun (Ok x) old now new line o m e first rest = tt
both-begun (Err x) old now new line o m e first rest =
    rw e (front-rest old now new line (spans_text (triples m)) first rest)

-- An output that gained the line of a connection without a request is complete.
pub line-alone : (old now : Option (List ℕ)) (line : List ℕ) (o : Option (Message Tables.request))
    → o ≡ None → Appends old now line → Appends old now (line ++ spans_part o)
line-alone old now line o e first = rw (e, append-nil line) first

-- ---- one connection

-- A connection whose text says that it had no outcome is printed.
pub one-without : (limits : HeadLimits) (number : ℕ) (old new : Option (List ℕ))
    → Appends old new (connection_text number no_outcome) → PrintsOne limits number old new
one-without limits number old new gained =
    record { outcome = no_outcome; is = nothing refl; gained = gained }

-- A connection that is served and printed is printed as one of those that it may be.
pub one-served : (limits : HeadLimits) (number : ℕ) (old new : Option (List ℕ)) (before after : ℕ)
    (written writes printed prints : Option (List ℕ))
    → PrintsServed limits number old new before after written writes printed prints
    → PrintsOne limits number printed prints
one-served limits number old new before after written writes printed prints h =
    record {
      outcome = h.outcome;
      is = served old new before after written writes h.is;
      gained = h.gained;
    }

-- The text of a connection that was made in memory and is then written is printed.
pub one-written : (limits : HeadLimits) (number : ℕ) (text : List ℕ) (old new : Option (List ℕ))
    → PrintsOne limits number (Some []) (Some text) → Appends old new text
    → PrintsOne limits number old new
one-written limits number text old new h gained =
    record { outcome = h.outcome; is = h.is; gained = subst (Appends old new) h.gained gained }

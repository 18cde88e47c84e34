-- What was gathered of all fields of a message is the message.
use Rattle.std.proofs.Common.{◌≡◌, refl, sym, ap, ap₂, subst, ◌∙◌, ℕ, zero, suc, List, [], ◌∷◌}
use Rattle.std.proofs.Common.{◌++◌, ◌==◌, ◌%◌, ◌^◌, not, Result, Ok, Err, IfOk, IfErr, OnOk}
use Rattle.std.specs.Int.{w32, w64, cast_signed}
use Rattle.std.specs.List.{Contains}
use Rattle.model_message.specs.AnyValue.{AnyValue}
use Rattle.model_message.specs.Reading.{Reading, Reads, done, ◌>>=◌}
use Rattle.model_message.specs.Wire.{Field, Payload, len, row}
use Rattle.model_message.specs.Tables.{Shape, text, bytes, bool, uint32, int64, enum, fixed64}
use Rattle.model_message.specs.Tables.{fixed32, any, message, repeated, Table, end, ◌⦂◌◂◌, ◌▸◌}
use Rattle.model_message.specs.Messages.{PayloadReading, payloads, joined_rows, read, read_table}
use Rattle.model_message.specs.Messages.{utf8, value, max_depth, meaning}
use Rattle.otlp_wire.specs.declared.fault.ReadFault.{ReadFault}
use Rattle.otlp_wire.specs.Faults.{NamesOne}
use Rattle.otlp_wire.specs.Gathering.{Kept, Gathered, IsKept, IsGathered, GathersRow, KeepsField}
use Rattle.otlp_wire.specs.Gathering.{field_faults, part_faults, no_payload, nothing, finished}
use Rattle.otlp_wire.specs.Gathering.{finished_table}
use Rattle.otlp_wire.proofs.JoinedRows.{one-faults, one-value}
use Rattle.otlp_wire.proofs.Named.{Within, names-within, within-left, within-right, within-first}
use Rattle.otlp_wire.proofs.Named.{within-others}
use Rattle.otlp_wire.proofs.LastPayloads.{same-payloads, one-payload, payloads-between}
use Rattle.otlp_wire.proofs.GatherSteps.{part-names, kept-part}

reads-done : {A : Type 0} (r : Reading A) (x : A) → Reads r x → r ≡ done x
reads-done r x h = ap₂ (λ v f. record { value = v; faults = f }) h.1 h.0

mutual
  unfolding read

  -- What is kept of the payloads of a field, read to its end, is what these payloads mean.
  pub kept-is : (values : PayloadReading AnyValue) (s : Shape) (x : Kept s) (ps : List Payload)
      → IsKept values s x ps → read values s ps ≡ finished values s x
  kept-is values text x ps h = ap utf8 (sym h)
  kept-is values bytes x ps h = ap done (sym h)
  kept-is values bool x ps h = ap (λ n. done (not (n == 0))) (sym h)
  kept-is values uint32 x ps h = ap (λ n. done (n % 2 ^ 32)) (sym h)
  kept-is values int64 x ps h = ap (λ n. done (cast_signed w64 n)) (sym h)
  kept-is values enum x ps h = ap (λ n. done (cast_signed w32 (n % 2 ^ 32))) (sym h)
  kept-is values fixed64 x ps h = ap done (sym h)
  kept-is values fixed32 x ps h = ap done (sym h)
  kept-is values any x ps h = ap values (sym h)
  kept-is values (message t) x ps h =
      let r = read_table values t (joined_rows ps).value in
      ap (λ l. record { value = r.value; faults = l ++ r.faults }) h.0
      ∙ gathered-is values t x (joined_rows ps).value h.1
  kept-is values (repeated s) xs ps h = reads-done (read values (repeated s) ps) xs h

  -- What was gathered of the fields of a message, read to its end, is what these fields mean.
  pub gathered-is : (values : PayloadReading AnyValue) (t : Table) (x : Gathered t)
      (fields : List Field)
      → IsGathered values t x fields → read_table values t fields ≡ finished_table values t x
  gathered-is values end x fields h = refl
  gathered-is values (n ⦂ s ◂ t) x fields h =
      ap₂ (λ a b. a >>= λ first. b >>= λ others. done (first ▸ others))
      (kept-is values s x.0 (payloads n s fields) h.0) (gathered-is values t x.1 fields h.1)

mutual
  unfolding read payloads joined_rows

  none-kept : (values : PayloadReading AnyValue) (s : Shape) → IsKept values s (no_payload s) []
  none-kept values text = refl
  none-kept values bytes = refl
  none-kept values bool = refl
  none-kept values uint32 = refl
  none-kept values int64 = refl
  none-kept values enum = refl
  none-kept values fixed64 = refl
  none-kept values fixed32 = refl
  none-kept values any = refl
  none-kept values (message t) = (refl, none-gathered values t)
  none-kept values (repeated s) = (refl, refl)

  none-gathered : (values : PayloadReading AnyValue) (t : Table)
      → IsGathered values t (nothing t) []
  none-gathered values end = tt
  none-gathered values (n ⦂ s ◂ t) = (none-kept values s, none-gathered values t)

-- A message of one payload is read as what was gathered of that payload's fields.
pub message-is : (values : PayloadReading AnyValue) (t : Table) (old new : Gathered t)
    (content : List ℕ)
    → old ≡ nothing t → GathersRow values t old new content → (row content).faults ≡ [] →
    read values (message t) (len content ∷ []) ≡ finished values (message t) new
message-is values t old new content e step good =
    kept-is values (message t) new (len content ∷ [])
    (kept-part values t old new content step good []
    (subst (λ x. IsKept values (message t) x []) (sym e) (none-kept values (message t))))

-- The meaning of a body is what one length-delimited payload of the same bytes means.
pub meaning-is : (t : Table) (body : List ℕ)
    → meaning t body ≡ read (value max_depth) (message t) (len body ∷ [])
unfolding meaning read
meaning-is t body =
    ap₂ (λ v f. record {
      value = (read_table (value max_depth) t v).value;
      faults = f ++ (read_table (value max_depth) t v).faults;
    })
    (sym (one-value (len body))) (sym (one-faults (len body)))

-- ---- a message in a field

module _ (t : Table) (n : ℕ) (f : Field) where
  -- A field that is not this one of the table leaves what is kept of the message as it was.
  pub in-skips : (x : Gathered t) → payloads n (message t) (f ∷ []) ≡ []
      → KeepsField (message t) n x x f
  in-skips x e fields h =
      subst (λ ps. IsKept (value max_depth) (message t) x ps)
      (sym (same-payloads n (message t) fields f e)) h

  -- The fields of one more payload are added to what is kept of a message field.
  pub in-more : (x y : Gathered t) (content : List ℕ)
      → payloads n (message t) (f ∷ []) ≡ len content ∷ []
      → GathersRow (value max_depth) t x y content → (row content).faults ≡ []
      → KeepsField (message t) n x y f
  in-more x y content e step good fields h =
      subst (λ ps. IsKept (value max_depth) (message t) y ps)
      (sym (one-payload n (message t) fields f (len content) e))
      (kept-part (value max_depth) t x y content step good (payloads n (message t) fields) h)

  -- A fault of the content of a message field is a fault of that field of the table.
  pub in-fails : (content : List ℕ) → payloads n (message t) (f ∷ []) ≡ len content ∷ []
      → (fault : ReadFault)
      → ((before after : List Field)
      → NamesOne (part_faults (value max_depth) t before content after) fault) →
      (before after : List Field) → NamesOne (field_faults (message t) n before f after) fault
  in-fails content e fault h before after =
      subst (λ ps. NamesOne (read (value max_depth) (message t) ps).faults fault)
      (sym (payloads-between n (message t) before after f (len content) e))
      (part-names (value max_depth) t (payloads n (message t) before)
      (payloads n (message t) after) content fault (h _ _))

-- ---- a field of a table by its place

abbrev pub suffix : ℕ → Table → Table
suffix zero t = t
suffix (suc k) end = end
suffix (suc k) (n ⦂ s ◂ t) = suffix k t

within-suffix : (values : PayloadReading AnyValue) (k : ℕ) (t : Table) (fields : List Field)
    → Within (read_table values (suffix k t) fields).faults (read_table values t fields).faults
within-suffix values zero t fields x h = h
within-suffix values (suc k) end fields x h = h
within-suffix values (suc k) (n ⦂ s ◂ t) fields x h =
    within-others values n s t fields x (within-suffix values k t fields x h)

-- A fault that a field of the table has is a fault of the whole table.
pub place-fails : (k : ℕ) (t rest : Table) (n : ℕ) (s : Shape) → suffix k t ≡ (n ⦂ s ◂ rest)
    → (f : Field) (fault : ReadFault)
    → ((before after : List Field) → NamesOne (field_faults s n before f after) fault) →
    (before after : List Field)
    → NamesOne (read_table (value max_depth) t (before ++ f ∷ after)).faults fault
place-fails k t rest n s e f fault h before after =
    let fields = before ++ f ∷ after in
    names-within (read (value max_depth) s (payloads n s fields)).faults
    (read_table (value max_depth) t fields).faults
    (λ x m. within-suffix (value max_depth) k t fields x
    (subst (λ u. Contains (read_table (value max_depth) u fields).faults x) (sym e)
    (within-first (value max_depth) n s rest fields x m)))
    fault
    (h before after)

-- ---- results

-- What holds of the value of an `Ok` may be weakened.
pub on-ok : {T E : Type 0} {P Q : T → Type 0} (r : Result T E) → ((x : T) → P x → Q x) → IfOk r P
    → IfOk r Q
on-ok (Ok x) f h = f x h
on-ok (Err e) f h = tt

-- What holds of the error of an `Err` may be weakened.
pub on-err : {T E : Type 0} {P Q : E → Type 0} (r : Result T E) → ((x : E) → P x → Q x) → IfErr r P
    → IfErr r Q
on-err (Ok x) f h = tt
on-err (Err e) f h = f e h

-- Two statements about an `Ok` may be joined to one.
pub both-ok : {T E : Type 0} {P Q R : Type 0} (r : Result T E) → (P → Q → R) → OnOk r P → OnOk r Q
    → OnOk r R
both-ok (Ok x) f p q = f p q
both-ok (Err e) f p q = tt

-- ---- what was gathered

-- A fault in the first field of what was gathered is a fault of the whole.
pub finished-first : (values : PayloadReading AnyValue) (n : ℕ) (s : Shape) (t : Table)
    (x : Gathered (n ⦂ s ◂ t))
    → Within (finished values s x.0).faults (finished_table values (n ⦂ s ◂ t) x).faults
finished-first values n s t x y h =
    within-left (finished values s x.0).faults ((finished_table values t x.1).faults ++ []) y h

-- A fault in the fields after the first of what was gathered is a fault of the whole.
pub finished-others : (values : PayloadReading AnyValue) (n : ℕ) (s : Shape) (t : Table)
    (x : Gathered (n ⦂ s ◂ t))
    → Within (finished_table values t x.1).faults (finished_table values (n ⦂ s ◂ t) x).faults
finished-others values n s t x y h =
    within-right (finished values s x.0).faults ((finished_table values t x.1).faults ++ []) y
    (within-left (finished_table values t x.1).faults [] y h)

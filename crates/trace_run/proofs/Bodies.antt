-- The bodies that were sent stay those of their batches.
use Rattle.std.proofs.Common.{◌≡◌, sym, ap, subst, ◌∙◌, ℕ, zero, suc, ◌+◌, ◌≤◌, arith, refl, Option}
use Rattle.std.proofs.Common.{Some, slice_get, List, [], ◌∷◌, ◌++◌, length, length-append}
use Rattle.std.specs.Option.{option_to_list}
use Rattle.std.specs.List.{AllByRecursion}
use Rattle.std.proofs.lemmas.List.Elements.{filter_map-append}
use Rattle.model_message.specs.Reading.{Reads}
use Rattle.model_message.specs.Messages.{body_meaning}
use Rattle.model_export.specs.Export.{groups, grouped_triples}
use Rattle.model_desk.specs.Queue.{DeskEvent, batch_sizes, batch_spans, last_batch, size_of_take}
use Rattle.model_desk.specs.Desks.{Desk, IsDesk, AreAllowed}
use Rattle.model_run.specs.Queues.{BatchesStay}
use Rattle.model_run.specs.History.{Setup}
use Rattle.model_run.specs.Runs.{Answered, event_by, desk_events}
use Rattle.model_run.specs.Answers.{RunConfig}
use Rattle.model_run.specs.Headline.{EachOnce, attempts, AreNumbered}
use Rattle.model_run.proofs.More.{events-more}
use Rattle.model_run.specs.Laws.{HandedAreTheBatches, LedgerNamesTheDropped}
use Rattle.otlp_proto.specs.Bodies.{body_bytes}
use Rattle.span_exporter.specs.Handed.{Handed}
use Rattle.trace_run.specs.State.{HasItsBody, TellsAll}
use Rattle.trace_run.specs.Headline.{MeansItsBatch, RepeatsBytes, AreAsEnded, IsTold, Headline}
use Rattle.trace_run.specs.Headline.{IsCanonical, AreCanonical}

last-grows : (events more : List DeskEvent) → last_batch events ≤ last_batch (events ++ more)
last-grows events more =
    let n : last_batch (events ++ more) ≡ last_batch events + length (batch_sizes more) =
    ap length (filter_map-append size_of_take events more)
    ∙ length-append (batch_sizes events) (batch_sizes more) in
    omega (arith, n)

-- A handed body is still that of its batch after one more step of the run.
pub body-stays : BatchesStay → (setup : Setup) (h : List Answered) (x : Answered) (desk : Desk)
    → IsDesk 0 (desk_events setup (h ++ x ∷ [])) desk → (handed : Handed)
    → HasItsBody setup h handed → HasItsBody setup (h ++ x ∷ []) handed
body-stays stay setup h x desk after handed m = record {
  means = record {
    numbered = m.means.numbered;
    taken =
        let grown : last_batch (desk_events setup h)
        ≤ last_batch (desk_events setup (h ++ x ∷ [])) =
        subst (λ (es : List DeskEvent). last_batch (desk_events setup h) ≤ last_batch es)
        (sym grows) (last-grows (desk_events setup h) more) in
        omega (arith, grown, m.means.taken);
    body =
        subst (λ spans. Reads (body_meaning handed.body) (grouped_triples spans))
        (sym same) m.means.body;
  };
  bytes = m.bytes ∙ ap (λ spans. body_bytes (groups spans)) (sym same);
}
  where
    more : List DeskEvent
    more = option_to_list (event_by setup h x.answer x.step)

    grows : desk_events setup (h ++ x ∷ []) ≡ desk_events setup h ++ more
    grows = events-more setup h x (event_by setup h x.answer x.step) refl

    same : batch_spans (desk_events setup (h ++ x ∷ [])) handed.number
        ≡ batch_spans (desk_events setup h) handed.number
    same =
        ap (λ es. batch_spans es handed.number) grows
        ∙ stay desk.config 0 (desk_events setup h) more handed.number
        (subst (AreAllowed desk.config 0) grows after.allowed) m.means.numbered m.means.taken

-- ---- each retry repeats the bytes

at-index : (P : Handed → Type 0) (xs : List Handed) → AllByRecursion P xs → (i : ℕ) (x : Handed)
    → slice_get xs i ≡ Some x → P x
at-index P [] all i x e = cc
at-index P (y ∷ xs) all zero x e = let same : y ≡ x = cc in subst P same all.0
at-index P (y ∷ xs) all (suc i) x e = at-index P xs all.1 i x e

-- The attempts of one batch have the same bytes.
repeats : (setup : Setup) (h : List Answered) (more : List Handed)
    → AllByRecursion (HasItsBody setup h) more → RepeatsBytes more
repeats setup h more all i j a b e f n =
    let first : HasItsBody setup h a = at-index (HasItsBody setup h) more all i a e in
    let second : HasItsBody setup h b = at-index (HasItsBody setup h) more all j b f in
    first.bytes ∙ ap (λ k. body_bytes (groups (batch_spans (desk_events setup h) k))) n
    ∙ sym second.bytes

-- ---- what an exporter shows, and the attempts that the answers speak of

all-mean : (setup : Setup) (h : List Answered) (more : List Handed)
    → AllByRecursion (HasItsBody setup h) more → AllByRecursion (MeansItsBatch setup h) more
all-mean setup h [] all = tt
all-mean setup h (x ∷ more) all =
    let one : HasItsBody setup h x = all.0 in (one.means, all-mean setup h more all.1)

all-canonical : (setup : Setup) (h : List Answered) (more : List Handed)
    → AllByRecursion (HasItsBody setup h) more → AllByRecursion (IsCanonical setup h) more
all-canonical setup h [] all = tt
all-canonical setup h (x ∷ more) all =
    let one : HasItsBody setup h x = all.0 in (one.bytes, all-canonical setup h more all.1)

module _ (run : RunConfig) (h : List Answered) (old new : Option (List Handed))
    (t : TellsAll (attempts h) (HasItsBody run.setup h) old new) where
  told-is : IsTold h old new t.more
  told-is = record { gains = t.gains; are = t.are }

  -- An exporter that shows all attempts, each with the body of its batch, gives the run's headline.
  pub headline : EachOnce run.setup h → AreAsEnded run.setup h → LedgerNamesTheDropped run h
      → HandedAreTheBatches run.setup h (attempts h) → AreNumbered (attempts h)
      → Headline run h old new
  headline once values ledger handed numbered = record {
    each_once = once;
    values = values;
    ledger = ledger;
    more = t.more;
    told = told-is;
    handed = subst (HandedAreTheBatches run.setup h) (sym t.are) handed;
    bodies = all-mean run.setup h t.more t.bodies;
    numbered = subst AreNumbered (sym t.are) numbered;
    repeats = repeats run.setup h t.more t.bodies;
  }

  -- All bodies that the exporter has gained are written as the canon has it.
  pub canonical : AreCanonical run h old new
  canonical =
      record { more = t.more; told = told-is; bytes = all-canonical run.setup h t.more t.bodies }

-- Why spans were dropped, and why they were lost.
use Rattle.std.proofs.Common.{◌≡◌, ℕ, true, false, List, [], ◌∷◌, sym, refl, ap, ◌∙◌, subst}
use Rattle.std.specs.Prelude.{◌≢◌, map, Option, Some, None}
use Rattle.std.specs.List.{AllByRecursion, flat_map}
use Rattle.std.proofs.lemmas.Grind.{flat_map-append}
use Rattle.account_book.proofs.Facts.{each_append, each_map}
use Rattle.model_span.specs.Spans.{SpanData}
use Rattle.model_span.specs.Dropped.{Reason, queue_full, encode_memory, too_large, Entry}
use Rattle.model_span.specs.Dropped.{can_drop_batch, entry_of, is_lost}
use Rattle.model_export.specs.Export.{LacksBody}
use Rattle.model_desk.specs.Retries.{Fate, Outcome}
use Rattle.model_desk.specs.Queue.{lost_names}
use Rattle.model_processor.specs.Passes.{PassAccount, all_dropped, dropped_entries}
use Rattle.model_processor.specs.Worker.{BatchEnd, settled, dropped, EndedBatch, OutBatch}
use Rattle.model_processor.specs.Worker.{WorkerAccount, entries_by, lost_entries_by, worker_entries}
use Rattle.model_processor.specs.Batches.{EndByWork, IsByWork, IsEndByWork, Origin, abandon_out}
use Rattle.model_processor.specs.Batches.{end_of}
use Rattle.model_processor.specs.WorkerClauses.{all_entries}
use Rattle.model_processor.specs.Kept.{DropAsFull}

-- the entry's reason is one for which a batch may be dropped
abbrev OfBatch : Entry → Type 0
OfBatch e = can_drop_batch e.reason ≡ true

lack_can_drop : (max_body : ℕ) (spans : List SpanData) (reason : Reason)
    → LacksBody max_body spans reason → can_drop_batch reason ≡ true
lack_can_drop max_body spans encode_memory lacks = refl
lack_can_drop max_body spans too_large lacks = refl
lack_can_drop max_body spans queue_full lacks = absurd lacks
lack_can_drop max_body spans Reason.abandoned lacks = absurd lacks
lack_can_drop max_body spans (Reason.refused status) lacks = absurd lacks
lack_can_drop max_body spans Reason.bad_reply lacks = absurd lacks
lack_can_drop max_body spans Reason.given_up lacks = absurd lacks
lack_can_drop max_body spans Reason.left_handed lacks = absurd lacks

entries_of_batch : (reason : Reason) (spans : List SpanData) → can_drop_batch reason ≡ true
    → AllByRecursion OfBatch (map (entry_of reason) spans)
entries_of_batch reason [] can = tt
entries_of_batch reason (s ∷ spans) can = (can, entries_of_batch reason spans can)

end_of_batch : (origin : Origin) (spans : List SpanData) (ending : BatchEnd)
    → IsEndByWork origin spans ending → AllByRecursion OfBatch (entries_by ending spans)
end_of_batch origin spans (settled body outcomes fate) by_work = tt
end_of_batch origin spans (dropped reason) lacks =
    entries_of_batch reason spans (lack_can_drop origin.max_body spans reason lacks)

abbrev entries_in : EndedBatch → List Entry
entries_in b = entries_by b.ending b.spans

ended_of_batch : (origin : Origin) (ended : List EndedBatch)
    → AllByRecursion (IsByWork origin) ended → AllByRecursion OfBatch (flat_map entries_in ended)
ended_of_batch origin [] all = tt
ended_of_batch origin (b ∷ ended) all =
    each_append OfBatch (entries_in b) (flat_map entries_in ended)
    (end_of_batch origin b.spans b.ending all.0.ending) (ended_of_batch origin ended all.1)

abandoned_of_batch : (spans : List SpanData) (body : Option (List ℕ)) (outcomes : List Outcome)
    → AllByRecursion OfBatch (entries_by (end_of body outcomes) spans)
abandoned_of_batch spans None outcomes = entries_of_batch Reason.abandoned spans refl
abandoned_of_batch spans (Some body) outcomes = tt

out_of_batch : (out : Option OutBatch)
    → AllByRecursion OfBatch (flat_map entries_in (abandon_out out))
out_of_batch None = tt
out_of_batch (Some b) =
    each_append OfBatch (entries_by (end_of b.body b.outcomes) b.spans) []
    (abandoned_of_batch b.spans b.body b.outcomes) tt

-- Batches are dropped for such reasons alone, by work as well as where one is abandoned.
all_of_batch : (origin : Origin) (w : WorkerAccount) → EndByWork origin w
    → AllByRecursion OfBatch (worker_entries w)
all_of_batch origin w k =
    subst (AllByRecursion OfBatch)
    (sym
    (ap (flat_map entries_in) k.ended ∙ flat_map-append entries_in k.earlier (abandon_out k.last)))
    (each_append OfBatch (flat_map entries_in k.earlier) (flat_map entries_in (abandon_out k.last))
    (ended_of_batch origin k.earlier k.by_work) (out_of_batch k.last))

of_batch_not_full : (reason : Reason) → can_drop_batch reason ≡ true → reason ≢ queue_full
of_batch_not_full reason can full = absurd (let e = ap can_drop_batch full in cc)

-- The worker drops no span for the reason that the queue was full.
pub none_full : (origin : Origin) (w : WorkerAccount) → EndByWork origin w
    → AllByRecursion (λ (e : Entry). e.reason ≢ queue_full) (worker_entries w)
none_full origin w k =
    each_map OfBatch (λ (e : Entry). e.reason ≢ queue_full) (worker_entries w)
    (λ e can. of_batch_not_full e.reason can) (all_of_batch origin w k)

-- ---- dropped and lost

of_batch_not_lost : (reason : Reason) → can_drop_batch reason ≡ true → is_lost reason ≡ false
of_batch_not_lost encode_memory can = refl
of_batch_not_lost too_large can = refl
of_batch_not_lost queue_full can = refl
of_batch_not_lost Reason.abandoned can = refl
of_batch_not_lost (Reason.refused status) can = cc
of_batch_not_lost Reason.bad_reply can = cc
of_batch_not_lost Reason.given_up can = cc
of_batch_not_lost Reason.left_handed can = cc

abbrev NotLost : Entry → Type 0
NotLost e = is_lost e.reason ≡ false

passes_not_lost : (passes : List PassAccount) → DropAsFull passes
    → AllByRecursion NotLost (all_dropped passes)
passes_not_lost [] all = tt
passes_not_lost (a ∷ passes) all =
    each_append NotLost (dropped_entries a) (all_dropped passes)
    (each_map (λ (e : Entry). e.reason ≡ queue_full) NotLost (dropped_entries a)
    (λ e full. ap is_lost full) all.0)
    (passes_not_lost passes all.1)

-- No dropped span has the reason of a lost one.
pub none_lost : (origin : Origin) (passes : List PassAccount) (w : WorkerAccount)
    → DropAsFull passes → EndByWork origin w → AllByRecursion NotLost (all_entries passes w)
none_lost origin passes w full k =
    each_append NotLost (all_dropped passes) (worker_entries w) (passes_not_lost passes full)
    (each_map OfBatch NotLost (worker_entries w) (λ e can. of_batch_not_lost e.reason can)
    (all_of_batch origin w k))

abbrev Lost : Entry → Type 0
Lost e = is_lost e.reason ≡ true

entries_lost : (reason : Reason) (spans : List SpanData) → is_lost reason ≡ true
    → AllByRecursion Lost (map (entry_of reason) spans)
entries_lost reason [] lost = tt
entries_lost reason (s ∷ spans) lost = (lost, entries_lost reason spans lost)

names_lost : (fate : Fate) (spans : List SpanData) → AllByRecursion Lost (lost_names fate spans)
names_lost Fate.delivered spans = tt
names_lost (Fate.partial rejected) spans = tt
names_lost (Fate.refused status) spans = entries_lost (Reason.refused status) spans refl
names_lost Fate.bad_reply spans = entries_lost Reason.bad_reply spans refl
names_lost Fate.given_up spans = entries_lost Reason.given_up spans refl
names_lost Fate.abandoned spans = entries_lost Reason.left_handed spans refl

end_lost : (ending : BatchEnd) (spans : List SpanData)
    → AllByRecursion Lost (lost_entries_by ending spans)
end_lost (settled body outcomes fate) spans = names_lost fate spans
end_lost (dropped reason) spans = tt

-- Each lost span has a reason of lost spans.
pub all_lost : (ended : List EndedBatch)
    → AllByRecursion Lost (flat_map (λ (b : EndedBatch). lost_entries_by b.ending b.spans) ended)
all_lost [] = tt
all_lost (b ∷ ended) =
    each_append Lost (lost_entries_by b.ending b.spans)
    (flat_map (λ (b : EndedBatch). lost_entries_by b.ending b.spans) ended)
    (end_lost b.ending b.spans) (all_lost ended)

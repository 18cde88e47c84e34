-- What one more item makes of those that are kept, and which calls take memory.
use Rattle.std.specs.Prelude.{◌≡◌, ℕ, ◌+◌, ◌<◌, List, [], ◌∷◌, ◌++◌, length, false}
use Rattle.model_span.specs.Attributes.{Attribute, Kept, capped_count}
use Rattle.model_span.specs.Spans.{Call, Context, SpanRecord, is_ignored, unset, ok, set_attribute}
use Rattle.model_span.specs.Spans.{add_event, record_exception, add_link, set_status, update_name}
use Rattle.model_span.specs.Spans.{end}
use Rattle.otlp_value.specs.AttributeList.{TakesPlace}
use Rattle.otlp_span.specs.Parts.{attributes_of}

-- there is room for one more
abbrev pub KeepsOneMore : {A : Type 0} → ℕ → Kept A → Type 0
KeepsOneMore limit kept = length kept.items < limit

-- one more, which is kept
abbrev pub one_kept : {A : Type 0} → Kept A → A → Kept A
one_kept kept x = record { items = kept.items ++ x ∷ []; dropped = kept.dropped }

-- one more, which is only counted
abbrev pub one_counted : {A : Type 0} → Kept A → Kept A
one_counted kept = record { items = kept.items; dropped = capped_count (kept.dropped + 1) }

-- The link is kept: it says something, and there is room for it.
pub record KeepsLink (to : Context) (pairs : List Attribute) (r : SpanRecord) : Type 0 where
  pub counts : is_ignored to pairs ≡ false
  pub room : KeepsOneMore r.limits.links r.span.links

-- What the call adds is kept, and so takes memory: a new attribute, an event or a link.
abbrev pub CallTakesMemory : Call → SpanRecord → Type 0
CallTakesMemory (set_attribute p) r = TakesPlace p.key (attributes_of r)
CallTakesMemory (add_event name at pairs) r = KeepsOneMore r.limits.events r.span.events
CallTakesMemory (record_exception kind message stack at pairs) r =
    KeepsOneMore r.limits.events r.span.events
CallTakesMemory (add_link to pairs) r = KeepsLink to pairs r
CallTakesMemory (set_status status) r = ⊥
CallTakesMemory (update_name name) r = ⊥
CallTakesMemory (end at) r = ⊥

-- The call has texts or lists: all but an end and a status without a description have.
abbrev pub HoldsText : Call → Type 0
HoldsText (set_status unset) = ⊥
HoldsText (set_status ok) = ⊥
HoldsText (end at) = ⊥
HoldsText _ = Unit {0}

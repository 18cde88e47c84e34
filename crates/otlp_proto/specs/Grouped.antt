-- The spans of groups, in the order in which a request has them.
use Rattle.std.specs.Prelude.{List, flat_map}
use Rattle.model_span.specs.Spans.{SpanData}
use Rattle.model_export.specs.Export.{ResourceGroup}

-- of one resource, scope by scope
abbrev pub spans_in : ResourceGroup → List SpanData
spans_in group = flat_map (λ scope. scope.items) group.items

-- of all of them
abbrev pub all_spans : List ResourceGroup → List SpanData
all_spans groups = flat_map spans_in groups

use Rattle.std.proofs.Common.{refl}
use Rattle.worked_trace.specs.Hex.{hex}
use Rattle.worked_trace.specs.Read.{read}
use Rattle.worked_trace.specs.Samples.{ended_span_of}
use Rattle.worked_trace.specs.Written.{body, request_with}
use Rattle.model_export.specs.Export.{grouped_triples}
use Rattle.worked_trace.proofs.bodies.read_back.Goals as goal

pub returns : goal.returns
unfolding hex ended_span_of body request_with read grouped_triples
returns c = record {
  no_spans = record { request = refl; triples = refl };
  one_span = record { request = refl; triples = refl };
  one_span_with_attribute = record { request = refl; triples = refl };
  two_equal_spans = record { request = refl; triples = refl };
  parent_and_child = record { request = refl; triples = refl };
  trace_state = record { request = refl; triples = refl };
  child_of_remote = record { request = refl; triples = refl };
  two_scopes = record { request = refl; triples = refl };
  first_scope_again = record { request = refl; triples = refl };
  two_resources = record { request = refl; triples = refl };
  attributes_of_both = record { request = refl; triples = refl };
}

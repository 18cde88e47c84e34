-- The specifications that contracts of this kit cite, from one place.
pub use Rattle.model_message.specs.Reading
pub use Rattle.model_message.specs.Messages
pub use Rattle.model_message.specs.Tables
pub use Rattle.model_span.specs.Attributes
pub use Rattle.model_span.specs.Identifiers
pub use Rattle.model_span.specs.Sampling
pub use Rattle.model_span.specs.Spans
pub use Rattle.model_span.specs.Starts
pub use Rattle.model_span.specs.Dropped
pub use Rattle.model_desk.specs.Desks
pub use Rattle.model_desk.specs.Queue
pub use Rattle.model_desk.specs.Retries
pub use Rattle.model_desk.specs.Waits
pub use Rattle.model_export.specs.Export
pub use Rattle.otlp_ids.specs.SpanContext
pub use Rattle.otlp_ids.specs.WordStream
pub use Rattle.otlp_value.specs.AttributeList
pub use Rattle.otlp_value.specs.Value
pub use Rattle.otlp_span.specs.Parts
pub use Rattle.otlp_span.specs.Recording
pub use Rattle.otlp_span.specs.Dropped as DroppedViews
pub use Rattle.otlp_span.specs.Slips
pub use Rattle.otlp_sampler.specs.Sampling as SamplerViews
pub use Rattle.otlp_proto.specs.Group
pub use Rattle.otlp_proto.specs.Encode
pub use Rattle.otlp_proto.specs.Bodies
pub use Rattle.otlp_wire.specs.Fields as WireFields
pub use Rattle.otlp_wire.specs.Response
pub use Rattle.trace_api.specs.Calls
pub use Rattle.trace_api.specs.Pass
pub use Rattle.trace_api.specs.Starts as TracerStarts
pub use Rattle.trace_api.specs.ExtCalls as ShortCalls
pub use Rattle.trace_api.specs.Lent
pub use Rattle.span_exporter.specs.Handed
pub use Rattle.span_exporter.specs.Memory as ExporterMemory
pub use Rattle.span_exporter.specs.Room as ExporterRoom
pub use Rattle.span_exporter.specs.Views as ExporterViews
pub use Rattle.span_ring.specs.SpanRing
pub use Rattle.span_ring.specs.Run as RingRun
pub use Rattle.batch_desk.specs.Desk as DeskCalls
pub use Rattle.batch_desk.specs.Batch
pub use Rattle.batch_desk.specs.Counts as DeskCounts
pub use Rattle.batch_desk.specs.Views as DeskViews
pub use Rattle.retry_core.specs.Retries as RetryViews
pub use Rattle.model_processor.specs.Passes
pub use Rattle.model_processor.specs.PassClauses as PassClauses
pub use Rattle.model_processor.specs.Holders as AccountHolders
pub use Rattle.processor_account.specs.Views as AccountViews
pub use Rattle.simple_processor.specs.Accounts as PassAccounts
pub use Rattle.simple_processor.specs.Bodies as PassBodies
pub use Rattle.simple_processor.specs.Kept as PassKept
pub use Rattle.simple_processor.specs.AnyAccounts as PassHolders
pub use Rattle.model_processor.specs.Worker as BatchWorker
pub use Rattle.model_processor.specs.AnyAccounts as BatchHolders
pub use Rattle.model_processor.specs.Batches as BatchSends
pub use Rattle.model_processor.specs.WorkerClauses as BatchClauses
pub use Rattle.model_processor.specs.Kept as BatchKept
pub use Rattle.batch_processor.specs.Views as BatchViews
pub use Rattle.batch_processor.specs.Answers as BatchAnswers
pub use Rattle.batch_processor.specs.Holds as BatchHolds
pub use Rattle.batch_processor.specs.Attempts as BatchWorking
pub use Rattle.otlp_http.specs.Address
pub use Rattle.otlp_http.specs.Fields as RequestFields
pub use Rattle.http_wire.specs.Devices
pub use Rattle.otlp_http.specs.Request
pub use Rattle.otlp_http.specs.Replies
pub use Rattle.otlp_http.specs.Outcomes
pub use Rattle.trace_api.specs.Words

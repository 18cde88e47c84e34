-- What the passes of a processor know, and what follows from it.
pub mod Passes
pub mod PassClauses
-- What the passes and the worker of a batch processor know, and what follows from it.
pub mod Worker
pub mod Batches
pub mod WorkerClauses
pub mod Holders
pub mod AnyAccounts
pub mod Kept

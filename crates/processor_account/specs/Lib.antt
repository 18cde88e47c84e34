-- What the answers that a pass and a worker get add to their accounts.
pub mod Views
